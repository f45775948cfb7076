use Rattle.bike_http_connections.proofs.Opening.{loses_open}
use Rattle.bike_http_connections.specs.Table.{clients_of}
use Rattle.bike_http_connections.proofs.connections.Connections.give_up.Goals as goal

pub returns : goal.returns
returns g c = loses_open c.args.self.now (clients_of c.self.inside.connections) (clients_of c.give_up.new.self) _ c.self.view_is c.give_up.ensures.lost
