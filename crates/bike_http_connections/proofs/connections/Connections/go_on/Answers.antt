use Rattle.bike_http_connections.proofs.Opening.{loses_open}
use Rattle.bike_http_connections.specs.Table.{clients_of}
use Rattle.bike_http_connections.proofs.connections.Connections.go_on.Goals as goal

pub returns : goal.returns
returns g c known = loses_open c.args.self.now (clients_of c.self.inside.connections) (clients_of c.go_on.new.self) _ c.self.view_is (c.go_on.ensures.kept known)
