use Rattle.bike_http_connections.proofs.Opening.{gives_in}
use Rattle.bike_http_connections.specs.Table.{clients_of}
use Rattle.bike_http_connections.proofs.connections.Connections.next_short.Goals as goal

pub returns : goal.returns
returns g c =
    gives_in g.N.Socket.Socket.input g.N.Socket.Socket.coming g.N.Socket.Socket.taken g.N.Socket.Socket.is_known c.args.self.now (clients_of c.self.inside.connections) _ _ c.next.result c.self.view_is c.next.ensures.gives
