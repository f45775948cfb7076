use Rattle.std.proofs.Common.{◌++◌, map, refl}
use Rattle.bike_http_connections.specs.Ahead.{fresh}
use Rattle.bike_http_connections.specs.Table.{clients_of}
use Rattle.bike_http_connections.proofs.Losing.{loses_then}
use Rattle.bike_http_connections.proofs.Opening.{loses_open, loses_coming}
use Rattle.bike_http_connections.proofs.connections.Connections.begin_closing.Goals as goal

pub returns : goal.returns
returns g c known =
    let it = c.self.inside in
    let opened = clients_of it.connections in
    let left = map fresh (g.N.Network.ahead c.close.new.self) in
    loses_then c.args.self.now (opened ++ left) _
    (loses_coming c.args.self.now opened (g.N.Network.ahead it.network) (g.N.Network.ahead c.close.new.self) c.self.view_is (c.close.ensures known))
    (loses_open (opened ++ left) opened (clients_of c.close-2.new.self) left refl c.close-2.ensures)
