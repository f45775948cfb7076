use Rattle.std.proofs.Common.{◌∷◌, [], map}
use Rattle.bike_http_connection.specs.Connected.{begun_as}
use Rattle.bike_http_connections.specs.Ahead.{fresh}
use Rattle.bike_http_connections.proofs.Losing.{loses_front, loses_none}
use Rattle.bike_http_connections.proofs.Staying.{stay_open}
use Rattle.bike_http_connections.proofs.Opening.{taken_in}
use Rattle.bike_http_connections.specs.Table.{clients_of}
use Rattle.bike_http_connections.proofs.connections.Connections.take_in.Goals as goal

pub returns-clause-kept : goal.returns-clause-kept
returns-clause-kept g c known =
    taken_in c.args.self.now (clients_of c.self.inside.connections) (clients_of c.insert.new.self) (map fresh (g.N.Network.ahead c.self.inside.network)) c.in-Ok.connection.who _
    c.self.view_is c.in-Ok.ensures.who (c.insert.ensures.kept known)

pub returns-in_default-clause-kept : goal.returns-in_default-clause-kept
returns-in_default-clause-kept g c known =
    loses_front (begun_as g.N.Socket.Socket.input g.N.Socket.Socket.coming g.N.Socket.Socket.taken c.args.socket c.args.moment c.args.came.now ∷ []) c.args.self.now

pub returns-clause-others : goal.returns-clause-others
returns-clause-others g c =
    stay_open c.args.self.now (map fresh (g.N.Network.ahead c.self.inside.network)) c.self.inside.connections.opened c.insert.new.self.opened c.self.view_is
    c.insert.ensures.others

pub returns-in_default-clause-others : goal.returns-in_default-clause-others
returns-in_default-clause-others g c = loses_none c.args.self.now
