use Rattle.std.proofs.Common.{◌∷◌, map}
use Rattle.bike_http_connection.specs.Connected.{peer_as, answered}
use Rattle.bike_http_connections.specs.Ahead.{fresh}
use Rattle.bike_http_connections.proofs.Staying.{stay_open}
use Rattle.bike_http_connections.proofs.Opening.{taken_in}
use Rattle.bike_http_connections.proofs.Requests.{loses_requests}
use Rattle.bike_http_connections.specs.Table.{clients_of}
use Rattle.bike_http_connections.proofs.connections.Connections.finish.Goals as goal

pub returns-clause-clients : goal.returns-clause-clients
returns-clause-clients g c known =
    taken_in c.args.self.now (clients_of c.self.inside.connections) (clients_of c.insert.new.self) (map fresh (g.N.Network.ahead c.self.inside.network)) c.into_answered-connection.result.who _
    c.self.view_is c.into_answered-connection.ensures.who (c.insert.ensures.kept known)

pub returns-clause-ahead : goal.returns-clause-ahead
returns-clause-ahead g c known =
    let one = answered (peer_as g.N.Socket.Socket.input g.N.Socket.Socket.taken c.args.peer) c.args.answer in
    loses_requests (one ∷ c.args.self.now) _
    (taken_in c.args.self.now (clients_of c.self.inside.connections) (clients_of c.insert.new.self) (map fresh (g.N.Network.ahead c.self.inside.network)) c.into_answered-connection.result.who one
    c.self.view_is c.into_answered-connection.ensures.who (c.insert.ensures.kept known))

pub returns-clause-others : goal.returns-clause-others
returns-clause-others g c =
    stay_open c.args.self.now (map fresh (g.N.Network.ahead c.self.inside.network)) c.self.inside.connections.opened c.insert.new.self.opened c.self.view_is
    c.insert.ensures.others
