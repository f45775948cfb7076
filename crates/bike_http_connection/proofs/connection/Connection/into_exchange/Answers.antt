use Rattle.std.proofs.Common.{Bool, sym, subst}
use Rattle.bike_http_connection.specs.Asking.{unread}
use Rattle.bike_http_connection.specs.Connected.{IsReady}
use Rattle.bike_http_connection.specs.Settled.{IsComplete}
use Rattle.bike_http_connection.specs.declared.request.RequestReader.{RequestReader}
use Rattle.bike_http_connection.proofs.Complete.{asks_as}
use Rattle.bike_http_connection.proofs.connection.Connection.into_exchange.Goals as goal

pub returns-in-Ready-clause-whole : goal.returns-in-Ready-clause-whole
returns-in-Ready-clause-whole g c =
    subst (λ (request : RequestReader). IsComplete g.S.Socket.is_known request.is_ended (g.S.Socket.coming c.self.inside.peer.socket) (unread request)) (sym c.new.ensures)
    (subst (λ (state : _). IsReady g.S.Socket.is_known g.S.Socket.coming c.self.inside.peer state) c.in-Ready.is c.self.invariant)

pub returns-in-Ready-clause-asks : goal.returns-in-Ready-clause-asks
returns-in-Ready-clause-asks g c known =
    asks_as c.new.result.is_ended (g.S.Socket.coming c.self.inside.peer.socket) (unread c.new.result)
    (subst (λ (b : Bool). IsComplete b c.new.result.is_ended (g.S.Socket.coming c.self.inside.peer.socket) (unread c.new.result)) known (returns-in-Ready-clause-whole g c))
