use Rattle.std.proofs.Common.{take, IfSome, subst, sym}
use Rattle.bike_http_connections.specs.Ahead.{Loses}
use Rattle.bike_http_connections.specs.Accepting.{PicksAlone, IsFresh}
use Rattle.bike_http_connections.proofs.Opening.{loses_coming, accepted_in, into_seen, lost_anyway}
use Rattle.bike_http_connections.specs.Table.{clients_of}
use Rattle.bike_http_connections.proofs.connections.Connections.accept_alone.Goals as goal

pub returns-in_err-accepted : goal.returns-in_err-accepted
returns-in_err-accepted g c known =
    loses_coming c.args.self.now (clients_of c.self.inside.connections) _ _ c.self.view_is (c.in_err-accepted.ensures.accepts known)

pub returns-in_err-read_clock : goal.returns-in_err-read_clock
returns-in_err-read_clock g c known =
    subst (λ (seen : _). Loses c.args.self.now seen) (sym c.read_clock.ensures)
    (loses_coming c.args.self.now (clients_of c.self.inside.connections) _ _ c.self.view_is
    (lost_anyway g.N.Socket.Socket.coming _ _ _ c.in_ok-accepted.accepted (c.in_ok-accepted.ensures.accepts known)))

pub returns-in_default : goal.returns-in_default
returns-in_default g c known =
    subst (λ (seen : _). Loses c.args.self.now seen) (sym c.read_clock.ensures)
    (loses_coming c.args.self.now (clients_of c.self.inside.connections) _ _ c.self.view_is
    (lost_anyway g.N.Socket.Socket.coming _ _ _ c.in_ok-accepted.accepted (c.in_ok-accepted.ensures.accepts known)))

pub returns : goal.returns
returns g c known =
    accepted_in g.N.Socket.Socket.input g.N.Socket.Socket.coming g.N.Socket.Socket.taken c.args.self.now c.take_in.new.self (clients_of c.self.inside.connections)
    (g.N.Network.ahead c.self.inside.network) (g.N.Network.ahead c.accept_alone.new.self) _ _ _ c.self.view_is
    (subst (λ (told : _). PicksAlone g.N.Socket.Socket.coming (g.N.Network.ahead c.self.inside.network) (g.N.Network.ahead c.accept_alone.new.self) c.accept_alone.new.piece told)
    c.in-Some.is (c.in_ok-accepted.ensures.accepts known))
    (subst (λ (told : _). IfSome told (λ one. IsFresh g.N.Socket.Socket.coming g.N.Socket.Socket.input g.N.Socket.Socket.taken (take one.2 c.accept_alone.new.piece) one.0))
    c.in-Some.is (c.in_ok-accepted.ensures.fresh known))
    (into_seen _ _ c.take_in.new.self c.read_clock.ensures (c.take_in.ensures.kept known))
