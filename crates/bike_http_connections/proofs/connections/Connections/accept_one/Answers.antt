use Rattle.std.proofs.Common.{[], subst, sym}
use Rattle.bike_http_connections.specs.Ahead.{Loses}
use Rattle.bike_http_connections.specs.Accepting.{Picks, IsFreshOne}
use Rattle.bike_http_connections.proofs.Opening.{loses_coming, accepted_in}
use Rattle.bike_http_connections.specs.Table.{clients_of}
use Rattle.bike_http_connections.proofs.connections.Connections.accept_one.Goals as goal

pub returns-in_err-socket : goal.returns-in_err-socket
returns-in_err-socket g c known = loses_coming c.args.self.now (clients_of c.self.inside.connections) _ _ c.self.view_is (c.in_err-socket.ensures.accepts known)

pub returns-in-One : goal.returns-in-One
returns-in-One g c known =
    accepted_in g.N.Socket.Socket.input g.N.Socket.Socket.coming g.N.Socket.Socket.taken c.args.self.now c.take_in.new.self (clients_of c.self.inside.connections)
    (g.N.Network.ahead c.self.inside.network) (g.N.Network.ahead c.accept.new.self) c.in-One.socket c.in-One.moment [] c.self.view_is
    (subst (λ (told : _). Picks g.N.Socket.Socket.coming (g.N.Network.ahead c.self.inside.network) (g.N.Network.ahead c.accept.new.self) told)
    c.in-One.is (c.in_ok-socket.ensures.accepts known))
    (subst (λ (told : _). IsFreshOne g.N.Socket.Socket.coming g.N.Socket.Socket.input g.N.Socket.Socket.taken told) c.in-One.is (c.in_ok-socket.ensures.fresh known))
    (c.take_in.ensures.kept known)

pub returns-in-Lost : goal.returns-in-Lost
returns-in-Lost g c known =
    loses_coming c.args.self.now (clients_of c.self.inside.connections) _ _ c.self.view_is
    (subst (λ (told : _). Picks g.N.Socket.Socket.coming (g.N.Network.ahead c.self.inside.network) (g.N.Network.ahead c.accept.new.self) told)
    c.in-Lost.is (c.in_ok-socket.ensures.accepts known))

pub returns-in-Nobody : goal.returns-in-Nobody
returns-in-Nobody g c known =
    loses_coming c.args.self.now (clients_of c.self.inside.connections) _ _ c.self.view_is
    (subst (λ (told : _). Picks g.N.Socket.Socket.coming (g.N.Network.ahead c.self.inside.network) (g.N.Network.ahead c.accept.new.self) told)
    c.in-Nobody.is (c.in_ok-socket.ensures.accepts known))

pub returns-in-Failed : goal.returns-in-Failed
returns-in-Failed g c known =
    subst (λ (seen : _). Loses c.args.self.now seen) (sym c.put_off_accepting.ensures)
    (loses_coming c.args.self.now (clients_of c.self.inside.connections) _ _ c.self.view_is
    (subst (λ (told : _). Picks g.N.Socket.Socket.coming (g.N.Network.ahead c.self.inside.network) (g.N.Network.ahead c.accept.new.self) told)
    c.in-Failed.is (c.in_ok-socket.ensures.accepts known)))
