use Rattle.std.proofs.Common.{◌∙◌, sym, refl}
use Rattle.bike_http_connections.proofs.Giving.{gives_after, gives_none}
use Rattle.bike_http_connections.proofs.connections.Connections.next_in_turn.Goals as goal

pub returns : goal.returns
returns g c =
    gives_after g.N.Socket.Socket.is_known g.N.Socket.Socket.input g.N.Socket.Socket.coming g.N.Socket.Socket.taken c.args.self.now c.next_short-next.new.self _ _ c.next_long.result refl
    (gives_none g.N.Socket.Socket.is_known g.N.Socket.Socket.input g.N.Socket.Socket.coming g.N.Socket.Socket.taken _ _ c.next_short-next.result
    (sym c.is_some.ensures ∙ c.if-is_some.false) c.next_short-next.ensures)
    c.next_long.ensures
