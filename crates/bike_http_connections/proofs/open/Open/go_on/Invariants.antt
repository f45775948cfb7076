use Rattle.std.proofs.Common.{IsTrue}
use Rattle.bike_http_connections.specs.Ahead.{Loses, StayBut}
use Rattle.bike_http_connections.specs.Table.{clients_of}
use Rattle.bike_http_connections.proofs.open.Open.go_on.Given as goal

-- some may have ended so far, no more than had their turn
abbrev pub invariant-loop-turn : goal.invariant-loop-turn
invariant-loop-turn g l =
    (IsTrue g.S.Socket.is_known → Loses (clients_of l.fn.self) (clients_of l.self)) × StayBut l._turn l.fn.self.opened l.self.opened
