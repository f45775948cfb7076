use Rattle.std.proofs.Common.{◌≡◌, ◌+◌, length}
use Rattle.bike_http_connections.specs.Ahead.{Loses, StayBut}
use Rattle.bike_http_connections.specs.Table.{clients_of, queue_of}
use Rattle.bike_http_connections.proofs.open.Open.next.Given as goal

-- some may have ended so far, no more than had their turn
abbrev pub invariant-loop-turn : goal.invariant-loop-turn
invariant-loop-turn g l =
    Loses (clients_of l.fn.self) (clients_of l.self)
    × StayBut l._turn l.fn.self.opened l.self.opened
    × (l._turn + length (queue_of l.fn.is_feed l.self) ≡ length (queue_of l.fn.is_feed l.fn.self))
