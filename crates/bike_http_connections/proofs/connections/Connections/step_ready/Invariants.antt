use Rattle.std.proofs.Common.{IsTrue}
use Rattle.bike_http_connections.specs.Ahead.{Loses, StayBut}
use Rattle.bike_http_connections.proofs.connections.Connections.step_ready.Given as goal

-- some may have ended so far, no more than had their turn
abbrev pub invariant-loop-turn : goal.invariant-loop-turn
invariant-loop-turn g l = (IsTrue g.N.Socket.Socket.is_known → Loses l.fn.self l.self) × StayBut l._turn l.fn.self l.self
