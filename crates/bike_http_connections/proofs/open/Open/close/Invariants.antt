use Rattle.bike_http_connections.specs.Ahead.{Loses}
use Rattle.bike_http_connections.specs.Table.{clients_of}
use Rattle.bike_http_connections.proofs.open.Open.close.Given as goal

-- some may have ended so far
abbrev pub invariant-loop-key : goal.invariant-loop-key
invariant-loop-key g l = Loses (clients_of l.fn.self) (clients_of l.self)
