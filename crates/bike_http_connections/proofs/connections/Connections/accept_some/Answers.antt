use Rattle.bike_http_connections.proofs.Losing.{loses_then}
use Rattle.bike_http_connections.proofs.connections.Connections.accept_some.Goals as goal

pub returns-then-not-branch : goal.returns-then-not-branch
returns-then-not-branch g c known = loses_then _ _ _ (c.loop-turn.invariant known) (c.accept_one.ensures known)

pub loop-turn-preserved : goal.loop-turn-preserved
loop-turn-preserved g c known = loses_then _ _ _ (c.loop-turn.invariant known) (c.accept_one.ensures known)

pub returns-in_err-accept_one : goal.returns-in_err-accept_one
returns-in_err-accept_one g c known = loses_then _ _ _ (c.loop-turn.invariant known) (c.accept_one.ensures known)
