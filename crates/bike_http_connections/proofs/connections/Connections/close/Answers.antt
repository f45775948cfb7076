use Rattle.bike_http_connections.proofs.Losing.{loses_then}
use Rattle.bike_http_connections.proofs.connections.Connections.close.Goals as goal

pub returns-in_err-turn_of_closing : goal.returns-in_err-turn_of_closing
returns-in_err-turn_of_closing g c known = loses_then _ _ _ (c.loop-turn.invariant known) (c.turn_of_closing.ensures known)

pub returns-then-branch : goal.returns-then-branch
returns-then-branch g c known = loses_then _ _ _ (c.loop-turn.invariant known) (c.turn_of_closing.ensures known)

pub loop-turn-preserved : goal.loop-turn-preserved
loop-turn-preserved g c known = loses_then _ _ _ (c.loop-turn.invariant known) (c.turn_of_closing.ensures known)
