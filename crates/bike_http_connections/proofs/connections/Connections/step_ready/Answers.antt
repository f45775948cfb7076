use Rattle.std.proofs.Common.{◌+◌, arith}
use Rattle.bike_http_connections.proofs.Losing.{loses_then}
use Rattle.bike_http_connections.proofs.Staying.{but_then, but_less}
use Rattle.bike_http_connections.proofs.connections.Connections.step_ready.Goals as goal

pub returns-then-not-step_one-clause-kept : goal.returns-then-not-step_one-clause-kept
returns-then-not-step_one-clause-kept g c known = loses_then _ _ _ (c.loop-turn.invariant.0 known) (c.step_one.ensures.kept known)

pub loop-turn-preserved : goal.loop-turn-preserved
loop-turn-preserved g c = (
  λ known. loses_then _ _ _ (c.loop-turn.invariant.0 known) (c.step_one.ensures.kept known),
  but_then c.loop-turn._turn 1 c.args.self.now c.loop-turn.self c.step_one.new.self c.loop-turn.invariant.1 c.step_one.ensures.others,
)

pub returns-then-not-step_one-clause-others : goal.returns-then-not-step_one-clause-others
returns-then-not-step_one-clause-others g c =
    but_less (c.loop-turn._turn + 1) 64 c.args.self.now c.step_one.new.self (omega arith)
    (but_then c.loop-turn._turn 1 c.args.self.now c.loop-turn.self c.step_one.new.self c.loop-turn.invariant.1 c.step_one.ensures.others)
