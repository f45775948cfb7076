use Rattle.std.proofs.Common.{◌∙◌}
use Rattle.bike_http_connection.proofs.Sending.{sends_then}
use Rattle.bike_http_connection.proofs.answer.ResponseBuffer.send.Goals as goal

pub returns-in-Some-clause-sends : goal.returns-in-Some-clause-sends
returns-in-Some-clause-sends g c = sends_then c.loop-turn.invariant.0 c.send_some.ensures.sends

pub loop-turn-preserved : goal.loop-turn-preserved
loop-turn-preserved g c = (
  sends_then c.loop-turn.invariant.0 c.send_some.ensures.sends,
  c.send_some.ensures.own ∙ c.loop-turn.invariant.1,
)
