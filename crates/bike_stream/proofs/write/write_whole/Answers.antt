use Rattle.std.proofs.Common.{arith}
use Rattle.std.proofs.lemmas.List.{length-drop, take_rest}
use Rattle.bike_stream.proofs.Writes.{appends_more}
use Rattle.bike_stream.proofs.write.write_whole.Goals as goal

pub loop-done-preserved : goal.loop-done-preserved
loop-done-preserved g c = (
  omega (arith, c.in-Ok.ensures.bound, length-drop c.loop-done.done c.args.bytes.now, c.loop-done-test.true),
  appends_more _ _ _ c.args.bytes.now c.loop-done.done c.in-Ok.count c.loop-done.invariant.1 (rw (take_rest c.args.bytes.now c.loop-done.done) at c.in-Ok.ensures.bytes),
)
