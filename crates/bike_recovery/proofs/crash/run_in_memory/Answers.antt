use Rattle.bike_recovery.proofs.FrontLemmas.{at_nobody, in_memory}
use Rattle.bike_recovery.proofs.crash.run_in_memory.Goals as goal

pub returns : goal.returns
returns g c =
    let at = at_nobody c.in-Ok.conn c.in-Ok-adopt.desk (c.in-Ok.ensures.empty).2 c.in-Ok-adopt.ensures.only in
    record {
      headline = in_memory _ _ (c.run_crash_and_read.ensures.headline _ at);
      replies = in_memory _ _ (c.run_crash_and_read.ensures.replies _ at);
      refused = c.run_crash_and_read.ensures.refused _ at;
    }
