use Rattle.std.proofs.Common.{inr}
use Rattle.bike_recovery.proofs.raising.raise_anyhow.Goals as goal

pub returns-in-Ok-clause-left : goal.returns-in-Ok-clause-left
returns-in-Ok-clause-left g c clean v s stands live db h = inr ((c.in-Ok.ensures.found v s stands clean).left db h)

pub returns-in-Err-clause-left : goal.returns-in-Err-clause-left
returns-in-Err-clause-left g c clean v s stands live = c.in-Err.ensures.left v s stands live clean
