use Rattle.bike_laws.proofs.SingleSteps.MarkLaw as mark
use Rattle.bike_laws.proofs.single_steps.counts.mark_law.Goals as goal

pub returns : goal.returns
returns c = λ s next station dock broken h sound. mark.mark_law s next station dock broken h sound
