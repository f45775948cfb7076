use Rattle.bike_laws.proofs.SingleSteps.ShareLaw as share
use Rattle.bike_laws.proofs.single_steps.counts.share_law.Goals as goal

pub returns : goal.returns
returns c = λ s at broken b h. share.share_law s at broken b h
