use Rattle.bike_laws.proofs.SingleSteps.NameLaw.{names_law}
use Rattle.bike_laws.proofs.single_steps.laws.keeps_names.Goals as goal

pub returns : goal.returns
returns c = names_law
