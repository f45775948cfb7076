use Rattle.bike_laws.proofs.SingleSteps.CatalogueLaw.{catalogue_law}
use Rattle.bike_laws.proofs.single_steps.laws.keeps_catalogue.Goals as goal

pub returns : goal.returns
returns c = catalogue_law
