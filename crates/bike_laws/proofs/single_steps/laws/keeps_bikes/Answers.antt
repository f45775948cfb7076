use Rattle.bike_laws.proofs.SingleSteps.BikeLaw.{bikes_law}
use Rattle.bike_laws.proofs.single_steps.laws.keeps_bikes.Goals as goal

pub returns : goal.returns
returns c = bikes_law
