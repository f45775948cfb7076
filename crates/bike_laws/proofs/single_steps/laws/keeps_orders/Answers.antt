use Rattle.bike_laws.proofs.SingleSteps.OrderLaw.{orders_law}
use Rattle.bike_laws.proofs.single_steps.laws.keeps_orders.Goals as goal

pub returns : goal.returns
returns c = orders_law
