use Rattle.bike_laws.proofs.MoneyLemmas.{money_conserved}
use Rattle.bike_laws.proofs.laws.money_law.Goals as goal

pub returns : goal.returns
returns c = money_conserved
