use Rattle.bike_ledger.proofs.SumLemmas.{conserved}
use Rattle.bike_ledger.proofs.sums.money_law.Goals as goal

pub returns : goal.returns
returns c = conserved
