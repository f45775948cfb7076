use Rattle.bike_operator.specs.Operator.{no_operator}
use Rattle.bike_operator.specs.Runs.{after}
use Rattle.bike_laws.proofs.NoOperatorLemmas.{none_sound}
use Rattle.bike_laws.proofs.OrderLemmas.{lists_sound}
use Rattle.bike_laws.proofs.MoneyLemmas.{money_conserved}
use Rattle.bike_laws.proofs.laws.money_law_over_lists.Goals as goal

pub returns : goal.returns
returns c = λ cs good. money_conserved (after no_operator cs) (lists_sound no_operator cs good none_sound)
