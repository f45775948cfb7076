use Rattle.bike_laws.proofs.NoOperatorLemmas.{none_sound}
use Rattle.bike_laws.proofs.laws.no_operator_law.Goals as goal

pub returns : goal.returns
returns c = none_sound
