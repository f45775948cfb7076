use Rattle.bike_laws.proofs.OrderLemmas.{lists_sound}
use Rattle.bike_laws.proofs.laws.keeps_soundness_over_lists.Goals as goal

pub returns : goal.returns
returns c = lists_sound
