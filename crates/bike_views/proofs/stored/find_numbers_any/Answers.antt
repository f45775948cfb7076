use Rattle.bike_schema.proofs.AnswerLemmas.{reads_weaker}
use Rattle.bike_views.proofs.OpenLaws.{open_of}
use Rattle.bike_views.proofs.stored.find_numbers_any.Goals as goal

pub returns : goal.returns
returns g c = open_of (reads_weaker c.find_dock_numbers.ensures (λ db x it s h are. it s h))
