use Rattle.std.proofs.Common.{sym, ap, ◌∙◌}
use Rattle.bike_operator.specs.View.{has_region}
use Rattle.bike_schema.proofs.AnswerLemmas.{reads_weaker}
use Rattle.bike_views.proofs.OpenLaws.{open_of}
use Rattle.bike_views.proofs.stations.is_region_there.Goals as goal

pub returns-in-Some : goal.returns-in-Some
returns-in-Some g c = open_of (reads_weaker c.has_region.ensures (λ db x it s h. it s h ∙ ap (has_region s) (sym c.in-Some.is)))
