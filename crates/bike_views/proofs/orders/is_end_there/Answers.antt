use Rattle.std.proofs.Common.{sym, ap, ◌∙◌}
use Rattle.bike_operator.specs.View.{has_end}
use Rattle.bike_schema.proofs.AnswerLemmas.{reads_weaker}
use Rattle.bike_views.proofs.OpenLaws.{open_of}
use Rattle.bike_views.proofs.orders.is_end_there.Goals as goal

pub returns-in-Station : goal.returns-in-Station
returns-in-Station g c = open_of (reads_weaker c.has_station.ensures (λ db x it s h. it s h ∙ ap (has_end s) (sym c.in-Station.is)))
