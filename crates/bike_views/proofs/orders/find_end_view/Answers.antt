use Rattle.std.proofs.Common.{sym, ap, ◌∙◌}
use Rattle.bike_operator.specs.View.{end_view}
use Rattle.bike_schema.proofs.AnswerLemmas.{reads_weaker}
use Rattle.bike_views.specs.ViewAndDocks.{end_docks, told_of}
use Rattle.bike_views.proofs.OpenLaws.{open_none, open_of}
use Rattle.bike_views.proofs.orders.find_end_view.Goals as goal

pub returns-in-Depot : goal.returns-in-Depot
returns-in-Depot g c = open_none _ (λ s m. (
  ap (λ x. x.view) c.plain.ensures ∙ c.empty_view.ensures ∙ ap (λ end. end_view s end c.args.dock) (sym c.in-Depot.is),
  ap (λ x. told_of x.docks) c.plain.ensures ∙ ap (end_docks s) (sym c.in-Depot.is),
))

pub returns-in-Station : goal.returns-in-Station
returns-in-Station g c = open_of (reads_weaker c.find_dock_view.ensures (λ db x it s h. (
  (it s h).0 ∙ ap (λ end. end_view s end c.args.dock) (sym c.in-Station.is),
  (it s h).1 ∙ ap (end_docks s) (sym c.in-Station.is),
)))
