use Rattle.std.proofs.Common.{sym, ap, ◌∙◌}
use Rattle.bike_operator.specs.View.{end_view, side_view}
use Rattle.bike_views.specs.ViewAndDocks.{end_docks, side_docks, told_of}
use Rattle.bike_views.proofs.OpenLaws.{open_none, open_weaker}
use Rattle.bike_views.proofs.orders.find_side_view.Goals as goal

pub returns-in-None : goal.returns-in-None
returns-in-None g c = open_none _ (λ s m. (
  ap (λ x. x.view) c.plain.ensures ∙ c.empty_view.ensures ∙ ap (λ o. side_view s o c.args.side c.args.dock) (sym c.in-None.is),
  ap (λ x. told_of x.docks) c.plain.ensures ∙ ap (λ o. side_docks s o c.args.side) (sym c.in-None.is),
))

pub returns-in-Some : goal.returns-in-Some
returns-in-Some g c = open_weaker c.find_end_view.ensures (λ s m x it. (
  it.0 ∙ ap (λ end. end_view s end c.args.dock) c.end_at.ensures ∙ ap (λ o. side_view s o c.args.side c.args.dock) (sym c.in-Some.is),
  it.1 ∙ ap (end_docks s) c.end_at.ensures ∙ ap (λ o. side_docks s o c.args.side) (sym c.in-Some.is),
))
