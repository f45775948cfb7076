use Rattle.std.proofs.Common.{rules, ap, ◌∙◌}
use Rattle.bike_sql.proofs.ChainLaws.{reads_as, reads_both, reads_failed}
use Rattle.bike_operator.specs.View.{side_view}
use Rattle.bike_views.specs.ViewAndDocks.{side_docks}
use Rattle.bike_views.proofs.OpenLaws.{open_both}
use Rattle.bike_views.proofs.orders.view_to_unload.Goals as goal

pub returns-in_err-order : goal.returns-in_err-order
returns-in_err-order g c = reads_failed (reads_both (reads_both c.in_ok-truck.ensures c.in_ok-bike.ensures) c.in_err-order.ensures) (search rules)

pub returns-in_err-found : goal.returns-in_err-found
returns-in_err-found g c = reads_failed (open_both (reads_both (reads_both c.in_ok-truck.ensures c.in_ok-bike.ensures) c.in_ok-order.ensures) c.in_err-found.ensures) (search rules)

pub returns : goal.returns
returns g c = reads_as (open_both (reads_both (reads_both c.in_ok-truck.ensures c.in_ok-bike.ensures) c.in_ok-order.ensures) c.in_ok-found.ensures) (λ db it s h.
    let order = it.0.1 s h in
    let dock = c.get.ensures.value in
    let found = it.1 s h in
    let view = found.0 ∙ (λ i. side_view s (order i) c.args.side (dock i)) in
    record {
      view_is = λ i. record (view i) { truck = it.0.0.0 s h i; bike = it.0.0.1 s h i; order = order i };
      docks_are = found.1 ∙ ap (λ o. side_docks s o c.args.side) order;
    })
