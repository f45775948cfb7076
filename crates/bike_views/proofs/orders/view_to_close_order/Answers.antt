use Rattle.std.proofs.Common.{rules}
use Rattle.bike_sql.proofs.ChainLaws.{reads_as, reads_failed}
use Rattle.bike_views.proofs.OpenLaws.{open_both}
use Rattle.bike_views.proofs.orders.view_to_close_order.Goals as goal

pub returns-in_err-on_truck : goal.returns-in_err-on_truck
returns-in_err-on_truck g c = reads_failed (open_both c.in_ok-found.ensures c.in_err-on_truck.ensures) (search rules)

pub returns : goal.returns
returns g c = reads_as (open_both c.in_ok-found.ensures c.in_ok-on_truck.ensures) (λ db it s h.
    let order = it.0 s h in
    let on_truck = it.1 s h order in
    λ i. record (c.empty_view.ensures i) { order = order i; on_truck = on_truck i })
