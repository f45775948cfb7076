use Rattle.std.proofs.Common.{rules}
use Rattle.bike_sql.proofs.ChainLaws.{reads_as, reads_both, reads_failed}
use Rattle.bike_views.proofs.OpenLaws.{open_both}
use Rattle.bike_views.proofs.orders.view_to_open_order.Goals as goal

pub returns-in_err-has_to : goal.returns-in_err-has_to
returns-in_err-has_to g c = reads_failed (open_both (open_both (reads_both c.in_ok-truck.ensures c.in_ok-has_type.ensures) c.in_ok-has_from.ensures) c.in_err-has_to.ensures) (search rules)

pub returns : goal.returns
returns g c = reads_as (open_both (open_both (reads_both c.in_ok-truck.ensures c.in_ok-has_type.ensures) c.in_ok-has_from.ensures) c.in_ok-has_to.ensures) (λ db it s h are count.
    λ i. record (c.empty_view.ensures i) { truck = it.0.0.0 s h i; has_type = it.0.0.1 s h i; has_from = it.0.1 s h i; has_to = it.1 s h i; orders = are i })
