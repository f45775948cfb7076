use Rattle.bike_sql.proofs.ChainLaws.{reads_as, reads_both}
use Rattle.bike_views.proofs.orders.view_to_add_truck.Goals as goal

pub returns : goal.returns
returns g c = reads_as (reads_both c.in_ok-truck.ensures c.in_ok-is_full.ensures) (λ db it s h capacity.
    λ i. record (c.empty_view.ensures i) { truck = it.0 s h i; is_full = it.1 s h i })
