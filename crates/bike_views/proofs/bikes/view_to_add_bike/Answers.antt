use Rattle.bike_sql.proofs.ChainLaws.{reads_as, reads_both}
use Rattle.bike_views.proofs.bikes.view_to_add_bike.Goals as goal

pub returns : goal.returns
returns g c = reads_as (reads_both (reads_both c.in_ok-has_type.ensures c.in_ok-is_full.ensures) c.in_ok-bike.ensures) (λ db it s h.
    λ i. record (c.empty_view.ensures i) { bike = it.1 s h i; has_type = it.0.0 s h i; is_full = it.0.1 s h i })
