use Rattle.bike_sql.proofs.ChainLaws.{reads_as}
use Rattle.bike_views.proofs.OpenLaws.{open_both}
use Rattle.bike_views.proofs.stations.view_to_set_region.Goals as goal

pub returns : goal.returns
returns g c = reads_as (open_both c.in_ok-station.ensures c.in_ok-has_region.ensures) (λ db it s h.
    λ i. record (c.empty_view.ensures i) { station = it.0 s h i; has_region = it.1 s h i })
