use Rattle.std.proofs.Common.{ap, ◌∙◌}
use Rattle.bike_sql.proofs.ChainLaws.{reads_as, reads_both}
use Rattle.bike_operator.specs.View.{station_at}
use Rattle.bike_views.proofs.stations.view_to_add_station.Goals as goal

pub returns : goal.returns
returns g c = reads_as (reads_both c.in_ok-station.ensures c.in_ok-is_full.ensures) (λ db it s h.
    let station = it.0 s h ∙ ap (station_at s) c.station_id.ensures in
    λ i. record (c.empty_view.ensures i) { station = station i; is_full = it.1 s h i })
