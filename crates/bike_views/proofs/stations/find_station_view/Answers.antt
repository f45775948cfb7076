use Rattle.bike_sql.proofs.ChainLaws.{reads_as}
use Rattle.bike_views.proofs.stations.find_station_view.Goals as goal

pub returns : goal.returns
returns g c = reads_as c.in_ok-station.ensures (λ db it s h. λ i. record (c.empty_view.ensures i) { station = it s h i })
