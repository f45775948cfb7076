use Rattle.bike_sql.proofs.ChainLaws.{reads_as}
use Rattle.bike_views.proofs.bikes.view_to_retire_bike.Goals as goal

pub returns : goal.returns
returns g c = reads_as c.in_ok-bike.ensures (λ db it s h. λ i. record (c.empty_view.ensures i) { bike = it s h i })
