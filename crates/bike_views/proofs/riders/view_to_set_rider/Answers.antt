use Rattle.bike_sql.proofs.ChainLaws.{reads_as}
use Rattle.bike_views.proofs.riders.view_to_set_rider.Goals as goal

pub returns : goal.returns
returns g c = reads_as c.in_ok-has_rider.ensures (λ db it s h blocked. λ i. record (c.empty_view.ensures i) { has_rider = it s h i })
