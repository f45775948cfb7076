use Rattle.bike_sql.proofs.ChainLaws.{reads_as}
use Rattle.bike_views.proofs.rentals.view_to_recover.Goals as goal

pub returns : goal.returns
returns g c = reads_as c.in_ok-recovered.ensures (λ db it s h are.
    let recovered = it s h in
    λ i. record (c.empty_view.ensures i) { bike = (recovered i).bike; rental = (recovered i).rental; entries = are i })
