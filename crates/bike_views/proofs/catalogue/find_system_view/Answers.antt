use Rattle.bike_sql.proofs.ChainLaws.{reads_as}
use Rattle.bike_views.proofs.catalogue.find_system_view.Goals as goal

pub returns : goal.returns
returns g c = reads_as c.in_ok-has_system.ensures (λ db it s h. λ i. record (c.empty_view.ensures i) { has_system = it s h i })
