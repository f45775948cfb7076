use Rattle.bike_sql.proofs.ChainLaws.{reads_as, reads_both}
use Rattle.bike_views.proofs.catalogue.find_type_view.Goals as goal

pub returns : goal.returns
returns g c = reads_as (reads_both c.in_ok-has_type.ensures c.in_ok-has_plan.ensures) (λ db it s h.
    λ i. record (c.empty_view.ensures i) { has_type = it.0 s h i; has_plan = it.1 s h i })
