use Rattle.std.proofs.Common.{ap, ◌∙◌}
use Rattle.std.specs.FinMap as map
use Rattle.bike_sql.proofs.ChainLaws.{reads_as, reads_both}
use Rattle.bike_views.proofs.catalogue.view_to_add_plan.Goals as goal

pub returns : goal.returns
returns g c = reads_as (reads_both c.in_ok-has_plan.ensures c.in_ok-is_full.ensures) (λ db it s h.
    let has = it.0 s h ∙ ap (map.contains_key s.plans) c.plan_id.ensures in
    λ i. record (c.empty_view.ensures i) { has_plan = has i; is_full = it.1 s h i })
