use Rattle.std.proofs.Common.{◌∙◌}
use Rattle.bike_operator.specs.View.{type_view}
use Rattle.bike_sql.proofs.ChainLaws.{reads_as, reads_both}
use Rattle.bike_views.proofs.catalogue.view_to_add_type.Goals as goal

pub returns : goal.returns
returns g c = reads_as (reads_both c.in_ok-is_full.ensures c.in_ok-view.ensures) (λ db it s h.
    let view = it.1 s h ∙ (λ i. type_view s (c.type_id.ensures i) (c.plan_id.ensures i)) in
    λ i. record (view i) { is_full = it.0 s h i })
