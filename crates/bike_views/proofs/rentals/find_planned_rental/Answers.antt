use Rattle.std.proofs.Common.{rules, sym, ap, ◌∙◌}
use Rattle.std.specs.FinMap as map
use Rattle.bike_sql.proofs.ChainLaws.{reads_as, reads_both, reads_failed}
use Rattle.bike_operator.specs.View.{planned_rental}
use Rattle.bike_views.proofs.PartLemmas.{planned_some}
use Rattle.bike_views.proofs.rentals.find_planned_rental.Goals as goal

pub returns-in_err-find_plan : goal.returns-in_err-find_plan
returns-in_err-find_plan g c = reads_failed (reads_both c.in_ok-balance.ensures c.in_err-find_plan.ensures) (search rules)

pub returns-in-None : goal.returns-in-None
returns-in-None g c = reads_as (reads_both c.in_ok-balance.ensures c.in_ok-find_plan.ensures) (λ db it s h refunds.
    ap (planned_rental s c.args.number c.args.rental) (sym c.in-None.is ∙ it.1 s h))

pub returns-in-Some : goal.returns-in-Some
returns-in-Some g c = reads_as (reads_both c.in_ok-balance.ensures c.in_ok-find_plan.ensures) (λ db it s h refunds.
    planned_some s c.args.number c.args.rental (map.get s.plans c.args.rental.plan) (it.1 s h) c.in-Some.is refunds (it.0 s h))
