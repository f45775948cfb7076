use Rattle.bike_office_reads.proofs.RowLemmas.{made_if, plan_read}
use Rattle.bike_office_reads.proofs.plans.read_plan.Goals as goal

pub returns : goal.returns
returns c =
    made_if _ c.ok_or.result _ _ c.ok_or.ensures.value c.from_fields.ensures
    (λ p is segments. plan_read _ c.args.row.now p c.in_ok-plan_id.ensures.ok c.in_ok-name.ensures.ok c.in_ok-price.ensures c.in_ok-taxable.ensures c.in_ok-description.ensures.ok segments is)
