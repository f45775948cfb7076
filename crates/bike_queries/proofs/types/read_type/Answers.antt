use Rattle.bike_office_reads.proofs.RowLemmas.{made_if}
use Rattle.bike_queries.proofs.NextLemmas.{type_read}
use Rattle.bike_queries.proofs.types.read_type.Goals as goal

pub returns : goal.returns
returns c =
    made_if _ c.ok_or.result _ _ c.ok_or.ensures.value c.from_fields.ensures
    (λ y is. type_read _ c.args.row.now y c.in_ok-type_id.ensures.ok c.in_ok-name.ensures.ok c.in_ok-form.ensures c.in_ok-propulsion.ensures c.in_ok-max_range.ensures c.in_ok-plan_id.ensures.ok is)
