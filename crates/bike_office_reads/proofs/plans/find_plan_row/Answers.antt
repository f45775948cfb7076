use Rattle.bike_sql.proofs.ParamLemmas.{bindings}
use Rattle.bike_schema.proofs.AnswerLemmas.{row_answers}
use Rattle.bike_office_reads.proofs.TextLemmas.{finds_plan}
use Rattle.bike_office_reads.proofs.plans.find_plan_row.Goals as goal

pub returns : goal.returns
returns g c = row_answers (finds_plan c.args.plan.now) c.first_row.ensures (search bindings)
