use Rattle.bike_sql.proofs.ParamLemmas.{bindings}
use Rattle.bike_schema.proofs.AnswerLemmas.{row_answers}
use Rattle.bike_fleet_reads.proofs.StatementLemmas.{finds_order}
use Rattle.bike_fleet_reads.proofs.orders.select_order.Goals as goal

pub returns : goal.returns
returns g c = row_answers (finds_order c.args.order) c.first_row.ensures (search bindings)
