use Rattle.bike_sql.proofs.ParamLemmas.{bindings}
use Rattle.bike_schema.proofs.AnswerLemmas.{row_answers}
use Rattle.bike_fleet_reads.proofs.StatementLemmas.{finds_truck}
use Rattle.bike_fleet_reads.proofs.trucks.select_truck.Goals as goal

pub returns : goal.returns
returns g c = row_answers (finds_truck c.args.truck) c.first_row.ensures (search bindings)
