use Rattle.bike_sql.proofs.ParamLemmas.{bindings}
use Rattle.bike_schema.proofs.AnswerLemmas.{row_answers}
use Rattle.bike_fleet_reads.proofs.StatementLemmas.{finds_last_bike}
use Rattle.bike_fleet_reads.proofs.bikes.select_last_bike.Goals as goal

pub returns : goal.returns
returns g c = row_answers finds_last_bike c.first_row.ensures (search bindings)
