use Rattle.bike_sql.proofs.ParamLemmas.{bindings}
use Rattle.bike_schema.proofs.AnswerLemmas.{row_answers}
use Rattle.bike_fleet_reads.proofs.StatementLemmas.{counts_bikes}
use Rattle.bike_fleet_reads.proofs.bikes.count_bikes.Goals as goal

pub returns : goal.returns
returns g c = row_answers counts_bikes c.first_row.ensures (search bindings)
