use Rattle.bike_sql.proofs.ParamLemmas.{bindings}
use Rattle.bike_schema.proofs.AnswerLemmas.{row_answers}
use Rattle.bike_fleet_reads.proofs.StatementLemmas.{finds_station}
use Rattle.bike_fleet_reads.proofs.stations.select_station.Goals as goal

pub returns : goal.returns
returns g c = row_answers (finds_station c.args.station.now) c.first_row.ensures (search bindings)
