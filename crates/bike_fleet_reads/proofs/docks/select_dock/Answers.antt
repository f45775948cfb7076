use Rattle.bike_sql.proofs.ParamLemmas.{bindings}
use Rattle.bike_schema.proofs.AnswerLemmas.{row_answers}
use Rattle.bike_fleet_reads.proofs.StatementLemmas.{finds_dock}
use Rattle.bike_fleet_reads.proofs.docks.select_dock.Goals as goal

pub returns : goal.returns
returns g c = row_answers (finds_dock c.args.station.now c.args.dock) c.first_row.ensures (search bindings)
