use Rattle.bike_sql.proofs.ParamLemmas.{bindings}
use Rattle.bike_schema.proofs.AnswerLemmas.{row_answers}
use Rattle.bike_fleet_reads.proofs.StatementLemmas.{finds_region}
use Rattle.bike_fleet_reads.proofs.regions.select_region.Goals as goal

pub returns : goal.returns
returns g c = row_answers (finds_region c.args.region.now) c.first_row.ensures (search bindings)
