use Rattle.bike_sql.proofs.ParamLemmas.{bindings}
use Rattle.bike_schema.proofs.AnswerLemmas.{row_answers}
use Rattle.bike_fleet_reads.proofs.StatementLemmas.{finds_type}
use Rattle.bike_fleet_reads.proofs.types.select_type.Goals as goal

pub returns : goal.returns
returns g c = row_answers (finds_type c.args.type_id.now) c.first_row.ensures (search bindings)
