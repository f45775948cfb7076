use Rattle.bike_sql.proofs.ParamLemmas.{bindings}
use Rattle.bike_schema.proofs.AnswerLemmas.{row_answers}
use Rattle.bike_schema.proofs.WithinLaw.{first_listed}
use Rattle.bike_fleet_reads.proofs.StatementLemmas.{lists_types_from}
use Rattle.bike_fleet_reads.proofs.types.find_type_row_from.Goals as goal

pub returns : goal.returns
returns g c = row_answers (first_listed (lists_types_from c.args.start.now)) c.first_row.ensures (search bindings)
