use Rattle.bike_sql.proofs.ParamLemmas.{bindings}
use Rattle.bike_schema.proofs.AnswerLemmas.{row_answers}
use Rattle.bike_office_reads.proofs.TextLemmas.{finds_kept}
use Rattle.bike_office_reads.proofs.kept.find_kept_row.Goals as goal

pub returns : goal.returns
returns g c = row_answers (finds_kept c.args.caller.now c.args.key.now) c.first_row.ensures (search bindings)
