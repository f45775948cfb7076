use Rattle.bike_sql.proofs.ParamLemmas.{bindings}
use Rattle.bike_schema.proofs.AnswerLemmas.{row_answers}
use Rattle.bike_office_reads.proofs.TextLemmas.{finds_last_request}
use Rattle.bike_office_reads.proofs.kept.find_last_request.Goals as goal

pub returns : goal.returns
returns g c = row_answers finds_last_request c.first_row.ensures (search bindings)
