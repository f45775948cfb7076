use Rattle.bike_sql.proofs.ParamLemmas.{bindings}
use Rattle.bike_schema.proofs.AnswerLemmas.{row_answers}
use Rattle.bike_office_reads.proofs.TextLemmas.{finds_system}
use Rattle.bike_queries.proofs.system.select_system.Goals as goal

pub returns : goal.returns
returns g c = row_answers finds_system c.first_row.ensures (search bindings)
