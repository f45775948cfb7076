use Rattle.bike_sql.proofs.ParamLemmas.{bindings}
use Rattle.bike_schema.proofs.AnswerLemmas.{row_answers}
use Rattle.bike_office_reads.proofs.TextLemmas.{counts_riders}
use Rattle.bike_office_reads.proofs.riders.count_riders.Goals as goal

pub returns : goal.returns
returns g c = row_answers counts_riders c.first_row.ensures (search bindings)
