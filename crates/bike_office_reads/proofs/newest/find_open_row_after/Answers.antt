use Rattle.std.proofs.Common.{◌∙◌}
use Rattle.bike_sql.proofs.ParamLemmas.{bindings}
use Rattle.bike_schema.proofs.AnswerLemmas.{row_answers, reads_weaker}
use Rattle.bike_office_reads.proofs.NewestRows.{lists_open_after, open_found}
use Rattle.bike_schema.proofs.WithinLaw.{first_listed}
use Rattle.bike_office_reads.proofs.newest.find_open_row_after.Goals as goal

pub returns : goal.returns
returns g c = reads_weaker (row_answers (first_listed (lists_open_after c.args.number)) c.first_row.ensures (search bindings)) (λ db row is s h. is s h ∙ open_found s c.args.number)
