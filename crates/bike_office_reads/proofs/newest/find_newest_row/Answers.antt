use Rattle.std.proofs.Common.{◌∙◌}
use Rattle.bike_sql.proofs.ParamLemmas.{bindings}
use Rattle.bike_schema.proofs.AnswerLemmas.{row_answers, reads_weaker}
use Rattle.bike_office_reads.proofs.NewestRows.{finds_newest, newest_found}
use Rattle.bike_office_reads.proofs.newest.find_newest_row.Goals as goal

pub returns : goal.returns
returns g c = reads_weaker (row_answers (finds_newest c.args.rider) c.first_row.ensures (search bindings)) (λ db row is s h. is s h ∙ newest_found s c.args.rider)
