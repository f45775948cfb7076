use Rattle.std.proofs.Common.{sym, ◌∙◌}
use Rattle.std.proofs.lemmas.Result.{IfOk-weaker}
use Rattle.bike_sql.proofs.RowListLemmas.{same_some}
use Rattle.bike_book.proofs.FoundKeys.{found_by_key}
use Rattle.bike_schema.proofs.AnswerLemmas.{answers_then}
use Rattle.bike_office_reads.proofs.meta.find_since.Goals as goal

pub returns-in-Some : goal.returns-in-Some
returns-in-Some g c =
    answers_then _ _ c.in_ok-row.ensures (λ s m sound listing is. IfOk-weaker c.read_since.result _ _
    (λ x reads. reads m.since (same_some (sym c.in-Some.is ∙ is ∙ (found_by_key s m sound listing).meta))) (c.read_since.ensures s.past.cash s.past.revenue))
