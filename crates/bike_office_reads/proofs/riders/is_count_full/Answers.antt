use Rattle.std.proofs.Common.{nat_le, sym, ap, ◌∙◌}
use Rattle.std.proofs.lemmas.Result.{IfOk-weaker}
use Rattle.bike_sql.proofs.RowListLemmas.{same_some}
use Rattle.bike_operator.specs.declared.limits.TheConstants.{MOST_RIDERS}
use Rattle.bike_book.proofs.FoundNumbers.{found_numbers}
use Rattle.bike_schema.proofs.AnswerLemmas.{answers_then}
use Rattle.bike_office_reads.proofs.riders.is_count_full.Goals as goal

pub returns-in-Some : goal.returns-in-Some
returns-in-Some g c =
    answers_then _ _ c.in_ok-row.ensures (λ s m sound listing is. IfOk-weaker c.reaches.result _ _
    (λ x reads. reads _ (same_some (sym c.in-Some.is ∙ is)) ∙ ap (nat_le MOST_RIDERS) (found_numbers s m sound listing).riders) c.reaches.ensures)
