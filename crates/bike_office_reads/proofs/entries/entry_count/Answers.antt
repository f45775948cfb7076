use Rattle.std.proofs.Common.{sym, ap, ◌∙◌}
use Rattle.std.proofs.lemmas.Result.{IfOk-weaker}
use Rattle.bike_operator.specs.Operator.{last_number}
use Rattle.bike_book.proofs.FoundNumbers.{found_numbers}
use Rattle.bike_schema.proofs.AnswerLemmas.{answers_then, answers_both}
use Rattle.bike_office_reads.specs.declared.books.Archived.{Archived}
use Rattle.bike_office_reads.proofs.RowLemmas.{last_counted, all_archived}
use Rattle.bike_office_reads.proofs.entries.entry_count.Goals as goal

pub returns-in-Some : goal.returns-in-Some
returns-in-Some g c =
    answers_then _ _ c.in_ok-row.ensures (λ s m sound listing is. IfOk-weaker c.number_in.result _ _
    (λ x reads. last_counted s.entries.archived (last_number s.entries) (sym c.in-Some.is ∙ is) (found_numbers s m sound listing).last_entry reads) c.number_in.ensures)

pub returns-in_ok-find_archived-in-None : goal.returns-in_ok-find_archived-in-None
returns-in_ok-find_archived-in-None g c =
    answers_then _ _ (answers_both _ _ c.in_ok-row.ensures c.in_ok-find_archived-in-None.ensures) (λ s m sound listing both.
    ap (λ (x : Archived). x.entries) both.1 ∙ all_archived s.entries.archived (last_number s.entries) (sym c.in-None.is ∙ both.0) (found_numbers s m sound listing).last_entry)
