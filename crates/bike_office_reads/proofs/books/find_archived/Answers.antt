use Rattle.std.proofs.Common.{rules, ◌≡◌, sym, ◌∙◌}
use Rattle.std.proofs.lemmas.Result.{IfOk-weaker}
use Rattle.bike_book.proofs.FoundKeys.{found_by_key}
use Rattle.bike_schema.proofs.AnswerLemmas.{answers_then}
use Rattle.bike_office_reads.specs.Accounts.{archived_of}
use Rattle.bike_office_reads.proofs.RowLemmas.{some_archived, none_archived}
use Rattle.bike_office_reads.proofs.books.find_archived.Goals as goal

pub returns-in-Some : goal.returns-in-Some
returns-in-Some g c =
    answers_then _ _ c.in_ok-row.ensures (λ s m sound listing is. IfOk-weaker c.read_archived.result _ _
    (λ x reads. reads (archived_of s) (some_archived s (sym c.in-Some.is ∙ is ∙ (found_by_key s m sound listing).books))) c.read_archived.ensures)

pub returns-in_ok-requests-in-None : goal.returns-in_ok-requests-in-None
returns-in_ok-requests-in-None g c =
    let none : c.in_ok-requests-in-None.requests ≡ 0 = search rules in
    answers_then _ _ c.in_ok-row.ensures (λ s m sound listing is.
    none_archived s c.in_ok-requests-in-None.requests none (sym c.in-None.is ∙ is ∙ (found_by_key s m sound listing).books))
