use Rattle.std.proofs.Common.{rules, ◌≡◌, Ok, sym, ap, subst, ◌∙◌}
use Rattle.std.proofs.lemmas.Result.{IfOk-weaker}
use Rattle.bike_operator.specs.Operator.{last_number}
use Rattle.bike_laws.specs.History.{last_moment_of}
use Rattle.bike_book.specs.Found.{IsLast, IsLastMoment}
use Rattle.bike_book.proofs.FoundNumbers.{found_numbers}
use Rattle.bike_schema.proofs.AnswerLemmas.{answers_then, answers_both}
use Rattle.bike_office_reads.specs.declared.books.Archived.{Archived}
use Rattle.bike_office_reads.proofs.RowLemmas.{all_archived}
use Rattle.bike_office_reads.proofs.kept.last_request.Goals as goal

pub returns-in-Some : goal.returns-in-Some
returns-in-Some g c =
    answers_then _ _ c.in_ok-row.ensures (λ s m sound listing is. IfOk-weaker c.read_last.result _ _
    (λ x reads. let found = found_numbers s m sound listing in
    let row_is = sym (sym c.in-Some.is ∙ is) in
    reads (last_number s.history) (last_moment_of 0 s.history.items) (subst (IsLast s.history.archived (last_number s.history)) row_is found.last_request)
    (subst (IsLastMoment (last_moment_of 0 s.history.items)) row_is found.last_moment)) c.read_last.ensures)

pub returns-in_ok-moment-in-None : goal.returns-in_ok-moment-in-None
returns-in_ok-moment-in-None g c =
    let zero : c.in_ok-moment-in-None.moment ≡ 0 = search rules in
    answers_then _ _ (answers_both {result = Ok c.in_ok-number-in-None.field-0} _ _ c.in_ok-row.ensures c.in_ok-number-in-None.ensures) (λ s m sound listing both.
    let found = found_numbers s m sound listing in
    let none = sym c.in-None.is ∙ both.0 in
    let number = ap (λ (x : Archived). x.requests) both.1 ∙ all_archived s.history.archived (last_number s.history) none found.last_request in
    let moment = zero ∙ sym (subst (IsLastMoment (last_moment_of 0 s.history.items)) (sym none) found.last_moment) in
    λ i. record { number = number i; moment = moment i })
