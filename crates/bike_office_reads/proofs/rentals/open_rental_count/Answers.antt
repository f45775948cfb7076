use Rattle.std.proofs.Common.{length, ap, ◌∙◌}
use Rattle.std.proofs.lemmas.Result.{IfOk-weaker}
use Rattle.bike_book.proofs.FoundNumbers.{found_numbers}
use Rattle.bike_schema.proofs.AnswerLemmas.{answers_then}
use Rattle.bike_office_reads.proofs.rentals.open_rental_count.Goals as goal

pub returns : goal.returns
returns g c =
    answers_then _ _ c.in_ok-rows.ensures (λ s m sound listing is. IfOk-weaker c.count_rows.result _ _ (λ x counted.
    counted ∙ ap length (c.as_slice.ensures.value ∙ is) ∙ (found_numbers s m sound listing).open_rentals_are) c.count_rows.ensures)
