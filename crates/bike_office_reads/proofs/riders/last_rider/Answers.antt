use Rattle.std.proofs.Common.{◌≤◌, sym, subst}
use Rattle.std.proofs.lemmas.Result.{IfOk-weaker}
use Rattle.std.specs.FinMap as fin
use Rattle.bike_book.specs.Found.{IsLast}
use Rattle.bike_schema.proofs.AnswerLemmas.{answers_then}
use Rattle.bike_office_reads.proofs.RowLemmas.{riders_at_most}
use Rattle.bike_office_reads.proofs.riders.last_rider.Goals as goal

pub returns : goal.returns
returns g c =
    answers_then _ _ c.in_ok-row.ensures (λ s m sound listing is.
    let most = riders_at_most s m sound listing in
    IfOk-weaker c.last_number.result _ _ (λ x reads. subst (λ n. fin.len s.riders ≤ n) (sym (reads most.0 (subst (IsLast 0 most.0) (sym is) most.1))) most.2) c.last_number.ensures)
