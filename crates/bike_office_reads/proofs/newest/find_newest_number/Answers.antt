use Rattle.std.proofs.Common.{sym, subst}
use Rattle.std.proofs.lemmas.Result.{IfOk-weaker}
use Rattle.bike_book.specs.Found.{IsLast}
use Rattle.bike_schema.proofs.AnswerLemmas.{answers_then}
use Rattle.bike_office_reads.specs.Newest.{newest_rental, newest_number}
use Rattle.bike_office_reads.proofs.NewestRows.{newest_last}
use Rattle.bike_office_reads.proofs.newest.find_newest_number.Goals as goal

pub returns : goal.returns
returns g c =
    let rider = c.args.rider in
    answers_then _ _ c.in_ok-row.ensures (λ s m sound listing is. IfOk-weaker c.last_number.result _ _
    (λ x reads. reads (newest_number s rider) (subst (IsLast 0 (newest_number s rider)) (sym is) (newest_last s.entries.items (newest_rental s rider)))) c.last_number.ensures)
