use Rattle.std.proofs.Common.{sym, ◌∙◌}
use Rattle.std.proofs.lemmas.Result.{IfOk-weaker}
use Rattle.std.specs.FinMap as map
use Rattle.bike_book.proofs.FoundKeys.{found_by_key}
use Rattle.bike_schema.proofs.AnswerLemmas.{answers_then}
use Rattle.bike_office_reads.proofs.RowLemmas.{balance_read}
use Rattle.bike_office_reads.proofs.riders.find_rider_balance.Goals as goal

pub returns-in-Some : goal.returns-in-Some
returns-in-Some g c =
    let rider = c.args.rider in
    answers_then _ _ c.in_ok-row.ensures (λ s m sound listing is. IfOk-weaker c.read_balance.result _ _
    (λ x reads. balance_read s rider (map.get s.riders rider) reads (sym c.in-Some.is ∙ is ∙ (found_by_key s m sound listing).riders rider)) c.read_balance.ensures)
