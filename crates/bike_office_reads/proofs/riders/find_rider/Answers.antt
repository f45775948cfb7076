use Rattle.std.proofs.Common.{sym, ◌∙◌}
use Rattle.std.specs.FinMap as map
use Rattle.bike_book.proofs.FoundKeys.{found_by_key}
use Rattle.bike_schema.proofs.AnswerLemmas.{answers_then}
use Rattle.bike_office_reads.proofs.RowLemmas.{rider_shown, no_rider}
use Rattle.bike_office_reads.proofs.riders.find_rider.Goals as goal

pub returns-in_ok-read_rider-in-Some : goal.returns-in_ok-read_rider-in-Some
returns-in_ok-read_rider-in-Some g c =
    let rider = c.args.rider in
    answers_then _ _ c.in_ok-row.ensures (λ s m sound listing is.
    rider_shown s rider (map.get s.riders rider) (c.in_ok-read_rider-in-Some.ensures rider) (sym c.in-Some.is ∙ is ∙ (found_by_key s m sound listing).riders rider))

pub returns-in-None : goal.returns-in-None
returns-in-None g c =
    let rider = c.args.rider in
    answers_then _ _ c.in_ok-row.ensures (λ s m sound listing is.
    no_rider s rider (map.get s.riders rider) (sym c.in-None.is ∙ is ∙ (found_by_key s m sound listing).riders rider))
