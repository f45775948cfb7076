use Rattle.std.proofs.Common.{refl, sym, ◌∙◌}
use Rattle.std.specs.FinMap as map
use Rattle.bike_book.proofs.FoundKeys.{found_by_key}
use Rattle.bike_schema.proofs.AnswerLemmas.{answers_then, answers_both}
use Rattle.bike_queries.specs.Infos.{rider_info}
use Rattle.bike_queries.proofs.InfoLemmas.{rider_shown, row_of}
use Rattle.bike_queries.proofs.SpanLemmas.{none_mapped}
use Rattle.bike_queries.proofs.riders.find_rider_info.Goals as goal

pub returns-in_ok-rental-in-Some : goal.returns-in_ok-rental-in-Some
returns-in_ok-rental-in-Some g c =
    answers_then _ _ (answers_both _ _ c.in_ok-row.ensures c.in_ok-rental-in-Some.ensures) (λ s m sound listing both tells.
    rider_shown s c.args.rider (map.get s.riders c.args.rider) c.in_ok-rental-in-Some.rental refl c.in_ok-is_blocked-in-Some.ensures
    (sym c.in-Some.is ∙ both.0 ∙ (found_by_key s m sound listing).riders c.args.rider) (both.1 tells))

pub returns-in-None : goal.returns-in-None
returns-in-None g c =
    answers_then _ _ c.in_ok-row.ensures (λ s m sound listing is tells. none_mapped (row_of s c.args.rider) (rider_info s c.args.rider) (map.get s.riders c.args.rider)
    (sym c.in-None.is ∙ is ∙ (found_by_key s m sound listing).riders c.args.rider))
