use Rattle.std.proofs.Common.{refl, sym, ◌∙◌}
use Rattle.std.specs.FinMap as map
use Rattle.bike_operator.specs.View.{rider_balance}
use Rattle.bike_book.proofs.FoundKeys.{found_by_key}
use Rattle.bike_schema.proofs.AnswerLemmas.{answers_then}
use Rattle.bike_queries.proofs.InfoLemmas.{balance_shown, row_of}
use Rattle.bike_queries.proofs.SpanLemmas.{none_mapped}
use Rattle.bike_queries.proofs.riders.find_balance.Goals as goal

pub returns-in_ok-balance-in-Some : goal.returns-in_ok-balance-in-Some
returns-in_ok-balance-in-Some g c =
    answers_then _ _ c.in_ok-row.ensures (λ s m sound listing is. balance_shown s c.args.rider (map.get s.riders c.args.rider) refl c.in_ok-balance-in-Some.ensures
    (sym c.in-Some.is ∙ is ∙ (found_by_key s m sound listing).riders c.args.rider))

pub returns-in-None : goal.returns-in-None
returns-in-None g c =
    answers_then _ _ c.in_ok-row.ensures (λ s m sound listing is. none_mapped (row_of s c.args.rider) (λ _. rider_balance s c.args.rider) (map.get s.riders c.args.rider)
    (sym c.in-None.is ∙ is ∙ (found_by_key s m sound listing).riders c.args.rider))
