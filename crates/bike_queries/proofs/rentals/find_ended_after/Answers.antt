use Rattle.std.proofs.Common.{sym, ◌∙◌}
use Rattle.bike_book.specs.Stored.{stored_rental}
use Rattle.bike_schema.proofs.AnswerLemmas.{answers_then}
use Rattle.bike_queries.specs.Spans.{ended_after, ended_info}
use Rattle.bike_queries.proofs.SpanLemmas.{ended_shown, none_mapped}
use Rattle.bike_queries.proofs.rentals.find_ended_after.Goals as goal

pub returns-in_ok-read_ended-in-Some : goal.returns-in_ok-read_ended-in-Some
returns-in_ok-read_ended-in-Some g c =
    answers_then _ _ c.in_ok-row.ensures (λ s m sound listing is.
    ended_shown s.entries.items (ended_after s c.args.number c.args.begin c.args.end) (c.in_ok-read_ended-in-Some.ensures s.entries.items) (sym c.in-Some.is ∙ is))

pub returns-in-None : goal.returns-in-None
returns-in-None g c =
    answers_then _ _ c.in_ok-row.ensures (λ s m sound listing is. none_mapped (stored_rental s.entries.items) (ended_info s.entries.items) _ (sym c.in-None.is ∙ is))
