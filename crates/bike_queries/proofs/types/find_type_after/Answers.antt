use Rattle.std.proofs.Common.{sym, ◌∙◌}
use Rattle.bike_book.specs.Stored.{stored_type}
use Rattle.bike_schema.proofs.AnswerLemmas.{answers_then}
use Rattle.bike_queries.proofs.NextLemmas.{next_there, next_found, no_next}
use Rattle.bike_queries.proofs.types.find_type_after.Goals as goal

pub returns-in_ok-read_type-in-Some : goal.returns-in_ok-read_type-in-Some
returns-in_ok-read_type-in-Some g c =
    answers_then _ _ c.in_ok-row.ensures (λ s m sound listing is.
    next_found (λ t. t.type_id) stored_type _ (λ e next. (sound.catalogue.types e.0 e.1 (next_there _ s.types e next)).id_is) (sym c.in-Some.is ∙ is) c.in_ok-read_type-in-Some.ensures)

pub returns-in-None : goal.returns-in-None
returns-in-None g c = answers_then _ _ c.in_ok-row.ensures (λ s m sound listing is. no_next (λ t. t.type_id) stored_type _ (sym c.in-None.is ∙ is))
