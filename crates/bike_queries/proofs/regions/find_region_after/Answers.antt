use Rattle.std.proofs.Common.{sym, ◌∙◌}
use Rattle.bike_book.specs.Stored.{stored_region}
use Rattle.bike_schema.proofs.AnswerLemmas.{answers_then}
use Rattle.bike_queries.proofs.NextLemmas.{next_there, next_found, no_next}
use Rattle.bike_queries.proofs.regions.find_region_after.Goals as goal

pub returns-in_ok-read_region-in-Some : goal.returns-in_ok-read_region-in-Some
returns-in_ok-read_region-in-Some g c =
    answers_then _ _ c.in_ok-row.ensures (λ s m sound listing is.
    next_found (λ r. r.region_id) stored_region _ (λ e next. (sound.catalogue.regions e.0 e.1 (next_there _ s.regions e next)).id_is) (sym c.in-Some.is ∙ is) c.in_ok-read_region-in-Some.ensures)

pub returns-in-None : goal.returns-in-None
returns-in-None g c = answers_then _ _ c.in_ok-row.ensures (λ s m sound listing is. no_next (λ r. r.region_id) stored_region _ (sym c.in-None.is ∙ is))
