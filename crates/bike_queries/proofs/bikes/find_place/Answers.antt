use Rattle.std.proofs.Common.{sym, ◌∙◌}
use Rattle.std.specs.FinMap as map
use Rattle.bike_schema.proofs.AnswerLemmas.{answers_then}
use Rattle.bike_queries.proofs.InfoLemmas.{place_shown, no_place_shown}
use Rattle.bike_queries.proofs.bikes.find_place.Goals as goal

pub returns-in-Some : goal.returns-in-Some
returns-in-Some g c = answers_then _ _ c.in_ok-found.ensures (λ s m sound listing is. place_shown (map.get s.bikes c.args.bike) c.in-Some.found (sym c.in-Some.is ∙ is))

pub returns-in-None : goal.returns-in-None
returns-in-None g c = answers_then _ _ c.in_ok-found.ensures (λ s m sound listing is. no_place_shown (map.get s.bikes c.args.bike) (sym c.in-None.is ∙ is))
