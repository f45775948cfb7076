use Rattle.std.proofs.Common.{sym, ◌∙◌}
use Rattle.bike_schema.proofs.AnswerLemmas.{answers_then}
use Rattle.bike_queries.proofs.NextLemmas.{next_named, none_named}
use Rattle.bike_queries.proofs.plans.find_next.Goals as goal

pub returns-in_ok-ident_at-in-Some : goal.returns-in_ok-ident_at-in-Some
returns-in_ok-ident_at-in-Some g c = answers_then _ _ c.in_ok-row.ensures (λ s m sound listing is. next_named _ c.in_ok-ident_at-in-Some.ensures.ok (sym c.in-Some.is ∙ is))

pub returns-in-None : goal.returns-in-None
returns-in-None g c = answers_then _ _ c.in_ok-row.ensures (λ s m sound listing is. none_named _ (sym c.in-None.is ∙ is))
