use Rattle.std.proofs.Common.{sym, ap, ◌∙◌}
use Rattle.sqlite_value.specs.Order.{column}
use Rattle.bike_schema.proofs.AnswerLemmas.{answers_then, some_is, none_is}
use Rattle.bike_schema.proofs.ReadLemmas.{language_read}
use Rattle.bike_queries.specs.After.{language_row}
use Rattle.bike_queries.proofs.languages.find_language_after.Goals as goal

pub returns-in_ok-language_at-in-Some : goal.returns-in_ok-language_at-in-Some
returns-in_ok-language_at-in-Some g c =
    answers_then _ _ c.in_ok-row.ensures (λ s m sound listing is.
    some_is _ (λ language holds. language_read c.in_ok-language_at-in-Some.ensures.ok (ap (λ r. column r 0) holds)) (sym c.in-Some.is ∙ is))

pub returns-in-None : goal.returns-in-None
returns-in-None g c = answers_then _ _ c.in_ok-row.ensures (λ s m sound listing is. none_is language_row _ (sym c.in-None.is ∙ is))
