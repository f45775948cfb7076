use Rattle.std.proofs.Common.{sym, ◌∙◌}
use Rattle.bike_schema.proofs.AnswerLemmas.{answers_then, some_is, none_is}
use Rattle.bike_queries.proofs.entries.find_entry_after.Goals as goal

pub returns-in_ok-read_entry-in-Some : goal.returns-in_ok-read_entry-in-Some
returns-in_ok-read_entry-in-Some g c = answers_then _ _ c.in_ok-row.ensures (λ s m sound listing is. some_is _ c.in_ok-read_entry-in-Some.ensures (sym c.in-Some.is ∙ is))

pub returns-in-None : goal.returns-in-None
returns-in-None g c = answers_then _ _ c.in_ok-row.ensures (λ s m sound listing is. none_is _ _ (sym c.in-None.is ∙ is))
