use Rattle.std.proofs.Common.{sym, ◌∙◌}
use Rattle.bike_book.specs.Rows.{system_row}
use Rattle.bike_book.proofs.FoundKeys.{found_by_key}
use Rattle.bike_schema.proofs.AnswerLemmas.{answers_then, some_is, none_is}
use Rattle.bike_queries.proofs.system.find_system.Goals as goal

pub returns-in_ok-read_system-in-Some : goal.returns-in_ok-read_system-in-Some
returns-in_ok-read_system-in-Some g c =
    answers_then _ _ c.in_ok-row.ensures (λ s m sound listing is. some_is s.system c.in_ok-read_system-in-Some.ensures (sym c.in-Some.is ∙ is ∙ (found_by_key s m sound listing).system))

pub returns-in-None : goal.returns-in-None
returns-in-None g c = answers_then _ _ c.in_ok-row.ensures (λ s m sound listing is. none_is system_row s.system (sym c.in-None.is ∙ is ∙ (found_by_key s m sound listing).system))
