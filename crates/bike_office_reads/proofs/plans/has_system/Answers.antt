use Rattle.std.proofs.Common.{◌∙◌}
use Rattle.bike_book.proofs.FoundKeys.{found_by_key}
use Rattle.bike_schema.proofs.AnswerLemmas.{answers_then, has_row}
use Rattle.bike_office_reads.proofs.plans.has_system.Goals as goal

pub returns : goal.returns
returns g c = answers_then _ _ c.in_ok-row.ensures (λ s m sound listing is. c.is_some.ensures ∙ has_row _ _ (is ∙ (found_by_key s m sound listing).system))
