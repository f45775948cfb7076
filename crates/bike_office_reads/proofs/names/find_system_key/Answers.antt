use Rattle.std.proofs.Common.{sym, ◌∙◌}
use Rattle.bike_book.proofs.FoundKeys.{found_by_key}
use Rattle.bike_schema.proofs.AnswerLemmas.{answers_then}
use Rattle.bike_office_reads.proofs.NameLemmas.{key_found, no_key}
use Rattle.bike_office_reads.proofs.names.find_system_key.Goals as goal

pub returns-in_ok-read_system_key-in-Some : goal.returns-in_ok-read_system_key-in-Some
returns-in_ok-read_system_key-in-Some g c =
    answers_then _ _ c.in_ok-row.ensures (λ s m sound listing is. key_found s.system c.in_ok-read_system_key-in-Some.ensures (sym c.in-Some.is ∙ is ∙ (found_by_key s m sound listing).system))

pub returns-in-None : goal.returns-in-None
returns-in-None g c = answers_then _ _ c.in_ok-row.ensures (λ s m sound listing is. no_key s.system (sym c.in-None.is ∙ is ∙ (found_by_key s m sound listing).system))
