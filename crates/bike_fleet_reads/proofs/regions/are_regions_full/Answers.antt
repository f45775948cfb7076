use Rattle.std.proofs.Common.{length, nat_le, ap, ◌∙◌}
use Rattle.bike_operator.specs.declared.limits.TheConstants.{MOST_REGIONS}
use Rattle.bike_book.proofs.FoundNumbers.{found_numbers}
use Rattle.bike_schema.proofs.AnswerLemmas.{answers_then}
use Rattle.bike_fleet_reads.proofs.regions.are_regions_full.Goals as goal

pub returns : goal.returns
returns g c =
    answers_then _ _ c.in_ok-rows.ensures (λ s m sound listing is.
    c.are_at_least.ensures ∙ ap (nat_le MOST_REGIONS) (ap length (c.as_slice.ensures.value ∙ is) ∙ (found_numbers s m sound listing).regions))
