use Rattle.std.proofs.Common.{nat_le, ap, ◌∙◌}
use Rattle.bike_operator.specs.declared.limits.TheConstants.{MOST_BIKES}
use Rattle.bike_book.proofs.FoundNumbers.{found_numbers}
use Rattle.bike_schema.proofs.AnswerLemmas.{answers_made}
use Rattle.bike_fleet_reads.proofs.bikes.is_count_full.Goals as goal

pub returns : goal.returns
returns g c = answers_made c.in_ok-answer.ensures c.is_full.ensures (λ db x is full s h. full _ (is s h) ∙ ap (nat_le MOST_BIKES) (found_numbers s h.listed h.sound h.listing).bikes)
