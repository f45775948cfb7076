use Rattle.std.proofs.Common.{◌≡◌, ◌*◌, take, pos, neg_ℤ, ◌≤ℤ◌}
use Rattle.bike_fares.specs.Counting.{segments_total, most_of_segment}
use Rattle.bike_fares.proofs.pricing.segments_total.Given as goal

abbrev pub invariant-loop-segment : goal.invariant-loop-segment
invariant-loop-segment l = record {
  value : l.total ≡ segments_total (take l.segment-index l.segments) l.minutes;
  low : neg_ℤ (pos (most_of_segment * l.segment-index)) ≤ℤ l.total;
  high : l.total ≤ℤ pos (most_of_segment * l.segment-index);
}
