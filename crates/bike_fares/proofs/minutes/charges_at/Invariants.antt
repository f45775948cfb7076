use Rattle.std.proofs.Common.{◌≡◌, ◌*◌, take, pos, neg_ℤ, ◌≤ℤ◌}
use Rattle.bike_fields.specs.declared.limits.TheConstants.{GREATEST_RATE}
use Rattle.bike_fares.specs.Pricing.{per_min_pricing}
use Rattle.bike_fares.proofs.minutes.charges_at.Given as goal

abbrev pub invariant-loop-segment : goal.invariant-loop-segment
invariant-loop-segment l = record {
  value : l.total ≡ per_min_pricing (take l.segment-index l.segments) l.minute;
  low : neg_ℤ (pos (GREATEST_RATE * l.segment-index)) ≤ℤ l.total;
  high : l.total ≤ℤ pos (GREATEST_RATE * l.segment-index);
}
