use Rattle.std.proofs.Common.{◌≡◌, ◌+◌, ◌*◌, pos, neg_ℤ, ◌+ℤ◌, ◌≤ℤ◌}
use Rattle.bike_fields.specs.declared.numbers.TheConstants.{GREATEST_PRICE}
use Rattle.bike_fares.specs.Pricing.{sum_below, reached_charge, most_at_minute}
use Rattle.bike_fares.proofs.minutes.fare_by_minutes.Given as goal

abbrev pub invariant-loop-minute : goal.invariant-loop-minute
invariant-loop-minute l = record {
  value : l.cost ≡ pos l.fn.plan.price +ℤ sum_below l.minute (reached_charge l.fn.plan.segments l.seconds);
  low : neg_ℤ (pos (most_at_minute * l.minute)) ≤ℤ l.cost;
  high : l.cost ≤ℤ pos (GREATEST_PRICE + most_at_minute * l.minute);
}
