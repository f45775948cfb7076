-- No fare is greater than the greatest.
use Rattle.std.proofs.Common.{ℕ, ℤ, zero, suc, ◌*◌, ◌≤◌, ◌≤ℤ◌, pos, List, [], ◌∷◌, length, Bool, true, false, cond, leb, arith}
use Rattle.std.proofs.lemmas.Int.{ints, clamps}
use Rattle.bike_fields.specs.Values.{SegmentRow}
use Rattle.bike_catalogue.specs.Rows.{PlanRow, IsPlan}
use Rattle.bike_fields.specs.declared.limits.TheConstants.{MOST_SEGMENTS, GREATEST_RATE}
use Rattle.bike_fares.specs.declared.elapsed.TheConstants.{MINUTES}
use Rattle.bike_fares.specs.Pricing.{is_charged, per_min_pricing, reached_charge, sum_below, fare_of, elapsed_seconds, greatest_fare, most_at_minute, AreSegments}

charge-le : (charged : Bool) (rate most : ℤ) → rate ≤ℤ most → pos 0 ≤ℤ most → cond charged rate (pos 0) ≤ℤ most
charge-le true rate most le positive = le
charge-le false rate most le positive = positive

per_min_pricing-le : (ss : List SegmentRow) (minute : ℕ) → AreSegments ss → per_min_pricing ss minute ≤ℤ pos (GREATEST_RATE * length ss)
per_min_pricing-le [] minute are = omega (arith, ints)
per_min_pricing-le (s ∷ ss) minute are =
    let first = charge-le (is_charged s minute) s.rate (pos GREATEST_RATE) are.0.rate.1 (omega (arith, ints)) in
    let rest = per_min_pricing-le ss minute are.1 in
    omega (arith, ints, first, rest)

sum-le : (n : ℕ) (f : ℕ → ℤ) → ((m : ℕ) → f m ≤ℤ pos most_at_minute) → sum_below n f ≤ℤ pos (most_at_minute * n)
unfolding sum_below
sum-le zero f each = omega (arith, ints)
sum-le (suc n) f each = let before = sum-le n f each in let last = each n in omega (arith, ints, before, last)

reached-le : (ss : List SegmentRow) (seconds minute : ℕ) → length ss ≤ MOST_SEGMENTS → AreSegments ss → reached_charge ss seconds minute ≤ℤ pos most_at_minute
reached-le ss seconds minute few are =
    let all = per_min_pricing-le ss minute are in
    charge-le (leb (60 * minute) seconds) (per_min_pricing ss minute) (pos most_at_minute) (omega (arith, ints, all, few)) (omega (arith, ints))

pub fare_of-low : (plan : PlanRow) (start end : ℕ) → pos 0 ≤ℤ fare_of plan start end
fare_of-low plan start end = omega (arith, ints, clamps)

pub fare_of-high : (plan : PlanRow) (start end : ℕ) → IsPlan plan → AreSegments plan.segments → fare_of plan start end ≤ℤ greatest_fare
fare_of-high plan start end is are =
    let price = is.price in
    let seconds = elapsed_seconds start end in
    let charges = sum-le MINUTES (reached_charge plan.segments seconds) (λ m. reached-le plan.segments seconds m is.segments are) in
    omega (arith, ints, clamps, price, charges)
