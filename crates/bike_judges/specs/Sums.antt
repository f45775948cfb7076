-- Whether so many entries can come to a sum.
use Rattle.std.specs.Prelude.{ℕ, ℤ, pos, neg_ℤ, ◌*ℤ◌, ◌&&◌, int_le, Bool}
use Rattle.bike_fixed.specs.declared.cents.TheConstants.{GREATEST_FARE}

abbrev pub is_sum_of : ℕ → ℤ → Bool
is_sum_of entries sum =
    int_le (neg_ℤ (GREATEST_FARE *ℤ pos entries)) sum && int_le sum (GREATEST_FARE *ℤ pos entries)
