-- The test of a sum is whether so many entries can come to it.
use Rattle.std.proofs.Common.{◌≡◌, ℕ, ℤ, pos, neg_ℤ, ◌*ℤ◌, ◌≤ℤ◌, true, int_le, Decides, arith}
use Rattle.std.proofs.lemmas.Bool.Decides.{Decides-and, Decides-like}
use Rattle.std.proofs.lemmas.Int.{ints}
use Rattle.bike_fixed.specs.declared.cents.TheConstants.{GREATEST_FARE}
use Rattle.bike_operator.specs.Sound.{IsSumOf}
use Rattle.bike_judges.specs.Sums.{is_sum_of}

le_test : (a b : ℤ) → int_le a b ≡ true → a ≤ℤ b
le_test a b h = grind (arith, ints)

le_tested : (a b : ℤ) → a ≤ℤ b → int_le a b ≡ true
le_tested a b h = grind (arith, ints)

pub sum_decides : (n : ℕ) (z : ℤ) → Decides (is_sum_of n z) (IsSumOf n z)
sum_decides n z =
    let most : ℤ = GREATEST_FARE *ℤ pos n in
    Decides-like (is_sum_of n z) (λ both. record { low = both.0; high = both.1 }) (λ sum. (sum.low, sum.high))
    (Decides-and (int_le (neg_ℤ most) z) (int_le z most) (le_test (neg_ℤ most) z, le_tested (neg_ℤ most) z) (le_test z most, le_tested z most))
