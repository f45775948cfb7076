-- How many digits a decimal has.
use Rattle.std.proofs.Common.{ℕ, ◌<◌, ◌≤◌, length, decimal, arith}
use Rattle.std.proofs.lemmas.Fmt.{length-decimal-le}

pub length_decimal_17 : (n : ℕ) → n < 100000000000000000 → length (decimal n) ≤ 17
length_decimal_17 n h = length-decimal-le 17 n (omega arith) h (omega (arith, h))

pub length_decimal_4 : (n : ℕ) → n < 10000 → length (decimal n) ≤ 4
length_decimal_4 n h = length-decimal-le 4 n (omega arith) h (omega (arith, h))
