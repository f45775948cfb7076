-- A coordinate's own text is one of its spellings.
use Rattle.std.proofs.Common.{◌≡◌, ℕ, ℤ, suc, ◌+◌, ◌*◌, ◌/◌, ◌%◌, ◌<◌, ◌≤◌, ◌∷◌, true, false, cond, leb, Some, refl, sym, ap, ◌∙◌, arith, pos, negsuc, neg_ℤ, decimal, append_assoc}
use Rattle.std.specs.List.{list_all}
use Rattle.std.specs.Prelude.{int_lt, unsigned_abs}
use Rattle.std.specs.Char.{is_ascii_digit, digit_value}
use Rattle.std.specs.Str.Parse.{digits_value}
use Rattle.std.proofs.lemmas.Bool.Decides.{nat_tests}
use Rattle.std.proofs.lemmas.Int.{ints}
use Rattle.std.proofs.lemmas.Fmt.{digits_decimal, digits_value-decimal, length-decimal-le, decimal_nonempty}
use Rattle.bike_fixed.specs.Coordinate.{IsCoordinate, IsMicro, with_sign, micro_of}
use Rattle.bike_fixed.specs.Text.{micro_text, six_digits, sign_text}
use Rattle.bike_fixed.proofs.Coordinates.{decimal_digits, micro_full}

is_digit : (d : ℕ) → d < 10 → is_ascii_digit (48 + d) ≡ true
is_digit d h = grind (arith, nat_tests)

digit_is : (d : ℕ) → d < 10 → digit_value (48 + d) ≡ d
digit_is d h = grind (arith, nat_tests)

six_are_digits : (r : ℕ) → list_all is_ascii_digit (six_digits r) ≡ true
six_are_digits r =
    rw (
      is_digit (r / 100000 % 10) (omega arith),
      is_digit (r / 10000 % 10) (omega arith),
      is_digit (r / 1000 % 10) (omega arith),
      is_digit (r / 100 % 10) (omega arith),
      is_digit (r / 10 % 10)
          (omega arith),
      is_digit (r / 1 % 10) (omega arith),
    ) refl

six_value : (r : ℕ) → r < 1000000 → digits_value 10 (six_digits r) ≡ r
six_value r h =
    rw (
      digit_is (r / 100000 % 10) (omega arith),
      digit_is (r / 10000 % 10) (omega arith),
      digit_is (r / 1000 % 10) (omega arith),
      digit_is (r / 100 % 10) (omega arith),
      digit_is (r / 10 % 10)
          (omega arith),
      digit_is (r / 1 % 10) (omega arith),
    ) (omega arith)

small_size : (z : ℤ) → IsMicro z → unsigned_abs z ≤ 180000000
small_size z h = omega (arith, ints, h.0, h.1)

sign_is : (z : ℤ) → with_sign (int_lt z (pos 0)) (unsigned_abs z) ≡ z
sign_is (pos n) = let f : leb (suc n) 0 ≡ false = grind (arith, nat_tests) in ap (λ b. cond b (neg_ℤ (pos n)) (pos n)) f
sign_is (negsuc n) = refl

pub micro_text_spelled : (z : ℤ) → IsMicro z → IsCoordinate (micro_text z) z
micro_text_spelled z h =
    let s = small_size z h in
    let w = unsigned_abs z / 1000000 in
    let r = unsigned_abs z % 1000000 in
    let small : w < 1000 = omega arith in
    let v : digits_value 10 (decimal w) ≡ w = digits_value-decimal decimal_digits w (omega arith) in
    let x : digits_value 10 (six_digits r) ≡ r = six_value r (omega arith) in
    let whole_is : digits_value 10 (decimal w) * 1000000 + digits_value 10 (six_digits r) * 1 ≡ unsigned_abs z = omega (arith, v, x) in
    record {
      minus = int_lt z (pos 0);
      whole = decimal w;
      part = six_digits r;
      whole_digits = digits_decimal decimal_digits w (omega arith);
      part_digits = six_are_digits r;
      some_whole = decimal_nonempty w (omega arith);
      few_whole = length-decimal-le 3 w (omega arith) small (omega arith);
      few_part = omega arith;
      spelled = append_assoc (sign_text z) (decimal w) (46 ∷ six_digits r);
      value = sym (ap (with_sign (int_lt z (pos 0))) whole_is ∙ sign_is z);
    }

pub micro_read_back : (z : ℤ) → IsMicro z → micro_of (micro_text z) ≡ Some z
micro_read_back z h = micro_full (micro_text z) z (micro_text_spelled z h) h
