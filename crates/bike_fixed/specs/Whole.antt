-- Whole numbers and their decimal texts.
use Rattle.std.specs.Prelude.{◌≡◌, ℕ, ℤ, pos, neg_ℤ, ◌≤◌, ◌≤ℤ◌, int_le, List, [], ◌∷◌, Option, Some, None, nat_le, ◌==◌}
use Rattle.std.specs.Prelude.{◌&&◌, if◌then◌else◌, decimal}
use Rattle.std.specs.Fmt.{signed_decimal}
use Rattle.std.specs.Str.{bytes_eq}
use Rattle.std.specs.Str.Parse.{digits_value}
use Rattle.bike_fixed.specs.declared.moment.TheConstants.{LAST_MOMENT}

-- The text is the decimal of n, with no sign and no leading zero, and n lies from low to high.
pub record IsNumber (low high : ℕ) (text : List ℕ) (n : ℕ) : Type 0 where
  pub low_le : low ≤ n
  pub le_high : n ≤ high
  pub spelled : text ≡ decimal n

-- the number from low to high whose decimal the text is
unfoldable pub number_of : ℕ → ℕ → List ℕ → Option ℕ
number_of low high text =
    let n = digits_value 10 text in
    if (nat_le low n && nat_le n high) && bytes_eq text (decimal n) then Some n else None

-- The text is the decimal of z, with a minus sign exactly below zero and no leading zero, and z lies from low to high.
pub record IsSignedNumber (low high : ℤ) (text : List ℕ) (z : ℤ) : Type 0 where
  pub low_le : low ≤ℤ z
  pub le_high : z ≤ℤ high
  pub spelled : text ≡ signed_decimal z

-- the value of the digits of a text, negated behind a minus sign
abbrev pub signed_value : List ℕ → ℤ
signed_value [] = pos 0
signed_value (b ∷ bs) = if b == 45 then neg_ℤ (pos (digits_value 10 bs)) else pos (digits_value 10 (b ∷ bs))

-- the number from low to high whose decimal the text is
unfoldable pub signed_of : ℤ → ℤ → List ℕ → Option ℤ
signed_of low high text =
    let z = signed_value text in
    if (int_le low z && int_le z high) && bytes_eq text (signed_decimal z) then Some z else None

-- the last moment, 9999-12-31T23:59:59Z
abbrev pub last_moment : ℕ
last_moment = LAST_MOMENT
