-- How coordinates are spelled, and read.
use Rattle.std.specs.Prelude.{◌≡◌, ℕ, ℤ, ◌+◌, ◌-◌, ◌*◌, ◌^◌, ◌≤◌, List, [], ◌∷◌, ◌++◌, length, Bool, true, false, ◌&&◌}
use Rattle.std.specs.Prelude.{nat_le, nat_lt, ◌==◌, if◌then◌else◌, Option, Some, None, option_and_then, pos, neg_ℤ}
use Rattle.std.specs.Prelude.{◌≤ℤ◌, int_le}
use Rattle.std.specs.List.{list_all, position_or_len, before_first, after_first}
use Rattle.std.specs.Char.{is_ascii_digit}
use Rattle.std.specs.Str.Parse.{digits_value}
use Rattle.bike_fixed.specs.declared.micro.TheConstants.{GREATEST_COORDINATE}

-- from -180 to 180 degrees
abbrev pub IsMicro : ℤ → Type 0
IsMicro z = (neg_ℤ (pos GREATEST_COORDINATE) ≤ℤ z) × (z ≤ℤ pos GREATEST_COORDINATE)

-- so many microdegrees, where they are from -180 to 180 degrees
abbrev pub micro_within : ℤ → Option ℤ
micro_within z =
    if int_le (neg_ℤ (pos GREATEST_COORDINATE)) z && int_le z (pos GREATEST_COORDINATE) then Some z else None

-- a minus sign, if the coordinate has one
abbrev pub minus_text : Bool → List ℕ
minus_text minus = if minus then 45 ∷ [] else []

-- a point and the digits behind it, or nothing
abbrev pub fraction : List ℕ → List ℕ
fraction [] = []
fraction (d ∷ ds) = 46 ∷ d ∷ ds

abbrev pub with_sign : Bool → ℕ → ℤ
with_sign minus n = if minus then neg_ℤ (pos n) else pos n

-- An optional minus sign, one to three digits, and optionally a point and one to six digits: that many degrees.
pub record IsCoordinate (text : List ℕ) (z : ℤ) : Type 0 where
  pub minus : Bool
  pub whole : List ℕ
  pub part : List ℕ
  pub whole_digits : list_all is_ascii_digit whole ≡ true
  pub part_digits : list_all is_ascii_digit part ≡ true
  pub some_whole : 1 ≤ length whole
  pub few_whole : length whole ≤ 3
  pub few_part : length part ≤ 6
  pub spelled : text ≡ minus_text minus ++ (whole ++ fraction part)
  pub value : z ≡ with_sign minus (digits_value 10 whole * 1000000 + digits_value 10 part * 10 ^ (6 - length part))

infixl 10 ◌>>=◌
abbrev pub ◌>>=◌ : {A B : Type 0} → Option A → (A → Option B) → Option B
o >>= f = option_and_then f o

-- one to `most` decimal digits
abbrev pub are_digits : ℕ → List ℕ → Bool
are_digits most text = nat_le 1 (length text) && nat_le (length text) most && list_all is_ascii_digit text

unfoldable pub digits_of : ℕ → List ℕ → Option ℕ
digits_of most text = if are_digits most text then Some (digits_value 10 text) else None

abbrev pub is_point : ℕ → Bool
is_point b = b == 46

-- the microdegrees of a text without a sign
unfoldable pub size_of : List ℕ → Option ℕ
size_of text =
    if nat_lt (position_or_len is_point text) (length text)
    then (digits_of 3 (before_first is_point text) >>= λ n. digits_of 6 (after_first is_point text) >>= λ m. Some
    (n * 1000000 + m * 10 ^ (6 - length (after_first is_point text))))
    else (digits_of 3 text >>= λ n. Some (n * 1000000))

-- the same behind a sign, where they are at most 180 degrees
abbrev pub within : Bool → List ℕ → Option ℤ
within minus text = size_of text >>= λ n. if nat_le n GREATEST_COORDINATE then Some (with_sign minus n) else None

-- the microdegrees that the text spells
unfoldable pub micro_of : List ℕ → Option ℤ
micro_of [] = None
micro_of (c ∷ bs) = if c == 45 then within true bs else within false (c ∷ bs)
