-- How money, coordinates and moments are printed.
use Rattle.std.specs.Prelude.{ℕ, ℤ, ◌+◌, ◌/◌, ◌%◌, pos, List, [], ◌∷◌, ◌++◌, decimal, unsigned_abs, int_lt}
use Rattle.std.specs.Prelude.{if◌then◌else◌}
use Rattle.bike_fixed.specs.Calendar.{civil_date}

-- the decimal digit of n at the place of a power of ten
abbrev pub digit_at : ℕ → ℕ → ℕ
digit_at power n = 48 + n / power % 10

abbrev pub two_digits : ℕ → List ℕ
two_digits n = digit_at 10 n ∷ digit_at 1 n ∷ []

abbrev pub four_digits : ℕ → List ℕ
four_digits n = digit_at 1000 n ∷ digit_at 100 n ∷ digit_at 10 n ∷ digit_at 1 n ∷ []

abbrev pub six_digits : ℕ → List ℕ
six_digits n =
    digit_at 100000 n ∷ digit_at 10000 n ∷ digit_at 1000 n ∷ digit_at 100 n ∷ digit_at 10 n ∷ digit_at 1 n ∷ []

-- a minus sign below zero
abbrev pub sign_text : ℤ → List ℕ
sign_text z = if int_lt z (pos 0) then 45 ∷ [] else []

-- hundredths as units with two decimals, as `-0.25`
abbrev pub cents_text : ℤ → List ℕ
cents_text z = sign_text z ++ decimal (unsigned_abs z / 100) ++ 46 ∷ two_digits (unsigned_abs z % 100)

-- microdegrees as degrees with six decimals, as `-0.000001`
abbrev pub micro_text : ℤ → List ℕ
micro_text z = sign_text z ++ decimal (unsigned_abs z / 1000000) ++ 46 ∷ six_digits (unsigned_abs z % 1000000)

-- a date and a time of day in UTC, as `2023-11-14T22:13:20Z` (RFC 3339)
abbrev pub clock_text : ℕ → ℕ → ℕ → ℕ → List ℕ
clock_text year month day second =
    four_digits year ++ 45 ∷ two_digits month ++ 45 ∷ two_digits day
    ++ 84 ∷ two_digits (second / 3600) ++ 58 ∷ two_digits (second / 60 % 60) ++ 58 ∷ two_digits (second % 60) ++ 90 ∷ []

-- the moment so many seconds after 1970-01-01T00:00:00Z
unfoldable pub moment_text : ℕ → List ℕ
moment_text seconds =
    let date = civil_date (seconds / 86400) in
    clock_text date.0 date.1 date.2 (seconds % 86400)
