-- Texts of numbers, and their first bytes.
use Rattle.std.proofs.Common.{◌≡◌, ◌∙◌, ◌<◌, ◌≤◌, ◌^◌, ℕ, ap, sym, refl, arith, rules, inl, inr, eqb, length, get_or, [], ◌∷◌, Some, None, Bool, true, false, not, ◌==◌, decimal}
use Rattle.std.specs.Char.{is_ascii_digit}
use Rattle.std.specs.List.{list_all}
use Rattle.std.specs.Str.Parse.{digits_value, starts_with_minus}
use Rattle.std.proofs.lemmas.Bool.Decides.{eqb_tells}
use Rattle.std.proofs.lemmas.Fmt.{decimal-digits_value, digits_decimal}
use Rattle.std.proofs.lemmas.Str.Parse.{IsNumeralModel, numerals_by_value}
use Rattle.clap.specs.Words.{Text}
use Rattle.bike_fixed.specs.Whole.{number_of}
use Rattle.bike_fixed.proofs.Numbers.{both_hold, number_full, number_none}
use Rattle.bike_command_line.specs.Told.{has_one_hyphen}

decimal_digits : IsNumeralModel (λ ds. list_all is_ascii_digit ds ≡ true) (digits_value 10)
decimal_digits = numerals_by_value _ (search rules)

digits_plain : (text : Text) → list_all is_ascii_digit text ≡ true → starts_with_minus text ≡ false
digits_plain [] digits = refl
digits_plain (b ∷ bs) digits =
    let first = both_hold (is_ascii_digit b) (list_all is_ascii_digit bs) digits in
    elim (eqb_tells b 45) [ inl is ↦ let none : is_ascii_digit b ≡ false = ap is_ascii_digit is.1 in absurd cc | inr is ↦ is.0 ]

-- a decimal begins with no hyphen
pub decimal_plain : (n : ℕ) → n < 2 ^ 64 → starts_with_minus (decimal n) ≡ false
decimal_plain n small = digits_plain (decimal n) (digits_decimal decimal_digits n small)

pub read_back : (low high n : ℕ) → high < 2 ^ 64 → low ≤ n → n ≤ high → number_of low high (decimal n) ≡ Some n
read_back low high n small above below = number_full low high _ n small (record { low_le = above; le_high = below; spelled = refl })

-- digits of which the first is no 0 are the decimal of their value
pub number_read : (low high n : ℕ) (text : Text) → high < 2 ^ 64 → low ≤ n → n ≤ high → digits_value 10 text ≡ n
    → list_all is_ascii_digit text ≡ true → 0 < length text → eqb (get_or text 0 0) 48 ≡ false → number_of low high text ≡ Some n
number_read low high n text small above below value digits some first =
    let led : get_or text 0 0 ≡ 48 → length text ≡ 1 = λ zero. let bad : eqb (get_or text 0 0) 48 ≡ true = ap (λ b. eqb b 48) zero in absurd cc in
    let spelled = decimal-digits_value decimal_digits text digits some led (omega (arith, value)) in
    number_full low high text n small (record { low_le = above; le_high = below; spelled = sym spelled ∙ ap decimal value })

-- a text that isn't of digits is no number
pub no_number : (low high : ℕ) (text : Text) → high < 2 ^ 64 → list_all is_ascii_digit text ≡ false → number_of low high text ≡ None
no_number low high text small none = number_none low high text (λ n is.
    let digits : list_all is_ascii_digit (decimal n) ≡ true = digits_decimal decimal_digits n (omega (arith, is.le_high)) in
    let bad : list_all is_ascii_digit (decimal n) ≡ false = sym (ap (list_all is_ascii_digit) is.spelled) ∙ none in
    absurd cc)

minus_no_digits : (text : Text) → starts_with_minus text ≡ true → list_all is_ascii_digit text ≡ false
minus_no_digits text minus = by (list_all is_ascii_digit text) refl
  where
    by : (b : Bool) → list_all is_ascii_digit text ≡ b → list_all is_ascii_digit text ≡ false
    by true digits = let plain = digits_plain text digits in absurd cc
    by false digits = digits

one_hyphen : (text : Text) → has_one_hyphen text ≡ true → starts_with_minus text ≡ true
one_hyphen [] one = absurd cc
one_hyphen (first ∷ []) one = absurd cc
one_hyphen (first ∷ second ∷ rest) one = (both_hold (first == 45) (not (second == 45)) one).0

-- nor is one that begins with a hyphen
pub no_signed : (low high : ℕ) (text : Text) → high < 2 ^ 64 → has_one_hyphen text ≡ true → number_of low high text ≡ None
no_signed low high text small one = no_number low high text small (minus_no_digits text (one_hyphen text one))
