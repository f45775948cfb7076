-- Reading a number is exact: what is read is spelled by the text, and what the text spells is read.
use Rattle.std.proofs.Common.{◌≡◌, ℕ, ◌<◌, ◌^◌, List, [], ◌∷◌, length, ℤ, pos, negsuc, neg_ℤ, suc, ◌≤ℤ◌, eqb, inl, inr, rules, FitsSigned, Bool, true, false, ◌&&◌, to_z, of_z, Option, Some, None}
use Rattle.std.proofs.Common.{Result, Ok, refl, ap, ◌∙◌, subst, arith, leb, decimal}
use Rattle.std.specs.Prelude.{int_le, int_lt}
use Rattle.std.specs.Char.{is_ascii_digit}
use Rattle.std.specs.List.{list_all}
use Rattle.std.specs.Fmt.{signed_decimal}
use Rattle.std.specs.Int.{w64}
use Rattle.std.specs.Str.{bytes_eq}
use Rattle.std.specs.Str.Parse.{digits_value, ParsesUnsigned, ParsesSigned}
use Rattle.std.proofs.lemmas.Option.{cond_some}
use Rattle.std.proofs.lemmas.Bool.Decides.{nat_tests, eqb_tells}
use Rattle.std.proofs.lemmas.Fmt.{decimal_is_IsNumeral, parse-decimal, parse-signed_decimal, digits_decimal, digits_value-decimal, decimal_nonempty}
use Rattle.std.proofs.lemmas.Int.{ints, to_z-of_z}
use Rattle.std.proofs.lemmas.Str.Parse.{IsNumeralModel, numerals_by_value}
use Rattle.std.proofs.lemmas.Slice.Eq.{bytes_eq-Decides}
use Rattle.bike_fixed.specs.Whole.{number_of, IsNumber, signed_value, signed_of, IsSignedNumber}

pub both_hold : (a b : Bool) → (a && b) ≡ true → (a ≡ true) × (b ≡ true)
both_hold true b e = (refl, e)
both_hold false b e = absurd cc

pub number_sound : (low high : ℕ) (text : List ℕ) (n : ℕ) → number_of low high text ≡ Some n → IsNumber low high text n
unfolding number_of
number_sound low high text n e =
    let v = digits_value 10 text in
    let taken = cond_some ((leb low v && leb v high) && bytes_eq text (decimal v)) v n e in
    let tests = both_hold (leb low v && leb v high) (bytes_eq text (decimal v)) taken.0 in
    let bounds = both_hold (leb low v) (leb v high) tests.0 in
    subst (λ (k : ℕ). IsNumber low high text k) taken.1 (record {
      low_le = grind (arith, nat_tests, bounds.0);
      le_high = grind (arith, nat_tests, bounds.1);
      spelled = (bytes_eq-Decides text (decimal v)).0 tests.1;
    })

pub number_full : (low high : ℕ) (text : List ℕ) (n : ℕ) → high < 2 ^ 64 → IsNumber low high text n → number_of low high text ≡ Some n
unfolding number_of
number_full low high text n small h =
    let value : digits_value 10 text ≡ n = ap (digits_value 10) h.spelled ∙ (decimal_is_IsNumeral n (omega arith)).1 in
    let above : leb low n ≡ true = grind (arith, nat_tests) in
    let below : leb n high ≡ true = grind (arith, nat_tests) in
    let same : bytes_eq text (decimal n) ≡ true = (bytes_eq-Decides text (decimal n)).1 h.spelled in
    rw (value, above, below, same) refl

none_from : {A : Type 0} (o : Option A) → ((a : A) → o ≡ Some a → ⊥) → o ≡ None
none_from None h = refl
none_from (Some a) h = absurd (h a refl)

pub number_none : (low high : ℕ) (text : List ℕ) → ((n : ℕ) → IsNumber low high text n → ⊥) → number_of low high text ≡ None
number_none low high text h = none_from (number_of low high text) (λ n e. h n (number_sound low high text n e))

-- what `parse` reads is the only number that the text can spell
pub number_parsed : {E : Type 0} (low high : ℕ) (text : List ℕ) (r : Result ℕ E) (n : ℕ) → high < 2 ^ 64 → ParsesUnsigned 64 10 text r → IsNumber low high text n → r ≡ Ok n
number_parsed low high text r n small parsed h =
    parse-decimal 64 n text r (omega (arith, h.le_high)) (omega (arith, h.le_high)) h.spelled parsed

-- ---- signed numbers

starts_with_digit : (bs : List ℕ) → 0 < length bs → list_all is_ascii_digit bs ≡ true → signed_value bs ≡ pos (digits_value 10 bs)
starts_with_digit [] some h = absurd (omega arith)
starts_with_digit (b ∷ bs) some h =
    let d = both_hold (is_ascii_digit b) (list_all is_ascii_digit bs) h in
    let e : eqb b 45 ≡ false = elim (eqb_tells b 45) [ inl w ↦ let g : is_ascii_digit b ≡ false = ap is_ascii_digit w.1 in absurd cc | inr w ↦ w.0 ] in
    rw e refl

decimal_digits : IsNumeralModel (λ ds. list_all is_ascii_digit ds ≡ true) (digits_value 10)
decimal_digits = numerals_by_value _ (search rules)

-- the value of a signed decimal is the number
signed_value_decimal : (z : ℤ) → FitsSigned w64 z → signed_value (signed_decimal z) ≡ z
signed_value_decimal (pos n) fits =
    let small : n < 2 ^ 64 = omega (arith, fits.sfits) in
    starts_with_digit (decimal n) (omega (arith, decimal_nonempty n small)) (digits_decimal decimal_digits n small) ∙ ap pos (digits_value-decimal decimal_digits n small)
signed_value_decimal (negsuc n) fits =
    let small : suc n < 2 ^ 64 = omega (arith, fits.sfits) in
    ap (λ (k : ℕ). neg_ℤ (pos k)) (digits_value-decimal decimal_digits (suc n) small)

le_test : (a b : ℤ) → int_le a b ≡ true → a ≤ℤ b
le_test a b h = grind (arith, ints)

le_tested : (a b : ℤ) → a ≤ℤ b → int_le a b ≡ true
le_tested a b h = grind (arith, ints)

pub signed_sound : (low high : ℤ) (text : List ℕ) (z : ℤ) → signed_of low high text ≡ Some z → IsSignedNumber low high text z
unfolding signed_of
signed_sound low high text z e =
    let v = signed_value text in
    let taken = cond_some ((int_le low v && int_le v high) && bytes_eq text (signed_decimal v)) v z e in
    let tests = both_hold (int_le low v && int_le v high) (bytes_eq text (signed_decimal v)) taken.0 in
    let bounds = both_hold (int_le low v) (int_le v high) tests.0 in
    subst (λ (k : ℤ). IsSignedNumber low high text k) taken.1 (record {
      low_le = le_test low v bounds.0;
      le_high = le_test v high bounds.1;
      spelled = (bytes_eq-Decides text (signed_decimal v)).0 tests.1;
    })

pub signed_full : (low high : ℤ) (text : List ℕ) (z : ℤ) → FitsSigned w64 z → IsSignedNumber low high text z → signed_of low high text ≡ Some z
unfolding signed_of
signed_full low high text z fits h =
    let value : signed_value text ≡ z = ap signed_value h.spelled ∙ signed_value_decimal z fits in
    let above : int_le low z ≡ true = le_tested low z h.low_le in
    let below : int_le z high ≡ true = le_tested z high h.le_high in
    let same : bytes_eq text (signed_decimal z) ≡ true = (bytes_eq-Decides text (signed_decimal z)).1 h.spelled in
    rw (value, above, below, same) refl

pub signed_none : (low high : ℤ) (text : List ℕ) → ((z : ℤ) → IsSignedNumber low high text z → ⊥) → signed_of low high text ≡ None
signed_none low high text h = none_from (signed_of low high text) (λ z e. h z (signed_sound low high text z e))

pub between_fits : (low high z : ℤ) → FitsSigned w64 low → FitsSigned w64 high → low ≤ℤ z → z ≤ℤ high → FitsSigned w64 z
between_fits (pos a) (pos b) (pos n) l h x y = record { sfits = omega (arith, ints, l.sfits, h.sfits) }
between_fits (pos a) (pos b) (negsuc n) l h x y = record { sfits = omega (arith, ints, l.sfits, h.sfits) }
between_fits (pos a) (negsuc b) (pos n) l h x y = record { sfits = omega (arith, ints, l.sfits, h.sfits) }
between_fits (pos a) (negsuc b) (negsuc n) l h x y = record { sfits = omega (arith, ints, l.sfits, h.sfits) }
between_fits (negsuc a) (pos b) (pos n) l h x y = record { sfits = omega (arith, ints, l.sfits, h.sfits) }
between_fits (negsuc a) (pos b) (negsuc n) l h x y = record { sfits = omega (arith, ints, l.sfits, h.sfits) }
between_fits (negsuc a) (negsuc b) (pos n) l h x y = record { sfits = omega (arith, ints, l.sfits, h.sfits) }
between_fits (negsuc a) (negsuc b) (negsuc n) l h x y = record { sfits = omega (arith, ints, l.sfits, h.sfits) }

-- what `parse` reads is the only number that the text can spell
pub signed_parsed : {E : Type 0} (low high : ℤ) (text : List ℕ) (r : Result ℤ E) (z : ℤ) → FitsSigned w64 low → FitsSigned w64 high → ParsesSigned w64 10 text r → IsSignedNumber low high text z
    → r ≡ Ok z
signed_parsed low high text r z l h parsed i =
    let fits = between_fits low high z l h i.low_le i.le_high in
    parse-signed_decimal w64 z text r fits fits.sfits i.spelled parsed

-- a machine's number is the number that it stands for
pub is_itself : (z : ℤ) → FitsSigned w64 z → to_z w64 (of_z w64 z) ≡ z
is_itself z f = to_z-of_z w64 z f

pub not_below : (y z : ℤ) → FitsSigned w64 y → FitsSigned w64 z → int_lt (to_z w64 (of_z w64 y)) (to_z w64 (of_z w64 z)) ≡ true → z ≤ℤ y → ⊥
not_below y z f g t le =
    let b : int_lt y z ≡ true = rw (is_itself y f, is_itself z g) at t in
    grind (arith, ints, b, le)

pub is_above : (y z : ℤ) → FitsSigned w64 y → FitsSigned w64 z → int_lt (to_z w64 (of_z w64 y)) (to_z w64 (of_z w64 z)) ≡ false → z ≤ℤ y
is_above y z f g t =
    let b : int_lt y z ≡ false = rw (is_itself y f, is_itself z g) at t in
    grind (arith, ints, b)
