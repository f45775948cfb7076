-- The decimal of any number: its bytes are digits, and what is read of it is the number.
use Rattle.std.proofs.Common.{◌≡◌, ℕ, zero, suc, ◌+◌, ◌/◌, ◌%◌, ◌^◌, ◌≤◌, ◌<◌, List, [], ◌∷◌, length, Bool, true, false, cond, inl, inr, Some, refl, sym, ap, ◌∙◌, arith, decimal, eqb}
use Rattle.std.proofs.Math.Nat.{pow-suc, one-le-pow}
use Rattle.std.specs.Char.{is_ascii_digit}
use Rattle.std.specs.Fmt.{digits, digits_onto, digit_glyph}
use Rattle.std.specs.List.{list_all}
use Rattle.std.specs.Str.Parse.{digits_value}
use Rattle.std.proofs.lemmas.Bool.{cases_lt, ne_eqb}
use Rattle.std.proofs.lemmas.Bool.Decides.{nat_tests}
use Rattle.std.proofs.lemmas.Fmt.{decimal_is_IsNumeral_wide, length-decimal-le}
use Rattle.bike_fixed.specs.Whole.{number_of}
use Rattle.bike_fixed.proofs.Numbers.{number_sound}
use Rattle.bike_texts.proofs.Absent.{Lacks, set_lacks}

-- ---- its bytes

glyph_is : (n : ℕ) → is_ascii_digit (digit_glyph false (n % 10)) ≡ true
glyph_is n = let small : n % 10 < 10 = omega arith in grind (arith, nat_tests)

onto_digits : (k n : ℕ) (behind : List ℕ) → list_all is_ascii_digit behind ≡ true → list_all is_ascii_digit (digits_onto k 10 false n behind) ≡ true
onto_digits zero n behind h = h
onto_digits (suc k) n behind h = go (eqb (n / 10) 0) (onto_digits k (n / 10) (digit_glyph false (n % 10) ∷ behind)) where
  more : List ℕ
  more = digit_glyph false (n % 10) ∷ behind

  are : list_all is_ascii_digit more ≡ true
  are = rw (glyph_is n) h

  go : (b : Bool) → (list_all is_ascii_digit more ≡ true → list_all is_ascii_digit (digits_onto k 10 false (n / 10) more) ≡ true)
      → list_all is_ascii_digit (cond b more (digits_onto k 10 false (n / 10) more)) ≡ true
  go true later = are
  go false later = later are

all_digits : (n : ℕ) → list_all is_ascii_digit (decimal n) ≡ true
unfolding digits
all_digits n = onto_digits 64 n [] refl

pub decimal_lacks : (c n : ℕ) → is_ascii_digit c ≡ false → Lacks c (decimal n)
decimal_lacks c n out = set_lacks is_ascii_digit c out (decimal n) (all_digits n)

-- ---- the number that is read

-- of a great number so many digits stand as there is room for
onto_length : (k n : ℕ) (behind : List ℕ) → 10 ^ k ≤ n → length (digits_onto k 10 false n behind) ≡ k + length behind
onto_length zero n behind great = omega arith
onto_length (suc k) n behind great = first ∙ onto_length k (n / 10) (digit_glyph false (n % 10) ∷ behind) rest ∙ omega arith where
  rest : 10 ^ k ≤ n / 10
  rest = let more = pow-suc 10 k in omega (arith, more, great)

  some : n / 10 ≡ 0 → ⊥
  some none = let one = one-le-pow k 10 (omega arith) in omega (arith, one, rest, none)

  first : length (digits_onto (suc k) 10 false n behind) ≡ length (digits_onto k 10 false (n / 10) (digit_glyph false (n % 10) ∷ behind))
  first = ap (λ (b : Bool). length (cond b (digit_glyph false (n % 10) ∷ behind) (digits_onto k 10 false (n / 10) (digit_glyph false (n % 10) ∷ behind)))) (ne_eqb (n / 10) 0 some)

great_length : (n : ℕ) → 10 ^ 64 ≤ n → length (decimal n) ≡ 64
unfolding digits
great_length n great = onto_length 64 n [] great ∙ omega arith

pub count_is : (n m : ℕ) → number_of 0 4294967295 (decimal n) ≡ Some m → m ≡ n
count_is n m read =
    let it = number_sound 0 4294967295 (decimal n) m read in
    let small : m < 10 ^ 10 = omega (arith, it.le_high) in
    elim (cases_lt n (10 ^ 64)) [
      | inl below ↦ sym (decimal_is_IsNumeral_wide m (omega (arith, small))).1 ∙ ap (digits_value 10) (sym it.spelled) ∙ (decimal_is_IsNumeral_wide n below).1
      | inr great ↦
          let short = length-decimal-le 10 m (omega arith) small (omega (arith, small)) in
          let long = great_length n great in
          absurd (let same = ap length it.spelled in omega (arith, short, long, same))
    ]
