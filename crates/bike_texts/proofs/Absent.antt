-- Bytes that a text doesn't have.
use Rattle.std.proofs.Common.{◌≡◌, ℕ, ℤ, pos, negsuc, neg_ℤ, ◌≤ℤ◌, ◌<◌, ◌^◌, suc, List, [], ◌∷◌, ◌++◌, Bool, true, false, not, eqb, refl, ap, ◌∙◌, arith, decimal, inl, inr}
use Rattle.std.specs.Fmt.{signed_decimal}
use Rattle.std.specs.Char.{is_ascii_digit}
use Rattle.std.specs.List.{list_all, slice_split, join_with_byte, All}
use Rattle.std.proofs.lemmas.Int.{ints}
use Rattle.std.proofs.lemmas.Bool.Decides.{eqb_tells}
use Rattle.std.proofs.lemmas.Fmt.{digits_decimal}
use Rattle.std.proofs.lemmas.List.Splits.{slice_split_at, slice_split_none}
use Rattle.std.proofs.lemmas.List.Sums.{AllPass-from_list_all}
use Rattle.bike_fixed.proofs.Coordinates.{decimal_digits}
use Rattle.bike_fields.proofs.Lengths.{both_hold}

-- the text lacks the byte
abbrev pub Lacks : ℕ → List ℕ → Type 0
Lacks c bs = list_all (λ b. not (eqb b c)) bs ≡ true

abbrev pub AllLack : ℕ → List (List ℕ) → Type 0
AllLack c [] = Unit {0}
AllLack c (p ∷ ps) = Lacks c p × AllLack c ps

pub all_weaker : (p q : ℕ → Bool) → ((x : ℕ) → p x ≡ true → q x ≡ true) → (xs : List ℕ) → list_all p xs ≡ true → list_all q xs ≡ true
all_weaker p q h [] e = refl
all_weaker p q h (x ∷ xs) e = let b = both_hold (p x) (list_all p xs) e in rw (h x b.0, all_weaker p q h xs b.1) refl

pub all_append : (p : ℕ → Bool) (xs ys : List ℕ) → list_all p xs ≡ true → list_all p ys ≡ true → list_all p (xs ++ ys) ≡ true
all_append p [] ys a b = b
all_append p (x ∷ xs) ys a b = let t = both_hold (p x) (list_all p xs) a in rw (t.0, all_append p xs ys t.1 b) refl

-- a byte of a set that c isn't in
pub set_lacks : (p : ℕ → Bool) (c : ℕ) → p c ≡ false → (bs : List ℕ) → list_all p bs ≡ true → Lacks c bs
set_lacks p c out bs h = all_weaker p (λ b. not (eqb b c)) apart bs h where
  apart : (x : ℕ) → p x ≡ true → not (eqb x c) ≡ true
  apart x e = elim (eqb_tells x c) [ inl w ↦ absurd (let f : p x ≡ false = ap p w.1 ∙ out in cc) | inr w ↦ ap not w.0 ]

-- ---- numbers

pub decimal_lacks : (c n : ℕ) → is_ascii_digit c ≡ false → n < 2 ^ 64 → Lacks c (decimal n)
decimal_lacks c n out small = set_lacks is_ascii_digit c out (decimal n) (digits_decimal decimal_digits n small)

pub signed_lacks : (c : ℕ) (z : ℤ) → is_ascii_digit c ≡ false → eqb 45 c ≡ false → neg_ℤ (pos 9223372036854775808) ≤ℤ z → z ≤ℤ pos 9223372036854775807 → Lacks c (signed_decimal z)
signed_lacks c (pos n) out sign low high = decimal_lacks c n out (omega (arith, ints, high))
signed_lacks c (negsuc n) out sign low high = rw (sign, decimal_lacks c (suc n) out (omega (arith, ints, low))) refl

-- ---- joined texts

pub joined_lacks : (c separator : ℕ) (ps : List (List ℕ)) → eqb separator c ≡ false → AllLack c ps → Lacks c (join_with_byte separator ps)
joined_lacks c separator [] out h = refl
joined_lacks c separator (p ∷ []) out h = h.0
joined_lacks c separator (p ∷ q ∷ qs) out h =
    let rest = joined_lacks c separator (q ∷ qs) out h.1 in
    all_append (λ b. not (eqb b c)) p (separator ∷ join_with_byte separator (q ∷ qs)) h.0 (rw (out, rest) refl)

not_true : (b : Bool) → not b ≡ true → b ≡ false
not_true true e = absurd cc
not_true false e = refl

none_is : (c : ℕ) (bs : List ℕ) → Lacks c bs → All (λ x. eqb x c ≡ false) bs
none_is c bs h = λ k d lt. not_true _ (AllPass-from_list_all (λ b. not (eqb b c)) bs h k d lt)

-- joining and splitting undo each other
pub split_joined : (c : ℕ) (p : List ℕ) (ps : List (List ℕ)) → eqb c c ≡ true → Lacks c p → AllLack c ps → slice_split (λ b. eqb b c) (join_with_byte c (p ∷ ps)) ≡ p ∷ ps
split_joined c p [] same h hs = slice_split_none (λ b. eqb b c) p (none_is c p h)
split_joined c p (q ∷ qs) same h hs =
    slice_split_at (λ b. eqb b c) p c (join_with_byte c (q ∷ qs)) (none_is c p h) same ∙ ap (λ (r : List (List ℕ)). p ∷ r) (split_joined c q qs same hs.0 hs.1)
