-- Texts that may stand in a line: short, UTF-8, and without a line feed.
use Rattle.std.proofs.Common.{◌≡◌, ℕ, ℤ, suc, pos, negsuc, neg_ℤ, ◌≤ℤ◌, ◌≤◌, ◌<◌, ◌+◌, ◌^◌, List, [], ◌∷◌, ◌++◌, Bool, true, false, not, cond, eqb, ◌&&◌, refl, sym, subst, inl, inr, arith}
use Rattle.std.proofs.Common.{codes, decimal, length, length-append}
use Rattle.std.specs.Prelude.{nat_le}
use Rattle.std.specs.Char.{IsScalar, is_ascii_digit}
use Rattle.std.specs.Fmt.{signed_decimal}
use Rattle.std.specs.List.{list_all}
use Rattle.std.specs.Str.{IsUtf8, IsAscii, chars, all_scalars}
use Rattle.std.proofs.Math.Utf8.{encode, encodes}
use Rattle.std.proofs.lemmas.Bool.Decides.{nat_tests, eqb_tells}
use Rattle.std.proofs.lemmas.Fmt.{digits_decimal, length-decimal-le}
use Rattle.std.proofs.lemmas.Int.{ints}
use Rattle.std.proofs.lemmas.Str.{IsUtf8-nil, IsUtf8-append, IsUtf8-encode, IsUtf8-from_ascii, encodes-chars, scalars-chars}
use Rattle.std.proofs.lemmas.Str.Ascii.{IsAscii-nil, IsAscii-cons}
use Rattle.bike_fixed.proofs.Coordinates.{decimal_digits}
use Rattle.bike_fields.specs.Bytes.{is_printable}
use Rattle.bike_fields.proofs.Lengths.{both_hold}
use Rattle.bike_texts.specs.Fields.{escape, escapes_of}
use Rattle.bike_texts.proofs.Absent.{all_append, all_weaker, set_lacks}
use Rattle.bike_texts.proofs.Escaping.{char_stays, escapes_of-append}
use Rattle.bike_requests.specs.Lines.{HasNoFeed}

-- the text has at most so many bytes, is UTF-8, and has no line feed
pub record FitsLine (most : ℕ) (text : List ℕ) : Type 0 where
  pub short : length text ≤ most
  pub utf8 : IsUtf8 text
  pub unbroken : HasNoFeed text

-- ---- one behind another

pub within : {most greatest : ℕ} {text : List ℕ} → most ≤ greatest → FitsLine most text → FitsLine greatest text
within le h = record { short = omega (arith, le, h.short); utf8 = h.utf8; unbroken = h.unbroken }

pub appended : {m n : ℕ} {xs ys : List ℕ} → FitsLine m xs → FitsLine n ys → FitsLine (m + n) (xs ++ ys)
appended {xs = xs} {ys = ys} a b = record {
  short = omega (arith, length-append xs ys, a.short, b.short);
  utf8 = IsUtf8-append xs ys a.utf8 b.utf8;
  unbroken = all_append (λ x. not (eqb x 10)) xs ys a.unbroken b.unbroken;
}

tab_fits : FitsLine 1 (9 ∷ [])
tab_fits = record { short = omega arith; utf8 = IsUtf8-from_ascii (9 ∷ []) (IsAscii-cons 9 [] (omega arith) IsAscii-nil); unbroken = refl }

pub behind_tab : {n : ℕ} {text : List ℕ} → FitsLine n text → FitsLine (1 + n) (9 ∷ text)
behind_tab h = appended tab_fits h

-- ---- printable texts

printable_ascii : (bs : List ℕ) → list_all is_printable bs ≡ true → IsAscii bs
printable_ascii [] h = IsAscii-nil
printable_ascii (b ∷ bs) h =
    let t = both_hold (is_printable b) (list_all is_printable bs) h in
    IsAscii-cons b bs (small b t.0) (printable_ascii bs t.1)
  where
    small : (b : ℕ) → is_printable b ≡ true → b < 128
    small b p = grind (arith, nat_tests, p)

printed : (word : List ℕ) → list_all is_printable word ≡ true → IsUtf8 word
printed word h = IsUtf8-from_ascii word (printable_ascii word h)

pub printable_fits : {most : ℕ} (bs : List ℕ) → length bs ≤ most → list_all is_printable bs ≡ true → FitsLine most bs
printable_fits bs short h = record { short = short; utf8 = printed bs h; unbroken = set_lacks is_printable 10 refl bs h }

-- a word that is given
pub word_fits : {most : ℕ} (word : List ℕ) → (nat_le (length word) most && list_all is_printable word) ≡ true → FitsLine most word
word_fits {most = most} word h =
    let t = both_hold (nat_le (length word) most) (list_all is_printable word) h in
    printable_fits word (grind (arith, nat_tests, t.0)) t.1

digit_printable : (b : ℕ) → is_ascii_digit b ≡ true → is_printable b ≡ true
digit_printable b h = grind (arith, nat_tests, h)

pub digits_fits : {most : ℕ} (bs : List ℕ) → length bs ≤ most → list_all is_ascii_digit bs ≡ true → FitsLine most bs
digits_fits bs short h = printable_fits bs short (all_weaker is_ascii_digit is_printable digit_printable bs h)

-- a number of 64 bits has at most 20 digits
pub decimal_fits : (n : ℕ) → n < 2 ^ 64 → FitsLine 20 (decimal n)
decimal_fits n small = digits_fits (decimal n) (length-decimal-le 20 n (omega arith) (omega (arith, small)) small) (digits_decimal decimal_digits n small)

pub signed_fits : (z : ℤ) → neg_ℤ (pos 9223372036854775808) ≤ℤ z → z ≤ℤ pos 9223372036854775807 → FitsLine 21 (signed_decimal z)
signed_fits (pos n) low high = within (omega arith) (decimal_fits n (omega (arith, ints, high)))
signed_fits (negsuc n) low high = appended (word_fits {most = 1} (codes "-") refl) (decimal_fits (suc n) (omega (arith, ints, low)))

-- ---- texts with escapes, of at most twice the length

shorter : (a : Bool) (xs ys : List ℕ) → length xs ≤ 2 → length ys ≤ 2 → length (cond a xs ys) ≤ 2
shorter true xs ys h i = h
shorter false xs ys h i = i

escape_short : (b : ℕ) → length (escape b) ≤ 2
escape_short b =
    shorter (eqb b 92) _ _ (omega arith) (shorter (eqb b 9) _ _ (omega arith) (shorter (eqb b 10) _ _ (omega arith) (shorter (eqb b 13) _ _ (omega arith) (omega arith))))

escapes_short : (bs : List ℕ) → length (escapes_of bs) ≤ length bs + length bs
unfolding escapes_of
escapes_short [] = omega arith
escapes_short (b ∷ bs) = omega (arith, length-append (escape b) (escapes_of bs), escape_short b, escapes_short bs)

-- one of two texts, by a test
of_two : (a : Bool) (xs ys : List ℕ) → HasNoFeed xs → (a ≡ false → HasNoFeed ys) → HasNoFeed (cond a xs ys)
of_two true xs ys h i = h
of_two false xs ys h i = i refl

escape_unbroken : (b : ℕ) → HasNoFeed (escape b)
escape_unbroken b =
    of_two (eqb b 92) _ _ refl (λ _. of_two (eqb b 9) _ _ refl (λ _. of_two (eqb b 10) _ _ refl (λ other. of_two (eqb b 13) _ _ refl (λ _. rw other refl))))

escapes_unbroken : (bs : List ℕ) → HasNoFeed (escapes_of bs)
unfolding escapes_of
escapes_unbroken [] = refl
escapes_unbroken (b ∷ bs) = all_append (λ x. not (eqb x 10)) (escape b) (escapes_of bs) (escape_unbroken b) (escapes_unbroken bs)

escape_utf8 : (c : ℕ) → IsScalar c → IsUtf8 (escapes_of (encode c))
unfolding encode escapes_of
escape_utf8 c scalar =
    elim (eqb_tells c 92) [
      | inl w ↦ at 92 w.1 (printed (codes "\\\\") refl)
      | inr v ↦ elim
          (eqb_tells c 9) [
            | inl w ↦ at 9 w.1 (printed (codes "\\t") refl)
            | inr x ↦ elim
                (eqb_tells c 10) [
                  | inl w ↦ at 10 w.1 (printed (codes "\\n") refl)
                  | inr y ↦ elim
                      (eqb_tells c 13) [
                        | inl w ↦ at 13 w.1 (printed (codes "\\r") refl)
                        | inr z ↦ subst IsUtf8 (sym (char_stays c v.1 x.1 y.1 z.1)) (IsUtf8-encode c scalar)
                      ]
                ]
          ]
    ]
  where
    at : (d : ℕ) → c ≡ d → IsUtf8 (escapes_of (encode d)) → IsUtf8 (escapes_of (encode c))
    at d is h = subst (λ (e : ℕ). IsUtf8 (escapes_of (encode e))) (sym is) h

encoded_utf8 : (cs : List ℕ) → all_scalars cs ≡ true → IsUtf8 (escapes_of (encodes cs))
unfolding escapes_of
encoded_utf8 [] h = IsUtf8-nil
encoded_utf8 (c ∷ cs) h =
    let b = both_hold _ (all_scalars cs) h in
    subst IsUtf8 (sym (escapes_of-append (encode c) (encodes cs))) (IsUtf8-append (escapes_of (encode c)) (escapes_of (encodes cs)) (escape_utf8 c b.0) (encoded_utf8 cs b.1))

pub escaped_fits : {most : ℕ} (bs : List ℕ) → length bs + length bs ≤ most → IsUtf8 bs → FitsLine most (escapes_of bs)
escaped_fits bs short utf8 = record {
  short = omega (arith, short, escapes_short bs);
  utf8 = subst (λ (t : List ℕ). IsUtf8 (escapes_of t)) (encodes-chars bs utf8) (encoded_utf8 (chars bs) (scalars-chars bs utf8));
  unbroken = escapes_unbroken bs;
}
