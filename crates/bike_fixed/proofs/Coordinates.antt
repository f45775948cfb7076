-- A coordinate is read exactly where it is spelled.
use Rattle.std.proofs.Common.{◌≡◌, ◌≢◌, ℕ, ℤ, suc, ◌+◌, ◌-◌, ◌*◌, ◌^◌, ◌<◌, ◌≤◌, List, [], ◌∷◌, ◌++◌, length, take, drop, Bool, true, false, cond, eqb, leb, ltb, ◌&&◌, Option, Some, None, Result, Ok}
use Rattle.std.proofs.Common.{refl, sym, ap, ◌∙◌, subst, add-one, arith, rules, inl, inr, ◌⊎◌}
use Rattle.std.specs.List.{list_all, onto_first, position_or_len, before_first, after_first, slice_split, join_with_byte}
use Rattle.std.specs.Char.{is_ascii_digit}
use Rattle.std.specs.Str.Parse.{digits_value, ParsesUnsigned}
use Rattle.std.proofs.lemmas.Option.{option_and_then_some, cond_some, same_Some}
use Rattle.std.proofs.lemmas.Bool.Decides.{nat_tests, eqb_tells}
use Rattle.std.proofs.lemmas.Bool.{le-leb, ltb-true}
use Rattle.std.proofs.lemmas.List.{take_at, append-nil, length-append}
use Rattle.std.proofs.lemmas.List.Splits.{slice_split_first, join_with_byte-slice_split}
use Rattle.std.proofs.lemmas.Str.Parse.{IsNumeralModel, numerals_by_value, parse_gives, digits_value_short}
use Rattle.std.proofs.lemmas.Nat.{pow-add}
use Rattle.std.proofs.lemmas.Int.{ints}
use Rattle.std.proofs.Math.Nat.{pow-le-pow_right, one-le-pow, mul-lt-mul_of_pos_right}
use Rattle.bike_fixed.specs.Coordinate.{IsCoordinate, IsMicro, minus_text, fraction, with_sign, are_digits, digits_of, is_point, size_of, within, micro_of, ◌>>=◌}
use Rattle.bike_fixed.proofs.Numbers.{both_hold}

-- ---- digits

pub decimal_digits : IsNumeralModel (λ ds. list_all is_ascii_digit ds ≡ true) (digits_value 10)
decimal_digits = numerals_by_value _ (search rules)

pub record FewDigits (most : ℕ) (text : List ℕ) : Type 0 where
  pub some : 1 ≤ length text
  pub few : length text ≤ most
  pub digits : list_all is_ascii_digit text ≡ true

pub few_digits : (most : ℕ) (text : List ℕ) → are_digits most text ≡ true → FewDigits most text
few_digits most text e =
    let tests = both_hold (leb 1 (length text) && leb (length text) most) (list_all is_ascii_digit text) e in
    let bounds = both_hold (leb 1 (length text)) (leb (length text) most) tests.0 in
    record { some = grind (arith, nat_tests, bounds.0); few = grind (arith, nat_tests, bounds.1); digits = tests.1 }

pub digits_below : (most : ℕ) (text : List ℕ) → FewDigits most text → digits_value 10 text < 10 ^ length text
digits_below most text h = digits_value_short decimal_digits text (length text) h.digits (omega arith)

power_at_most : (k : ℕ) → k ≤ 6 → 10 ^ k ≤ 1000000
power_at_most k h = pow-le-pow_right {n = 10} (omega arith) h

pub digits_parsed : {E : Type 0} (most : ℕ) (text : List ℕ) (r : Result ℕ E) → most ≤ 6 → ParsesUnsigned 32 10 text r → are_digits most text ≡ true → r ≡ Ok (digits_value 10 text)
digits_parsed most text r h p e =
    let f = few_digits most text e in
    let below = digits_below most text f in
    let power = power_at_most (length text) (omega (arith, f.few)) in
    parse_gives decimal_digits 32 text r p f.digits (omega (arith, f.some)) (omega arith)

digits_sound : (most : ℕ) (text : List ℕ) (n : ℕ) → digits_of most text ≡ Some n → FewDigits most text × (digits_value 10 text ≡ n)
unfolding digits_of
digits_sound most text n e = let s = cond_some (are_digits most text) (digits_value 10 text) n e in (few_digits most text s.0, s.1)

digits_full : (most : ℕ) (text : List ℕ) → FewDigits most text → digits_of most text ≡ Some (digits_value 10 text)
unfolding digits_of
digits_full most text f =
    let a : leb 1 (length text) ≡ true = le-leb _ _ f.some in
    let b : leb (length text) most ≡ true = le-leb _ _ f.few in
    rw (a, b, f.digits) refl

-- ---- the bounds of the sum

pub decimals_below : (m k : ℕ) → 1 ≤ k → k ≤ 6 → m < 10 ^ k → m * 10 ^ (6 - k) < 1000000
decimals_below m k some few h =
    let p : 0 < 10 ^ (6 - k) = one-le-pow (6 - k) 10 (omega arith) in
    let l : m * 10 ^ (6 - k) < 10 ^ k * 10 ^ (6 - k) = mul-lt-mul_of_pos_right h p in
    let n : k + (6 - k) ≡ 6 = omega arith in
    let e : 10 ^ k * 10 ^ (6 - k) ≡ 1000000 = sym (pow-add 10 k (6 - k)) ∙ ap (λ (j : ℕ). 10 ^ j) n in
    subst (λ (x : ℕ). m * 10 ^ (6 - k) < x) e l

pub degrees_below : (m k : ℕ) → k ≤ 3 → m < 10 ^ k → m < 1000
degrees_below m k few h = let q : 10 ^ k ≤ 1000 = pow-le-pow_right {n = 10} (omega arith) few in omega arith

-- ---- cut at the point

join_more : (x : List ℕ) (parts : List (List ℕ)) → 1 ≤ length parts → join_with_byte 46 (x ∷ parts) ≡ x ++ 46 ∷ join_with_byte 46 parts
join_more x [] h = absurd (omega arith)
join_more x (y ∷ ys) h = refl

some_onto : (x : ℕ) (parts : List (List ℕ)) → 1 ≤ length (onto_first x parts)
some_onto x [] = omega arith
some_onto x (p ∷ ps) = omega arith

some_parts : (text : List ℕ) → 1 ≤ length (slice_split is_point text)
some_parts [] = omega arith
some_parts (x ∷ xs) =
    elim (is_point x) as (λ b. 1 ≤ length (cond b ([] ∷ slice_split is_point xs) (onto_first x (slice_split is_point xs)))) [ true ↦ omega arith | false ↦ some_onto x (slice_split is_point xs) ]

cut_at_point : (text : List ℕ) → position_or_len is_point text < length text → text ≡ before_first is_point text ++ 46 ∷ after_first is_point text
cut_at_point text lt =
    let after = after_first is_point text in
    sym (join_with_byte-slice_split 46 text) ∙ ap (join_with_byte 46) (slice_split_first is_point text 0 lt)
    ∙ join_more (before_first is_point text) (slice_split is_point after) (some_parts after)
    ∙ ap (λ (t : List ℕ). before_first is_point text ++ 46 ∷ t) (join_with_byte-slice_split 46 after)

pub digit_is_not : (x k : ℕ) → is_ascii_digit k ≡ false → is_ascii_digit x ≡ true → eqb x k ≡ false
digit_is_not x k f e = elim (eqb_tells x k) [ inl w ↦ let g : is_ascii_digit x ≡ false = ap is_ascii_digit w.1 ∙ f in absurd cc | inr w ↦ w.0 ]

point_after : (xs ys : List ℕ) → list_all is_ascii_digit xs ≡ true → position_or_len is_point (xs ++ 46 ∷ ys) ≡ length xs
point_after [] ys h = refl
point_after (x ∷ xs) ys h =
    let b = both_hold (is_ascii_digit x) (list_all is_ascii_digit xs) h in
    let f : eqb x 46 ≡ false = digit_is_not x 46 refl b.0 in
    let r = point_after xs ys b.1 in
    rw (f, r) (omega arith)

no_point : (xs : List ℕ) → list_all is_ascii_digit xs ≡ true → position_or_len is_point xs ≡ length xs
no_point [] h = refl
no_point (x ∷ xs) h =
    let b = both_hold (is_ascii_digit x) (list_all is_ascii_digit xs) h in
    let f : eqb x 46 ≡ false = digit_is_not x 46 refl b.0 in
    let r = no_point xs b.1 in
    rw (f, r) (omega arith)

-- ---- without a sign

record IsSize (text : List ℕ) (n : ℕ) : Type 0 where
  whole : List ℕ
  part : List ℕ
  whole_digits : list_all is_ascii_digit whole ≡ true
  part_digits : list_all is_ascii_digit part ≡ true
  some_whole : 1 ≤ length whole
  few_whole : length whole ≤ 3
  few_part : length part ≤ 6
  spelled : text ≡ whole ++ fraction part
  value : n ≡ digits_value 10 whole * 1000000 + digits_value 10 part * 10 ^ (6 - length part)

fraction_some : (part : List ℕ) → 1 ≤ length part → fraction part ≡ 46 ∷ part
fraction_some [] h = absurd (omega arith)
fraction_some (d ∷ ds) h = refl

abbrev with_point : List ℕ → List ℕ → Option ℕ
with_point w p = digits_of 3 w >>= λ n. digits_of 6 p >>= λ m. Some (n * 1000000 + m * 10 ^ (6 - length p))

abbrev without_point : List ℕ → Option ℕ
without_point text = digits_of 3 text >>= λ n. Some (n * 1000000)

with_point_sound : (text w p : List ℕ) (n : ℕ) → text ≡ w ++ 46 ∷ p → with_point w p ≡ Some n → IsSize text n
with_point_sound text w p n cut e =
    option_and_then_some (λ n. digits_of 6 p >>= λ m. Some (n * 1000000 + m * 10 ^ (6 - length p))) (digits_of 3 w) n e (λ a f g.
    option_and_then_some (λ m. Some (a * 1000000 + m * 10 ^ (6 - length p))) (digits_of 6 p) n g (λ b h k.
    let dw = digits_sound 3 w a f in
    let dp = digits_sound 6 p b h in
    record {
      whole = w;
      part = p;
      whole_digits = dw.0.digits;
      part_digits = dp.0.digits;
      some_whole = dw.0.some;
      few_whole = dw.0.few;
      few_part = dp.0.few;
      spelled = cut ∙ ap (λ (t : List ℕ). w ++ t) (sym (fraction_some p dp.0.some));
      value = sym (same_Some _ n k) ∙ ap (λ (x : ℕ). x * 1000000 + b * 10 ^ (6 - length p)) (sym dw.1) ∙ ap (λ (x : ℕ). digits_value 10 w * 1000000 + x * 10 ^ (6 - length p)) (sym dp.1);
    }))

without_point_sound : (text : List ℕ) (n : ℕ) → without_point text ≡ Some n → IsSize text n
without_point_sound text n e =
    option_and_then_some (λ n. Some (n * 1000000)) (digits_of 3 text) n e (λ a f g.
    let d = digits_sound 3 text a f in
    record {
      whole = text;
      part = [];
      whole_digits = d.0.digits;
      part_digits = refl;
      some_whole = d.0.some;
      few_whole = d.0.few;
      few_part = omega arith;
      spelled = sym (append-nil text);
      value = sym (same_Some _ n g) ∙ ap (λ (x : ℕ). x * 1000000) (sym d.1) ∙ omega arith;
    })

size_sound : (text : List ℕ) (n : ℕ) → size_of text ≡ Some n → IsSize text n
unfolding size_of
size_sound text n e = go (ltb (position_or_len is_point text) (length text)) refl where
  go : (b : Bool) → ltb (position_or_len is_point text) (length text) ≡ b → IsSize text n
  go true i = with_point_sound text (before_first is_point text) (after_first is_point text) n (cut_at_point text (ltb-true _ _ i))
      (sym (ap (λ b. cond b (with_point (before_first is_point text) (after_first is_point text)) (without_point text)) i) ∙ e)
  go false i = without_point_sound text n (sym (ap (λ b. cond b (with_point (before_first is_point text) (after_first is_point text)) (without_point text)) i) ∙ e)

without_point_full : (w : List ℕ) → FewDigits 3 w → size_of w ≡ Some (digits_value 10 w * 1000000)
unfolding size_of
without_point_full w d =
    let i : ltb (position_or_len is_point w) (length w) ≡ false = rw (no_point w d.digits) (not_below (length w)) in
    rw (i, digits_full 3 w d) refl
  where
    not_below : (n : ℕ) → ltb n n ≡ false
    not_below n = grind (arith, nat_tests)

with_point_full : (w p : List ℕ) → FewDigits 3 w → FewDigits 6 p → size_of (w ++ 46 ∷ p) ≡ Some (digits_value 10 w * 1000000 + digits_value 10 p * 10 ^ (6 - length p))
unfolding size_of
with_point_full w p d f =
    let q = point_after w p d.digits in
    let len : length (w ++ 46 ∷ p) ≡ length w + suc (length p) = length-append w (46 ∷ p) in
    let i : ltb (position_or_len is_point (w ++ 46 ∷ p)) (length (w ++ 46 ∷ p)) ≡ true = le-leb _ _ (omega (arith, q, len)) in
    let b : before_first is_point (w ++ 46 ∷ p) ≡ w = ap (λ (k : ℕ). take k (w ++ 46 ∷ p)) q ∙ take_at w (46 ∷ p) (length w) refl in
    let a : after_first is_point (w ++ 46 ∷ p) ≡ p = ap (λ (k : ℕ). drop (k + 1) (w ++ 46 ∷ p)) q ∙ drop_past w p in
    let e : with_point (before_first is_point (w ++ 46 ∷ p)) (after_first is_point (w ++ 46 ∷ p)) ≡ with_point w p = ap (λ (x : List ℕ). with_point x (after_first is_point (w ++ 46 ∷ p))) b ∙ ap (λ (x : List ℕ). with_point w x) a in
    ap (λ t. cond t (with_point (before_first is_point (w ++ 46 ∷ p)) (after_first is_point (w ++ 46 ∷ p))) (without_point (w ++ 46 ∷ p))) i ∙ e ∙ rw (digits_full 3 w d, digits_full 6 p f) refl
  where
    drop_past : (xs ys : List ℕ) → drop (length xs + 1) (xs ++ 46 ∷ ys) ≡ ys
    drop_past [] ys = refl
    drop_past (x ∷ xs) ys = ap (λ (k : ℕ). drop k (x ∷ (xs ++ 46 ∷ ys))) (add-one (length (x ∷ xs))) ∙ ap (λ (k : ℕ). drop k (xs ++ 46 ∷ ys)) (sym (add-one (length xs))) ∙ drop_past xs ys

size_full : (whole part : List ℕ) → FewDigits 3 whole → list_all is_ascii_digit part ≡ true → length part ≤ 6
    → size_of (whole ++ fraction part) ≡ Some (digits_value 10 whole * 1000000 + digits_value 10 part * 10 ^ (6 - length part))
size_full whole [] d e f = ap size_of (append-nil whole) ∙ without_point_full whole d ∙ ap Some (omega arith)
size_full whole (x ∷ xs) d e f = with_point_full whole (x ∷ xs) d (record { some = omega arith; few = f; digits = e })

-- ---- with the sign

pub micro_plain : (text : List ℕ) → ((rest : List ℕ) → text ≢ 45 ∷ rest) → within false text ≡ micro_of text
unfolding micro_of size_of digits_of
micro_plain [] h = refl
micro_plain (c ∷ bs) h =
    let e : eqb c 45 ≡ false = elim (eqb_tells c 45) [ inl w ↦ absurd (h bs (ap (λ x. x ∷ bs) w.1)) | inr w ↦ w.0 ] in
    rw e refl

pub micro_minus : (text rest : List ℕ) → text ≡ 45 ∷ rest → within true rest ≡ micro_of text
unfolding micro_of
micro_minus text rest e = rw e refl

no_minus_first : (whole rest : List ℕ) → 1 ≤ length whole → list_all is_ascii_digit whole ≡ true → micro_of (whole ++ rest) ≡ within false (whole ++ rest)
unfolding micro_of
no_minus_first [] rest some h = absurd (omega arith)
no_minus_first (x ∷ xs) rest some h =
    let b = both_hold (is_ascii_digit x) (list_all is_ascii_digit xs) h in
    let f : eqb x 45 ≡ false = digit_is_not x 45 refl b.0 in
    rw f refl

micro_within : (minus : Bool) (n : ℕ) → n ≤ 180000000 → IsMicro (with_sign minus n)
micro_within true n h = (omega (arith, ints, h), omega (arith, ints, h))
micro_within false n h = (omega (arith, ints, h), omega (arith, ints, h))

within_sound : (minus : Bool) (text : List ℕ) (z : ℤ) → within minus text ≡ Some z → IsCoordinate (minus_text minus ++ text) z × IsMicro z
within_sound minus text z e =
    option_and_then_some (λ n. cond (leb n 180000000) (Some (with_sign minus n)) None) (size_of text) z e (λ n f g.
    let s = size_sound text n f in
    let c = cond_some (leb n 180000000) (with_sign minus n) z g in
    let few : n ≤ 180000000 = grind (arith, nat_tests, c.0) in (
      record {
        minus = minus;
        whole = s.whole;
        part = s.part;
        whole_digits = s.whole_digits;
        part_digits = s.part_digits;
        some_whole = s.some_whole;
        few_whole = s.few_whole;
        few_part = s.few_part;
        spelled = ap (λ (t : List ℕ). minus_text minus ++ t) s.spelled;
        value = sym c.1 ∙ ap (with_sign minus) s.value;
      },
      subst IsMicro c.1 (micro_within minus n few),
    ))

pub micro_sound : (text : List ℕ) (z : ℤ) → micro_of text ≡ Some z → IsCoordinate text z × IsMicro z
unfolding micro_of
micro_sound [] z e = absurd cc
micro_sound (c ∷ bs) z e = go (eqb_tells c 45) where
  go : ((eqb c 45 ≡ true) × (c ≡ 45)) ⊎ ((eqb c 45 ≡ false) × (c ≢ 45)) → IsCoordinate (c ∷ bs) z × IsMicro z
  go (inl w) = subst (λ (x : ℕ). IsCoordinate (x ∷ bs) z × IsMicro z) (sym w.1) (within_sound true bs z (sym (ap (λ b. cond b (within true bs) (within false (c ∷ bs))) w.0) ∙ e))
  go (inr w) = within_sound false (c ∷ bs) z (sym (ap (λ b. cond b (within true bs) (within false (c ∷ bs))) w.0) ∙ e)

size_within : (minus : Bool) (n : ℕ) → IsMicro (with_sign minus n) → n ≤ 180000000
size_within true n h = omega (arith, ints, h.0)
size_within false n h = omega (arith, ints, h.1)

within_full : (minus : Bool) (text : List ℕ) (n : ℕ) (z : ℤ) → size_of text ≡ Some n → z ≡ with_sign minus n → IsMicro z → within minus text ≡ Some z
within_full minus text n z e v h =
    let few : n ≤ 180000000 = size_within minus n (subst IsMicro v h) in
    let l : leb n 180000000 ≡ true = le-leb _ _ few in
    rw (e, l) (ap Some (sym v))

pub micro_full : (text : List ℕ) (z : ℤ) → IsCoordinate text z → IsMicro z → micro_of text ≡ Some z
unfolding micro_of
micro_full text z c h = go c.minus refl where
  few : FewDigits 3 c.whole
  few = record { some = c.some_whole; few = c.few_whole; digits = c.whole_digits }

  go : (b : Bool) → c.minus ≡ b → micro_of text ≡ Some z
  go true i =
      let t : text ≡ 45 ∷ (c.whole ++ fraction c.part) = c.spelled ∙ ap (λ b. minus_text b ++ (c.whole ++ fraction c.part)) i in
      ap micro_of t ∙ within_full true (c.whole ++ fraction c.part) (digits_value 10 c.whole * 1000000 + digits_value 10 c.part * 10 ^ (6 - length c.part)) z
      (size_full c.whole c.part few c.part_digits c.few_part) (c.value ∙ ap (λ b. with_sign b (digits_value 10 c.whole * 1000000 + digits_value 10 c.part * 10 ^ (6 - length c.part))) i) h
  go false i =
      let t : text ≡ c.whole ++ fraction c.part = c.spelled ∙ ap (λ b. minus_text b ++ (c.whole ++ fraction c.part)) i in
      ap micro_of t ∙ no_minus_first c.whole (fraction c.part) c.some_whole c.whole_digits
      ∙ within_full false (c.whole ++ fraction c.part) (digits_value 10 c.whole * 1000000 + digits_value 10 c.part * 10 ^ (6 - length c.part)) z
      (size_full c.whole c.part few c.part_digits c.few_part) (c.value ∙ ap (λ b. with_sign b (digits_value 10 c.whole * 1000000 + digits_value 10 c.part * 10 ^ (6 - length c.part))) i) h
