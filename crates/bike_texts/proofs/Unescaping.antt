-- Undoing escapes, byte by byte.
use Rattle.std.proofs.Common.{◌≡◌, ◌≢◌, ℕ, ◌<◌, ◌+◌, List, [], ◌∷◌, ◌++◌, Option, Some, None, refl, sym, ap, ◌∙◌, append_assoc, false, true, eqb, drop, get_or, length, drop-cons, add-one, inl, inr}
use Rattle.std.proofs.Common.{Bool, ◌&&◌, cond, leb, suc, zero, ◌≤◌, arith, rules}
use Rattle.std.specs.List.{list_all}
use Rattle.std.specs.Str.{IsUtf8, is_utf8, IsAscii}
use Rattle.std.proofs.lemmas.Bool.{le-leb, lt-leb, leb-true, eqb-true}
use Rattle.std.proofs.lemmas.List.{length-append}
use Rattle.std.proofs.lemmas.Bool.Decides.{nat_tests}
use Rattle.std.proofs.lemmas.Bool.Decides.{eqb_tells}
use Rattle.std.proofs.lemmas.Str.{IsUtf8-from_is_utf8, IsUtf8-from_ascii}
use Rattle.bike_fields.specs.Bytes.{is_name, is_ascii_field, has_length, is_name_byte, is_printable, name_of, ascii_of}
use Rattle.bike_fields.proofs.Lengths.{both_hold}
use Rattle.bike_texts.specs.Reading.{◌>>=◌, at_most}
use Rattle.bike_texts.specs.Escapes.{meant_by, is_break, onto, unescape_behind, unescape, name_at, ascii_at}

-- what was read, and in front of it what was read before
abbrev pub with_front : List ℕ → Option (List ℕ) → Option (List ℕ)
with_front front read = read >>= λ bs. Some (front ++ bs)

regroup : (front : List ℕ) (b : ℕ) (others : Option (List ℕ)) → with_front front (onto (Some b) others) ≡ with_front (front ++ b ∷ []) others
regroup front b None = refl
regroup front b (Some bs) = ap Some (sym (append_assoc front (b ∷ []) bs))

at_index : (text : List ℕ) (i : ℕ) → i < length text → get_or text i 0 ∷ drop (i + 1) text ≡ drop i text
at_index text i lt = sym (drop-cons text i 0 lt ∙ ap (λ k. get_or text i 0 ∷ drop k text) (sym (add-one i)))

-- a letter behind a backslash
pub step_letter : (text front : List ℕ) (b i : ℕ) (now : Option (List ℕ)) → i < length text → Some b ≡ meant_by (get_or text i 0) → with_front front (unescape_behind true (drop i text)) ≡ now
    → with_front (front ++ b ∷ []) (unescape_behind false (drop (i + 1) text)) ≡ now
step_letter text front b i now lt e h =
    sym (regroup front b (unescape_behind false (drop (i + 1) text))) ∙ ap (λ o. with_front front (onto o (unescape_behind false (drop (i + 1) text)))) e
    ∙ ap (λ s. with_front front (unescape_behind true s)) (at_index text i lt) ∙ h

pub step_backslash : (text front : List ℕ) (i : ℕ) (now : Option (List ℕ)) → i < length text → get_or text i 0 ≡ 92 → with_front front (unescape_behind false (drop i text)) ≡ now
    → with_front front (unescape_behind true (drop (i + 1) text)) ≡ now
step_backslash text front i now lt e h =
    ap (λ b. with_front front (unescape_behind false (b ∷ drop (i + 1) text))) (sym e) ∙ ap (λ s. with_front front (unescape_behind false s)) (at_index text i lt) ∙ h

not_eq : (a b : ℕ) → a ≢ b → eqb a b ≡ false
not_eq a b h = elim (eqb_tells a b) [ inl w ↦ absurd (h w.1) | inr w ↦ w.0 ]

pub step_plain : (text front : List ℕ) (i : ℕ) (now : Option (List ℕ)) → i < length text → get_or text i 0 ≢ 92 → is_break (get_or text i 0) ≡ false
    → with_front front (unescape_behind false (drop i text)) ≡ now → with_front (front ++ get_or text i 0 ∷ []) (unescape_behind false (drop (i + 1) text)) ≡ now
step_plain text front i now lt a b h =
    let x = get_or text i 0 in
    let one : with_front front (unescape_behind false (x ∷ drop (i + 1) text)) ≡ with_front front (onto (Some x) (unescape_behind false (drop (i + 1) text))) = rw (not_eq x 92 a, b) refl in
    sym (regroup front x (unescape_behind false (drop (i + 1) text))) ∙ sym one ∙ ap (λ s. with_front front (unescape_behind false s)) (at_index text i lt) ∙ h

-- ---- bytes that aren't UTF-8 are no name and no ASCII field

no_and : (a b : Bool) → (b ≡ true → ⊥) → (a && b) ≡ false
no_and a true h = absurd (h refl)
no_and true false h = refl
no_and false false h = refl

pub no_name : (text bs : List ℕ) → unescape text ≡ Some bs → ¬ (IsUtf8 bs) → None ≡ name_at text
unfolding name_at name_of
no_name text bs e h =
    let c : is_name bs ≡ false = no_and _ (is_utf8 bs) (λ t. h (IsUtf8-from_is_utf8 bs t)) in
    rw (e, c) refl

printable_is_ascii : (bs : List ℕ) → list_all is_printable bs ≡ true → IsAscii bs
printable_is_ascii [] h i = search rules
printable_is_ascii (b ∷ bs) h zero =
    let p = both_hold (is_printable b) (list_all is_printable bs) h in
    let q = both_hold (leb 32 b) (leb b 126) p.0 in
    grind (arith, nat_tests, q.1)
printable_is_ascii (b ∷ bs) h (suc i) = printable_is_ascii bs (both_hold (is_printable b) (list_all is_printable bs) h).1 i

pub no_ascii : (text bs : List ℕ) → unescape text ≡ Some bs → ¬ (IsUtf8 bs) → None ≡ ascii_at text
unfolding ascii_at ascii_of
no_ascii text bs e h =
    let c : is_ascii_field bs ≡ false = no_and (has_length 1 200 bs) (list_all is_printable bs) (λ t. h (IsUtf8-from_ascii bs (printable_is_ascii bs t))) in
    rw (e, c) refl

-- ---- more bytes than a name or an ASCII field has

-- a list that is too long already stays so
pub too_many : {A : Type 0} → (most : ℕ) (front : List A) (read all : Option (List A)) → most < length front → (read >>= λ others. Some (front ++ others)) ≡ all → at_most most all ≡ None
too_many most front None all long e = ap (at_most most) (sym e)
too_many most front (Some others) all long e =
    let n = length-append front others in
    let t : leb (length (front ++ others)) most ≡ false = lt-leb (length (front ++ others)) most (omega (arith, long, n)) in
    ap (at_most most) (sym e) ∙ ap (λ b. cond b (Some (front ++ others)) None) t

pub few_enough : {A : Type 0} → (most : ℕ) (items : List A) → length items ≤ most → at_most most (Some items) ≡ Some items
few_enough most items few = let t : leb (length items) most ≡ true = le-leb (length items) most few in ap (λ b. cond b (Some items) None) t

pub one_too_many : {A : Type 0} → (most : ℕ) (front : List A) (a : A) → true ≡ eqb (length front) most → most < length (front ++ a ∷ [])
one_too_many most front a full = let n = length-append front (a ∷ []) in let e = eqb-true (length front) most (sym full) in omega (arith, n, e)

-- what keeps a bound is short enough
short : (least most greatest : ℕ) (bs : List ℕ) → most ≤ greatest → has_length least most bs ≡ true → length bs ≤ greatest
short least most greatest bs le h =
    let b = both_hold (leb least (length bs)) (leb (length bs) most) h in
    omega (arith, le, leb-true (length bs) most b.1)

no_long : (most : ℕ) (bs : List ℕ) (test : Bool) → (test ≡ true → length bs ≤ most) → at_most most (Some bs) ≡ None → test ≡ false
no_long most bs true few e = absurd (let t = few_enough most bs (few refl) in let n : Some bs ≡ None = sym t ∙ e in cc)
no_long most bs false few e = refl

pub no_long_name : (text : List ℕ) → at_most 200 (unescape text) ≡ None → name_at text ≡ None
unfolding name_at name_of
no_long_name text e = go (unescape text) e where
  go : (read : Option (List ℕ)) → at_most 200 read ≡ None → (read >>= λ bs. cond (is_name bs) (Some bs) None) ≡ None
  go None e = refl
  go (Some bs) e =
      let f : is_name bs ≡ false = no_long 200 bs (is_name bs) (λ t. short 1 120 200 bs (omega arith) (both_hold (has_length 1 120 bs) (list_all is_name_byte bs) (both_hold (has_length 1 120 bs && list_all is_name_byte bs) (is_utf8 bs) t).0).0) e in
      ap (λ b. cond b (Some bs) None) f

pub no_long_ascii : (text : List ℕ) → at_most 200 (unescape text) ≡ None → ascii_at text ≡ None
unfolding ascii_at ascii_of
no_long_ascii text e = go (unescape text) e where
  go : (read : Option (List ℕ)) → at_most 200 read ≡ None → (read >>= λ bs. cond (is_ascii_field bs) (Some bs) None) ≡ None
  go None e = refl
  go (Some bs) e =
      let f : is_ascii_field bs ≡ false = no_long 200 bs (is_ascii_field bs) (λ t. short 1 200 200 bs (omega arith) (both_hold (has_length 1 200 bs) (list_all is_printable bs) t).0) e in
      ap (λ b. cond b (Some bs) None) f

pub name_length : (bs : List ℕ) → is_name bs ≡ true → length bs ≤ 120
name_length bs t = short 1 120 120 bs (omega arith) (both_hold (has_length 1 120 bs) (list_all is_name_byte bs) (both_hold (has_length 1 120 bs && list_all is_name_byte bs) (is_utf8 bs) t).0).0

pub ascii_length : (bs : List ℕ) → is_ascii_field bs ≡ true → length bs ≤ 200
ascii_length bs t = short 1 200 200 bs (omega arith) (both_hold (has_length 1 200 bs) (list_all is_printable bs) t).0

-- what the bytes are read as

pub name_read : (text bs : List ℕ) (read : Option (List ℕ)) → unescape text ≡ Some bs → name_of bs ≡ read → name_at text ≡ read
unfolding name_at
name_read text bs read e is = ap (λ r. r >>= name_of) e ∙ is

pub ascii_read : (text bs : List ℕ) (read : Option (List ℕ)) → unescape text ≡ Some bs → ascii_of bs ≡ read → ascii_at text ≡ read
unfolding ascii_at
ascii_read text bs read e is = ap (λ r. r >>= ascii_of) e ∙ is
