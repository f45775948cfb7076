-- A caller is read exactly from its own text.
use Rattle.std.proofs.Common.{◌≡◌, ℕ, suc, ◌+◌, ◌<◌, ◌≤◌, List, [], ◌∷◌, ◌++◌, length, take, drop, Bool, true, false, cond, ltb, not, eqb, Option, Some, None, refl, sym, ap, ◌∙◌, subst, add-one}
use Rattle.std.proofs.Common.{arith, lit<, decimal}
use Rattle.std.specs.Prelude.{codes}
use Rattle.std.specs.List.{list_all, position_or_len, before_first, after_first, slice_split, join_with_byte, onto_first}
use Rattle.std.specs.Str.{bytes_eq}
use Rattle.std.proofs.lemmas.Bool.{le-leb, ltb-true}
use Rattle.std.proofs.lemmas.List.{take_at, length-append}
use Rattle.std.proofs.lemmas.List.Splits.{slice_split_first, join_with_byte-slice_split}
use Rattle.std.proofs.lemmas.Option.{option_and_then_some, cond_some, same_Some}
use Rattle.std.proofs.lemmas.Slice.Eq.{bytes_eq-Decides}
use Rattle.bike_fixed.specs.Whole.{number_of}
use Rattle.bike_fixed.proofs.Numbers.{number_sound, number_full}
use Rattle.bike_fields.specs.declared.numbers.TheConstants.{GREATEST_NUMBER}
use Rattle.bike_fields.specs.Bytes.{is_ident, ident_of}
use Rattle.bike_fields.specs.Caller.{IsCaller, caller_text, caller_of, caller_named, is_colon, ◌>>=◌}
use Rattle.bike_fields.specs.declared.caller.Caller.{Caller}
use Rattle.bike_fields.specs.declared.caller.Caller.TheVariants.{Office, Staff, Rider, Dock, Crew, Import}
use Rattle.bike_fields.proofs.Lengths.{both_hold}

-- ---- identifiers

pub ident_sound : (text i : List ℕ) → ident_of text ≡ Some i → (text ≡ i) × (is_ident i ≡ true)
unfolding ident_of
ident_sound text i e = let s = cond_some (is_ident text) text i e in (s.1, subst (λ (t : List ℕ). is_ident t ≡ true) s.1 s.0)

pub ident_full : (i : List ℕ) → is_ident i ≡ true → ident_of i ≡ Some i
unfolding ident_of
ident_full i h = rw h refl

-- ---- the cut at the colon

join_more : (x : List ℕ) (parts : List (List ℕ)) → 1 ≤ length parts → join_with_byte 58 (x ∷ parts) ≡ x ++ 58 ∷ join_with_byte 58 parts
join_more x [] h = absurd (omega arith)
join_more x (y ∷ ys) h = refl

some_onto : (x : ℕ) (parts : List (List ℕ)) → 1 ≤ length (onto_first x parts)
some_onto x [] = omega arith
some_onto x (p ∷ ps) = omega arith

some_parts : (text : List ℕ) → 1 ≤ length (slice_split is_colon text)
some_parts [] = omega arith
some_parts (x ∷ xs) =
    elim (is_colon x) as (λ b. 1 ≤ length (cond b ([] ∷ slice_split is_colon xs) (onto_first x (slice_split is_colon xs)))) [ true ↦ omega arith | false ↦ some_onto x (slice_split is_colon xs) ]

cut_at_colon : (text : List ℕ) → position_or_len is_colon text < length text → text ≡ before_first is_colon text ++ 58 ∷ after_first is_colon text
cut_at_colon text lt =
    let after = after_first is_colon text in
    sym (join_with_byte-slice_split 58 text) ∙ ap (join_with_byte 58) (slice_split_first is_colon text 0 lt)
    ∙ join_more (before_first is_colon text) (slice_split is_colon after) (some_parts after)
    ∙ ap (λ (t : List ℕ). before_first is_colon text ++ 58 ∷ t) (join_with_byte-slice_split 58 after)

colon_after : (kind name : List ℕ) → list_all (λ b. not (is_colon b)) kind ≡ true → position_or_len is_colon (kind ++ 58 ∷ name) ≡ length kind
colon_after [] name h = refl
colon_after (x ∷ xs) name h =
    let b = both_hold (not (is_colon x)) (list_all (λ b. not (is_colon b)) xs) h in
    let f : eqb x 58 ≡ false = flipped (eqb x 58) b.0 in
    let r = colon_after xs name b.1 in
    rw (f, r) (omega arith)
  where
    flipped : (b : Bool) → not b ≡ true → b ≡ false
    flipped true e = sym e
    flipped false e = refl

drop_past : (xs ys : List ℕ) → drop (length xs + 1) (xs ++ 58 ∷ ys) ≡ ys
drop_past [] ys = refl
drop_past (x ∷ xs) ys = ap (λ (k : ℕ). drop k (x ∷ (xs ++ 58 ∷ ys))) (add-one (length (x ∷ xs))) ∙ ap (λ (k : ℕ). drop k (xs ++ 58 ∷ ys)) (sym (add-one (length xs))) ∙ drop_past xs ys

caller_at_colon : (kind name : List ℕ) → list_all (λ b. not (is_colon b)) kind ≡ true → caller_of (kind ++ 58 ∷ name) ≡ caller_named kind name
unfolding caller_of
caller_at_colon kind name h =
    let text = kind ++ 58 ∷ name in
    let q = colon_after kind name h in
    let len : length text ≡ length kind + suc (length name) = length-append kind (58 ∷ name) in
    let i : ltb (position_or_len is_colon text) (length text) ≡ true = le-leb _ _ (omega (arith, q, len)) in
    let b : before_first is_colon text ≡ kind = ap (λ (k : ℕ). take k text) q ∙ take_at kind (58 ∷ name) (length kind) refl in
    let a : after_first is_colon text ≡ name = ap (λ (k : ℕ). drop (k + 1) text) q ∙ drop_past kind name in
    ap (λ t. cond t (caller_named (before_first is_colon text) (after_first is_colon text)) (cond (bytes_eq text (codes "office")) (Some Office) None)) i
    ∙ ap (λ (x : List ℕ). caller_named x (after_first is_colon text)) b ∙ ap (λ (x : List ℕ). caller_named kind x) a

-- ---- both ways

read_number : (n : ℕ) → 1 ≤ n → n ≤ GREATEST_NUMBER → number_of 1 GREATEST_NUMBER (decimal n) ≡ Some n
read_number n low high = number_full 1 GREATEST_NUMBER (decimal n) n (lit< tt) (record { low_le = low; le_high = high; spelled = refl })

pub caller_full : (c : Caller) → IsCaller c → caller_of (caller_text c) ≡ Some c
unfolding caller_named caller_of
caller_full Office h = refl
caller_full (Staff i) h = caller_at_colon (codes "office") i refl ∙ ap (λ o. o >>= λ i. Some (Staff i)) (ident_full i h)
caller_full (Rider n) h = caller_at_colon (codes "rider") (decimal n) refl ∙ ap (λ o. o >>= λ n. Some (Rider n)) (read_number n h.0 h.1)
caller_full (Dock i) h = caller_at_colon (codes "dock") i refl ∙ ap (λ o. o >>= λ i. Some (Dock i)) (ident_full i h)
caller_full (Crew n) h = caller_at_colon (codes "crew") (decimal n) refl ∙ ap (λ o. o >>= λ n. Some (Crew n)) (read_number n h.0 h.1)
caller_full (Import i) h = caller_at_colon (codes "import") i refl ∙ ap (λ o. o >>= λ i. Some (Import i)) (ident_full i h)

abbrev IsOf : List ℕ → Caller → Type 0
IsOf text c = IsCaller c × (text ≡ caller_text c)

-- a test that passes and one that fails
pub pick : {A : Type 0} (b : Bool) (x y : Option A) (a : A) (P : Type 0) → cond b x y ≡ Some a → (b ≡ true → x ≡ Some a → P) → (y ≡ Some a → P) → P
pick true x y a P e f g = f refl e
pick false x y a P e f g = g e

named_number : (kind name : List ℕ) (word : List ℕ) (make : ℕ → Caller) (c : Caller) → ((n : ℕ) → caller_text (make n) ≡ word ++ 58 ∷ decimal n)
    → ((n : ℕ) → 1 ≤ n → n ≤ GREATEST_NUMBER → IsCaller (make n))
    → bytes_eq kind word ≡ true → (number_of 1 GREATEST_NUMBER name >>= λ n. Some (make n)) ≡ Some c → IsOf (kind ++ 58 ∷ name) c
named_number kind name word make c spelled good is e =
    option_and_then_some (λ n. Some (make n)) (number_of 1 GREATEST_NUMBER name) c e (λ n r s.
    let h = number_sound 1 GREATEST_NUMBER name n r in
    let k : kind ≡ word = (bytes_eq-Decides kind word).0 is in
    subst (λ (c : Caller). IsOf (kind ++ 58 ∷ name) c) (same_Some _ c s) (
      good n h.low_le h.le_high,
      ap (λ (k : List ℕ). k ++ 58 ∷ name) k ∙ ap (λ (t : List ℕ). word ++ 58 ∷ t) h.spelled
          ∙ sym (spelled n),
    ))

named_ident : (kind name : List ℕ) (word : List ℕ) (make : List ℕ → Caller) (c : Caller) → ((i : List ℕ) → caller_text (make i) ≡ word ++ 58 ∷ i)
    → ((i : List ℕ) → is_ident i ≡ true → IsCaller (make i))
    → bytes_eq kind word ≡ true → (ident_of name >>= λ i. Some (make i)) ≡ Some c → IsOf (kind ++ 58 ∷ name) c
named_ident kind name word make c spelled good is e =
    option_and_then_some (λ i. Some (make i)) (ident_of name) c e (λ i r s.
    let h = ident_sound name i r in
    let k : kind ≡ word = (bytes_eq-Decides kind word).0 is in
    subst (λ (c : Caller). IsOf (kind ++ 58 ∷ name) c) (same_Some _ c s) (good i h.1, ap (λ (k : List ℕ). k ++ 58 ∷ name) k ∙ ap (λ (t : List ℕ). word ++ 58 ∷ t) h.0 ∙ sym (spelled i)))

named_sound : (kind name : List ℕ) (c : Caller) → caller_named kind name ≡ Some c → IsOf (kind ++ 58 ∷ name) c
unfolding caller_named
named_sound kind name c e =
    pick (bytes_eq kind (codes "office")) _ _ c _ e (λ is e. named_ident kind name (codes "office") Staff c (λ i. refl) (λ i h. h) is e) (λ e.
    pick (bytes_eq kind (codes "rider")) _ _ c _ e (λ is e. named_number kind name (codes "rider") Rider c (λ n. refl) (λ n low high. (low, high)) is e) (λ e.
    pick (bytes_eq kind (codes "dock")) _ _ c _ e (λ is e. named_ident kind name (codes "dock") Dock c (λ i. refl) (λ i h. h) is e) (λ e.
    pick (bytes_eq kind (codes "crew")) _ _ c _ e (λ is e. named_number kind name (codes "crew") Crew c (λ n. refl) (λ n low high. (low, high)) is e) (λ e.
    pick (bytes_eq kind (codes "import")) _ _ c _ e (λ is e. named_ident kind name (codes "import") Import c (λ i. refl) (λ i h. h) is e) (λ e. absurd cc)))))

pub caller_sound : (text : List ℕ) (c : Caller) → caller_of text ≡ Some c → IsCaller c × (text ≡ caller_text c)
unfolding caller_of
caller_sound text c e = go (ltb (position_or_len is_colon text) (length text)) refl where
  go : (b : Bool) → ltb (position_or_len is_colon text) (length text) ≡ b → IsOf text c
  go true i =
      let n : caller_named (before_first is_colon text) (after_first is_colon text) ≡ Some c = sym (ap (λ b. cond b (caller_named (before_first is_colon text) (after_first is_colon text)) (cond (bytes_eq text (codes "office")) (Some Office) None)) i) ∙ e in
      subst (λ (t : List ℕ). IsOf t c) (sym (cut_at_colon text (ltb-true _ _ i))) (named_sound (before_first is_colon text) (after_first is_colon text) c n)
  go false i =
      let n : cond (bytes_eq text (codes "office")) (Some Office) None ≡ Some c = sym (ap (λ b. cond b (caller_named (before_first is_colon text) (after_first is_colon text)) (cond (bytes_eq text (codes "office")) (Some Office) None)) i) ∙ e in
      let o = cond_some (bytes_eq text (codes "office")) Office c n in
      subst (λ (c : Caller). IsOf text c) o.1 (tt, (bytes_eq-Decides text (codes "office")).0 o.0)
