-- Escapes: what is read is what was written, and the other way round.
use Rattle.std.proofs.Common.{◌≡◌, ◌≢◌, ℕ, List, [], ◌∷◌, ◌++◌, Bool, true, false, eqb, Option, Some, None, refl, sym, ap, ◌∙◌, subst, inl, inr, ◌⊎◌}
use Rattle.std.proofs.lemmas.Option.{option_and_then_some, cond_some, same_Some}
use Rattle.std.proofs.lemmas.Bool.Decides.{eqb_tells}
use Rattle.bike_fields.specs.Bytes.{is_name, is_ascii_field, name_of, ascii_of}
use Rattle.bike_texts.specs.Fields.{escape, escapes_of}
use Rattle.bike_texts.specs.Reading.{◌>>=◌}
use Rattle.bike_texts.specs.Escapes.{meant_by, is_break, onto, unescape_behind, unescape, name_at, ascii_at}

-- which way a test went
abbrev Tells : ℕ → ℕ → Type 0
Tells c d = ((eqb c d ≡ true) × (c ≡ d)) ⊎ ((eqb c d ≡ false) × (c ≢ d))

escaped_first : (b : ℕ) (bs : List ℕ) → escapes_of (b ∷ bs) ≡ escape b ++ escapes_of bs
unfolding escapes_of
escaped_first b bs = refl

escaped_none : escapes_of [] ≡ []
unfolding escapes_of
escaped_none = refl

letter_escape : (c b : ℕ) → meant_by c ≡ Some b → escape b ≡ 92 ∷ c ∷ []
letter_escape c b h = go (eqb_tells c 92) (eqb_tells c 116) (eqb_tells c 110) (eqb_tells c 114) where
  at : (v k : ℕ) → c ≡ k → meant_by k ≡ Some v → escape v ≡ 92 ∷ k ∷ [] → escape b ≡ 92 ∷ c ∷ []
  at v k e f g =
      let s : v ≡ b = same_Some v b (sym f ∙ ap meant_by (sym e) ∙ h) in
      subst (λ (x : ℕ). escape x ≡ 92 ∷ c ∷ []) s (g ∙ ap (λ x. 92 ∷ x ∷ []) (sym e))

  go : Tells c 92 → Tells c 116 → Tells c 110 → Tells c 114 → escape b ≡ 92 ∷ c ∷ []
  go (inl w) d e f = at 92 92 w.1 refl refl
  go (inr v) (inl w) e f = at 9 116 w.1 refl refl
  go (inr v) (inr x) (inl w) f = at 10 110 w.1 refl refl
  go (inr v) (inr x) (inr y) (inl w) = at 13 114 w.1 refl refl
  go (inr v) (inr x) (inr y) (inr z) = let n : meant_by c ≡ None = rw (v.0, x.0, y.0, z.0) refl in absurd cc

plain_escape : (c : ℕ) → eqb c 92 ≡ false → is_break c ≡ false → escape c ≡ c ∷ []
plain_escape c a b = go (eqb_tells c 9) (eqb_tells c 10) (eqb_tells c 13) where
  none : (k : ℕ) → c ≡ k → is_break k ≡ true → escape c ≡ c ∷ []
  none k e t = let f : is_break c ≡ true = ap is_break e ∙ t in absurd cc

  go : Tells c 9 → Tells c 10 → Tells c 13 → escape c ≡ c ∷ []
  go (inl w) d e = none 9 w.1 refl
  go (inr x) (inl w) e = none 10 w.1 refl
  go (inr x) (inr y) (inl w) = none 13 w.1 refl
  go (inr x) (inr y) (inr z) = rw (a, x.0, y.0, z.0) refl

-- the backslash in front of the rest, where it was read
abbrev backslash : Bool → List ℕ → List ℕ
backslash true bs = 92 ∷ bs
backslash false bs = bs

record Onto (first : Option ℕ) (others : Option (List ℕ)) (a : List ℕ) : Type 0 where
  byte : ℕ
  bytes : List ℕ
  first_is : first ≡ Some byte
  others_are : others ≡ Some bytes
  whole : byte ∷ bytes ≡ a

onto_parts : (first : Option ℕ) (others : Option (List ℕ)) (a : List ℕ) → onto first others ≡ Some a → Onto first others a
onto_parts None others a h = absurd cc
onto_parts (Some b) None a h = absurd cc
onto_parts (Some b) (Some bs) a h = record { byte = b; bytes = bs; first_is = refl; others_are = refl; whole = same_Some (b ∷ bs) a h }

unescape_sound : (behind : Bool) (text a : List ℕ) → unescape_behind behind text ≡ Some a → backslash behind text ≡ escapes_of a
unescape_sound false [] a h = sym escaped_none ∙ ap escapes_of (same_Some [] a h)
unescape_sound true [] a h = absurd cc
unescape_sound true (c ∷ bs) a h =
    let o = onto_parts (meant_by c) (unescape_behind false bs) a h in
    let r = unescape_sound false bs o.bytes o.others_are in
    let u = letter_escape c o.byte o.first_is in
    subst (λ (x : List ℕ). 92 ∷ c ∷ bs ≡ escapes_of x) o.whole (ap (λ (x : List ℕ). 92 ∷ c ∷ x) r ∙ ap (λ (x : List ℕ). x ++ escapes_of o.bytes) (sym u) ∙ sym (escaped_first o.byte o.bytes))
unescape_sound false (c ∷ bs) a h = go (λ e x k. unescape_sound e bs x k) (eqb_tells c 92) (is_break c) refl where
  go : ((e : Bool) (x : List ℕ) → unescape_behind e bs ≡ Some x → backslash e bs ≡ escapes_of x) → Tells c 92 → (b : Bool) → is_break c ≡ b → c ∷ bs ≡ escapes_of a
  go again (inl w) b i =
      let n : unescape_behind true bs ≡ Some a = sym (rw w.0 refl) ∙ h in
      ap (λ (x : ℕ). x ∷ bs) w.1 ∙ again true a n
  go again (inr w) true i = let n : unescape_behind false (c ∷ bs) ≡ None = rw (w.0, i) refl in absurd cc
  go again (inr w) false i =
      let n : onto (Some c) (unescape_behind false bs) ≡ Some a = sym (rw (w.0, i) refl) ∙ h in
      let o = onto_parts (Some c) (unescape_behind false bs) a n in
      let r = again false o.bytes o.others_are in
      let same : c ≡ o.byte = same_Some c o.byte o.first_is in
      subst (λ (x : List ℕ). c ∷ bs ≡ escapes_of x) (ap (λ (x : ℕ). x ∷ o.bytes) same ∙ o.whole)
      (ap (λ (x : List ℕ). c ∷ x) r ∙ ap (λ (x : List ℕ). x ++ escapes_of o.bytes) (sym (plain_escape c w.0 i)) ∙ sym (escaped_first c o.bytes))

escape_undone : (b : ℕ) (rest : List ℕ) → unescape_behind false (escape b ++ rest) ≡ onto (Some b) (unescape_behind false rest)
escape_undone b rest = go (eqb_tells b 92) (eqb_tells b 9) (eqb_tells b 10) (eqb_tells b 13) where
  at : (k : ℕ) → b ≡ k → unescape_behind false (escape k ++ rest) ≡ onto (Some k) (unescape_behind false rest) → unescape_behind false (escape b ++ rest) ≡ onto (Some b) (unescape_behind false rest)
  at k e h = subst (λ (x : ℕ). unescape_behind false (escape x ++ rest) ≡ onto (Some x) (unescape_behind false rest)) (sym e) h

  go : Tells b 92 → Tells b 9 → Tells b 10 → Tells b 13 → unescape_behind false (escape b ++ rest) ≡ onto (Some b) (unescape_behind false rest)
  go (inl w) c d e = at 92 w.1 refl
  go (inr v) (inl w) d e = at 9 w.1 refl
  go (inr v) (inr x) (inl w) e = at 10 w.1 refl
  go (inr v) (inr x) (inr y) (inl w) = at 13 w.1 refl
  go (inr v) (inr x) (inr y) (inr z) = rw (v.0, x.0, y.0, z.0) (rw (v.0, x.0, y.0, z.0) refl)

unescape_full : (a : List ℕ) → unescape (escapes_of a) ≡ Some a
unescape_full [] = ap unescape escaped_none
unescape_full (b ∷ bs) = ap unescape (escaped_first b bs) ∙ escape_undone b (escapes_of bs) ∙ rw (unescape_full bs) refl

-- ---- names and ASCII fields

pub name_sound : (text a : List ℕ) → name_at text ≡ Some a → (text ≡ escapes_of a) × (is_name a ≡ true)
unfolding name_at name_of
name_sound text a e =
    option_and_then_some name_of (unescape text) a e (λ bs u s.
    let c = cond_some (is_name bs) bs a s in
    subst (λ (x : List ℕ). (text ≡ escapes_of x) × (is_name x ≡ true)) c.1 (unescape_sound false text bs u, c.0))

pub name_full : (a : List ℕ) → is_name a ≡ true → name_at (escapes_of a) ≡ Some a
unfolding name_at name_of
name_full a g = ap (λ o. o >>= name_of) (unescape_full a) ∙ rw g refl

pub ascii_sound : (text a : List ℕ) → ascii_at text ≡ Some a → (text ≡ escapes_of a) × (is_ascii_field a ≡ true)
unfolding ascii_at ascii_of
ascii_sound text a e =
    option_and_then_some ascii_of (unescape text) a e (λ bs u s.
    let c = cond_some (is_ascii_field bs) bs a s in
    subst (λ (x : List ℕ). (text ≡ escapes_of x) × (is_ascii_field x ≡ true)) c.1 (unescape_sound false text bs u, c.0))

pub ascii_full : (a : List ℕ) → is_ascii_field a ≡ true → ascii_at (escapes_of a) ≡ Some a
unfolding ascii_at ascii_of
ascii_full a g = ap (λ o. o >>= ascii_of) (unescape_full a) ∙ rw g refl
