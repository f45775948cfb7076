-- Sets of identifiers after one more, and as they are held in memory.
use Rattle.std.proofs.Common.{◌≡◌, ℕ, List, [], ◌∷◌, map, Bool, true, false, cond, ◌||◌, refl, sym, ap, ◌∙◌, String, string_bytes}
use Rattle.std.specs.List.{list_any}
use Rattle.std.specs.Ordering.{nat_cmp, eq_by_cmp}
use Rattle.std.specs.Cmp.Lexicographic.{slice_cmp, nat_list_cmp_total}
use Rattle.std.specs.FinSet as set
use Rattle.std.specs.HashSet as bag
use Rattle.std.specs.HashSet.{HashSet}
use Rattle.std.specs.Str.{bytes_eq}
use Rattle.std.specs.String.{string_eq}
use Rattle.std.proofs.lemmas.Map.Text.{is_eq-slice_cmp, hash_set_updates_text}
use Rattle.std.proofs.lemmas.Slice.Eq.{bytes_eq-Decides}

-- the set of these identifiers
abbrev pub Ids : Type 0
Ids = set.FinSet (slice_cmp nat_cmp)

abbrev pub ids_of : {Y : Type 0} → List (String Y) → Ids
ids_of keys = set.from_list (map string_bytes keys)

-- ---- after one more

turned : (a b : List ℕ) → bytes_eq a b ≡ bytes_eq b a
turned a b = go (bytes_eq a b) (bytes_eq b a) refl refl where
  go : (p q : Bool) → bytes_eq a b ≡ p → bytes_eq b a ≡ q → p ≡ q
  go true true e f = refl
  go false false e f = refl
  go true false e f = sym ((bytes_eq-Decides b a).1 (sym ((bytes_eq-Decides a b).0 e))) ∙ f
  go false true e f = sym e ∙ (bytes_eq-Decides a b).1 (sym ((bytes_eq-Decides b a).0 f))

pub ident_inserted : (ids : Ids) (id other : List ℕ) → set.contains (set.insert ids id) other ≡ (bytes_eq other id || set.contains ids other)
ident_inserted ids id other =
    set.contains-insert nat_list_cmp_total ids id other ∙ ap (λ (b : Bool). b || set.contains ids other) (is_eq-slice_cmp other id)

pub ident-same : (ids : Ids) (id : List ℕ) → set.contains (set.insert ids id) id ≡ true
ident-same ids id = ident_inserted ids id id ∙ ap (λ (b : Bool). b || set.contains ids id) ((bytes_eq-Decides id id).1 refl)

pub ident-other : (ids : Ids) (id other : List ℕ) → (id ≡ other → ⊥) → set.contains (set.insert ids id) other ≡ set.contains ids other
ident-other ids id other apart = ident_inserted ids id other ∙ ap (λ (b : Bool). b || set.contains ids other) (go (bytes_eq other id) refl) where
  go : (b : Bool) → bytes_eq other id ≡ b → bytes_eq other id ≡ false
  go true is = absurd (apart (sym ((bytes_eq-Decides other id).0 is)))
  go false is = is

-- ---- in memory

pub text_found : {Y S : Type 0} (s : HashSet (String Y) S) (id : List ℕ) → bag.contains_text s id ≡ set.contains (ids_of s.keys) id
text_found {Y = Y} s id = sym (set.contains-from_list nat_list_cmp_total (map string_bytes s.keys) id ∙ go s.keys) where
  go : (keys : List (String Y)) → list_any (eq_by_cmp (slice_cmp nat_cmp) id) (map string_bytes keys) ≡ list_any (λ k. bytes_eq id (string_bytes k)) keys
  go [] = refl
  go (k ∷ keys) = λ i. is_eq-slice_cmp id (string_bytes k) i || go keys i

pub text_inserted : {Y S : Type 0} (s n : HashSet (String Y) S) (id : List ℕ)
    → bag.UpdatesBy string_eq (λ k. bytes_eq id (string_bytes k)) s n true → ids_of n.keys ≡ set.insert (ids_of s.keys) id
text_inserted s n id updates =
    set.same_set nat_list_cmp_total (set.slice_cmp-IsAntisymmetric set.nat_cmp-IsAntisymmetric) (ids_of n.keys) (set.insert (ids_of s.keys) id)
    (λ q.
    sym (text_found n q) ∙ hash_set_updates_text id s n true updates q ∙ either (bytes_eq id q) (bag.contains_text s q)
    ∙ (λ i. turned id q i || text_found s q i) ∙ sym (ident_inserted (ids_of s.keys) id q))
  where
    either : (b x : Bool) → cond b true x ≡ (b || x)
    either true x = refl
    either false x = refl
