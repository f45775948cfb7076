-- Types with their counts in byte order, none of 0 and 0: such lists are the same where all counts are.
use Rattle.std.proofs.Common.{◌≡◌, ℕ, List, [], ◌∷◌, Bool, true, false, cond, refl, sym, ap, ◌∙◌, subst}
use Rattle.std.specs.Prelude.{◌==◌}
use Rattle.std.specs.Ordering.{ordering_reverse}
use Rattle.std.specs.declared.cmp.Ordering.{Ordering}
use Rattle.std.specs.declared.cmp.Ordering.TheVariants.{Less, Equal, Greater}
use Rattle.std.specs.Str.{bytes_eq}
use Rattle.std.specs.List.{AllByRecursion}
use Rattle.std.proofs.lemmas.Bool.{eqb-true, and_parts}
use Rattle.std.proofs.lemmas.Cmp.{tied_itself}
use Rattle.std.proofs.lemmas.Slice.Eq.{bytes_eq-Decides}
use Rattle.bike_operator.specs.Operator.{text_cmp}
use Rattle.bike_laws.proofs.SingleSteps.MapLemmas.{text_order}
use Rattle.bike_book.specs.declared.by_type.TypeCounts.{TypeCounts}
use Rattle.bike_book.specs.declared.by_type.CountedType.{CountedType}
use Rattle.bike_book.specs.ByType.{no_counts, are_none, counts_of, with_first, placed, with_counts}

-- the type comes before each of these
abbrev pub IsBefore : List ℕ → List CountedType → Type 0
IsBefore t [] = Unit {0}
IsBefore t (c ∷ cs) = (text_cmp t c.type_id ≡ Less) × IsBefore t cs

abbrev pub AreInOrder : List CountedType → Type 0
AreInOrder [] = Unit {0}
AreInOrder (c ∷ cs) = (are_none c.counts ≡ false) × (IsBefore c.type_id cs × AreInOrder cs)

-- ---- the order of types

same_text : (t u : List ℕ) → bytes_eq t u ≡ true → t ≡ u
same_text t u e = (bytes_eq-Decides t u).0 e

itself : (t : List ℕ) → bytes_eq t t ≡ true
itself t = (bytes_eq-Decides t t).1 refl

turned : (t u : List ℕ) → text_cmp t u ≡ Greater → text_cmp u t ≡ Less
turned t u e = text_order.total.antisymm u t ∙ ap ordering_reverse e

-- a type that comes before another is another
apart : (t u : List ℕ) → text_cmp t u ≡ Less → bytes_eq u t ≡ false
apart t u less = go (bytes_eq u t) refl where
  go : (b : Bool) → bytes_eq u t ≡ b → b ≡ false
  go true same =
      let ties = tied_itself text_order.total t in
      let falls : text_cmp t t ≡ Less = ap (text_cmp t) (sym (same_text u t same)) ∙ less in
      let clash : ◌≡◌ {A = Ordering} Less Equal = sym falls ∙ ties in
      absurd cc
  go false is = refl

before_less : (t u : List ℕ) (cs : List CountedType) → text_cmp t u ≡ Less → IsBefore u cs → IsBefore t cs
before_less t u [] less h = tt
before_less t u (c ∷ cs) less h = (text_order.total.trans t u c.type_id less h.0, before_less t u cs less h.1)

-- ---- counts

none_is : (n : TypeCounts) → are_none n ≡ true → n ≡ no_counts
none_is n e =
    let both = and_parts (n.available == 0) (n.disabled == 0) e in
    let available = eqb-true n.available 0 both.0 in
    let disabled = eqb-true n.disabled 0 both.1 in
    λ i. record { available = available i; disabled = disabled i }

none_before : (t : List ℕ) (cs : List CountedType) → IsBefore t cs → counts_of t cs ≡ no_counts
none_before t [] h = refl
none_before t (c ∷ cs) h = ap (λ (b : Bool). cond b c.counts (counts_of t cs)) (apart t c.type_id h.0) ∙ none_before t cs h.1

-- a type in front of others
module _ (t : List ℕ) (n : TypeCounts) where
  counts_first : (q : List ℕ) (cs : List CountedType) → IsBefore t cs → counts_of q (with_first t n cs) ≡ cond (bytes_eq t q) n (counts_of q cs)
  counts_first q cs before = go (are_none n) refl (bytes_eq t q) refl where
    go : (b : Bool) → are_none n ≡ b → (same : Bool) → bytes_eq t q ≡ same → counts_of q (cond b cs (record { type_id = t; counts = n } ∷ cs)) ≡ cond same n (counts_of q cs)
    go true none true same = ap (λ (x : List ℕ). counts_of x cs) (sym (same_text t q same)) ∙ none_before t cs before ∙ sym (none_is n none)
    go true none false same = refl
    go false some true same = ap (λ (b : Bool). cond b n (counts_of q cs)) same
    go false some false same = ap (λ (b : Bool). cond b n (counts_of q cs)) same

  first_in_order : (cs : List CountedType) → IsBefore t cs → AreInOrder cs → AreInOrder (with_first t n cs)
  first_in_order cs before h = go (are_none n) refl where
    go : (b : Bool) → are_none n ≡ b → AreInOrder (cond b cs (record { type_id = t; counts = n } ∷ cs))
    go true none = h
    go false some = (some, (before, h))

  before_first : (u : List ℕ) (cs : List CountedType) → text_cmp u t ≡ Less → IsBefore u cs → IsBefore u (with_first t n cs)
  before_first u cs less h = go (are_none n) where
    go : (b : Bool) → IsBefore u (cond b cs (record { type_id = t; counts = n } ∷ cs))
    go true = h
    go false = (less, h)

  first_each : (P : List ℕ → Type 0) (cs : List CountedType) → P t → AllByRecursion (λ c. P c.type_id) cs → AllByRecursion (λ c. P c.type_id) (with_first t n cs)
  first_each P cs own h = go (are_none n) where
    go : (b : Bool) → AllByRecursion (λ c. P c.type_id) (cond b cs (record { type_id = t; counts = n } ∷ cs))
    go true = h
    go false = (own, h)

-- ---- the counts of one type set

module _ (t : List ℕ) (n : TypeCounts) where
  pub counts_set : (q : List ℕ) (cs : List CountedType) → AreInOrder cs → counts_of q (with_counts t n cs) ≡ cond (bytes_eq t q) n (counts_of q cs)
  counts_set q [] h = counts_first t n q [] tt
  counts_set q (c ∷ cs) h = go (text_cmp t c.type_id) refl (counts_set q cs h.1.1) where
    go : (o : Ordering) → text_cmp t c.type_id ≡ o → counts_of q (with_counts t n cs) ≡ cond (bytes_eq t q) n (counts_of q cs)
        → counts_of q (placed o t n c cs (with_counts t n cs)) ≡ cond (bytes_eq t q) n (cond (bytes_eq c.type_id q) c.counts (counts_of q cs))
    go Less is later = counts_first t n q (c ∷ cs) (is, before_less t c.type_id cs is h.1.0)
    go Equal is later =
        let same = text_order.same t c.type_id is in
        let before = subst (λ (x : List ℕ). IsBefore x cs) (sym same) h.1.0 in
        counts_first t n q cs before ∙ either (bytes_eq t q) (bytes_eq c.type_id q) (ap (λ (x : List ℕ). bytes_eq x q) same)
      where
        either : (a b : Bool) → a ≡ b → cond a n (counts_of q cs) ≡ cond a n (cond b c.counts (counts_of q cs))
        either true b e = refl
        either false true e = absurd cc
        either false false e = refl
    go Greater is later = either (bytes_eq c.type_id q) refl where
      either : (b : Bool) → bytes_eq c.type_id q ≡ b → cond b c.counts (counts_of q (with_counts t n cs)) ≡ cond (bytes_eq t q) n (cond b c.counts (counts_of q cs))
      either true same =
          let other : bytes_eq t q ≡ false = ap (bytes_eq t) (sym (same_text c.type_id q same)) ∙ apart c.type_id t (turned t c.type_id is) in
          sym (ap (λ (b : Bool). cond b n c.counts) other)
      either false same = later

  before_set : (u : List ℕ) (cs : List CountedType) → text_cmp u t ≡ Less → IsBefore u cs → IsBefore u (with_counts t n cs)
  before_set u [] less h = before_first t n u [] less tt
  before_set u (c ∷ cs) less h = go (text_cmp t c.type_id) (before_set u cs less h.1) where
    go : (o : Ordering) → IsBefore u (with_counts t n cs) → IsBefore u (placed o t n c cs (with_counts t n cs))
    go Less later = before_first t n u (c ∷ cs) less h
    go Equal later = before_first t n u cs less h.1
    go Greater later = (h.0, later)

  pub set_in_order : (cs : List CountedType) → AreInOrder cs → AreInOrder (with_counts t n cs)
  set_in_order [] h = first_in_order t n [] tt tt
  set_in_order (c ∷ cs) h = go (text_cmp t c.type_id) refl (set_in_order cs h.1.1) where
    go : (o : Ordering) → text_cmp t c.type_id ≡ o → AreInOrder (with_counts t n cs) → AreInOrder (placed o t n c cs (with_counts t n cs))
    go Less is later = first_in_order t n (c ∷ cs) (is, before_less t c.type_id cs is h.1.0) h
    go Equal is later =
        let same = text_order.same t c.type_id is in
        first_in_order t n cs (subst (λ (x : List ℕ). IsBefore x cs) (sym same) h.1.0) h.1.1
    go Greater is later = (h.0, (before_set c.type_id cs (turned t c.type_id is) h.1.0, later))

  pub set_each : (P : List ℕ → Type 0) (cs : List CountedType) → P t → AllByRecursion (λ c. P c.type_id) cs → AllByRecursion (λ c. P c.type_id) (with_counts t n cs)
  set_each P [] own h = first_each t n P [] own tt
  set_each P (c ∷ cs) own h = go (text_cmp t c.type_id) (set_each P cs own h.1) where
    go : (o : Ordering) → AllByRecursion (λ x. P x.type_id) (with_counts t n cs) → AllByRecursion (λ x. P x.type_id) (placed o t n c cs (with_counts t n cs))
    go Less later = first_each t n P (c ∷ cs) own h
    go Equal later = first_each t n P cs own h.1
    go Greater later = (h.0, later)

-- ---- lists with the same counts

-- the first type has counts in one list, and none in the other
not_there : {P : Type 0} (c : CountedType) (cs others : List CountedType) → are_none c.counts ≡ false
    → counts_of c.type_id (c ∷ cs) ≡ counts_of c.type_id others → counts_of c.type_id others ≡ no_counts → P
not_there c cs others some same none =
    let own : c.counts ≡ no_counts = sym (ap (λ (b : Bool). cond b c.counts (counts_of c.type_id cs)) (itself c.type_id)) ∙ same ∙ none in
    let clash : are_none c.counts ≡ true = ap are_none own in
    absurd cc

pub same_types : (cs ds : List CountedType) → AreInOrder cs → AreInOrder ds → ((q : List ℕ) → counts_of q cs ≡ counts_of q ds) → cs ≡ ds
same_types [] [] a b same = refl
same_types [] (d ∷ ds) a b same = not_there d ds [] b.0 (sym (same d.type_id)) refl
same_types (c ∷ cs) [] a b same = not_there c cs [] a.0 (same c.type_id) refl
same_types (c ∷ cs) (d ∷ ds) a b same = go (text_cmp c.type_id d.type_id) refl (same_types cs ds a.1.1 b.1.1) where
  go : (o : Ordering) → text_cmp c.type_id d.type_id ≡ o → (((q : List ℕ) → counts_of q cs ≡ counts_of q ds) → cs ≡ ds) → c ∷ cs ≡ d ∷ ds
  go Less is later =
      not_there c cs (d ∷ ds) a.0 (same c.type_id) (none_before c.type_id (d ∷ ds) (is, before_less c.type_id d.type_id ds is b.1.0))
  go Greater is later =
      let less = turned c.type_id d.type_id is in
      not_there d ds (c ∷ cs) b.0 (sym (same d.type_id)) (none_before d.type_id (c ∷ cs) (less, before_less d.type_id c.type_id cs less a.1.0))
  go Equal is later =
      let type_is = text_order.same c.type_id d.type_id is in
      let first : bytes_eq d.type_id c.type_id ≡ true = (bytes_eq-Decides d.type_id c.type_id).1 (sym type_is) in
      let counts_are : c.counts ≡ d.counts =
      sym (ap (λ (b : Bool). cond b c.counts (counts_of c.type_id cs)) (itself c.type_id)) ∙ same c.type_id ∙ ap (λ (b : Bool). cond b d.counts (counts_of c.type_id ds)) first in
      let head : c ≡ d = λ i. record { type_id = type_is i; counts = counts_are i } in
      λ i. head i ∷ later rest i
    where
      rest : (q : List ℕ) → counts_of q cs ≡ counts_of q ds
      rest q = by (bytes_eq c.type_id q) refl where
        by : (t : Bool) → bytes_eq c.type_id q ≡ t → counts_of q cs ≡ counts_of q ds
        by true same_q =
            let own = same_text c.type_id q same_q in
            let type_is = text_order.same c.type_id d.type_id is in
            let left = none_before q cs (subst (λ (x : List ℕ). IsBefore x cs) own a.1.0) in
            let right = none_before q ds (subst (λ (x : List ℕ). IsBefore x ds) (sym type_is ∙ own) b.1.0) in
            left ∙ sym right
        by false other =
            let type_is = text_order.same c.type_id d.type_id is in
            let too : bytes_eq d.type_id q ≡ false = ap (λ (x : List ℕ). bytes_eq x q) (sym type_is) ∙ other in
            sym (ap (λ (t : Bool). cond t c.counts (counts_of q cs)) other) ∙ same q ∙ ap (λ (t : Bool). cond t d.counts (counts_of q ds)) too
