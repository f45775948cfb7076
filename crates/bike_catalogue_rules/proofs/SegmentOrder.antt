-- Segments one after the other: of those found from number 1 on, and of those that stand in a table.
use Rattle.std.proofs.Common.{◌≡◌, inl, inr, ◌⊎◌, ℕ, zero, suc, ◌+◌, ◌<◌, ◌≤◌, List, [], ◌∷◌, ◌++◌, Option, Some, None, refl, sym, ap, ◌∙◌, subst, arith}
use Rattle.std.specs.Ordering.{nat_cmp, ordering_then, ordering_reverse}
use Rattle.std.specs.declared.cmp.Ordering.{Ordering}
use Rattle.std.specs.declared.cmp.Ordering.TheVariants.{Less, Equal, Greater}
use Rattle.std.specs.Cmp.{IsTotalOrder, ranked, nat_cmp_is}
use Rattle.std.proofs.lemmas.Cmp.{tied_itself}
use Rattle.sqlite_value.specs.Order.{Row}
use Rattle.sqlite_value.proofs.OrderLemmas.{value_cmp-Text, then-Equal}
use Rattle.sqlite_rules.specs.Lists.{Has}
use Rattle.bike_sql.specs.View.{by_key}
use Rattle.bike_sql.proofs.OrderLemmas.{Rises, all_has}
use Rattle.bike_fields.specs.Values.{SegmentRow}
use Rattle.bike_operator.specs.Operator.{text_cmp, item_at, item_in}
use Rattle.bike_book.specs.Rows.{segment_row}
use Rattle.bike_book.proofs.Keys.{texts, value_cmp-number_value}
use Rattle.bike_readings.specs.ReadOff.{segment_at, and_after, segments_from, segments_of}

-- ---- numbers

first_found : (rows : List Row) (id : List ℕ) (seq most : ℕ) (g : SegmentRow) → segment_at rows id seq ≡ Some g → item_at 0 (segments_from rows id seq (suc most)) ≡ Some g
unfolding segments_from
first_found rows id seq most g is = ap (λ (o : Option SegmentRow). item_at 0 (and_after o (segments_from rows id (suc seq) most))) is

next_found : (rows : List Row) (id : List ℕ) (seq most i : ℕ) (x g : SegmentRow) → item_at i (segments_from rows id seq most) ≡ Some x → suc i < most → segment_at rows id (seq + suc i) ≡ Some g
    → item_at (suc i) (segments_from rows id seq most) ≡ Some g
unfolding segments_from
next_found rows id seq zero i x g is few there = absurd cc
next_found rows id seq (suc zero) i x g is few there = absurd (omega (arith, few))
next_found rows id seq (suc (suc most)) i x g is few there = go (segment_at rows id seq) refl i is few there (λ j. next_found rows id (suc seq) (suc most) j x g) where
  go : (o : Option SegmentRow) → segment_at rows id seq ≡ o → (i : ℕ) → item_at i (and_after o (segments_from rows id (suc seq) (suc most))) ≡ Some x → suc i < suc (suc most)
      → segment_at rows id (seq + suc i) ≡ Some g
      → ((j : ℕ) → item_at j (segments_from rows id (suc seq) (suc most)) ≡ Some x → suc j < suc most → segment_at rows id (suc seq + suc j) ≡ Some g
      → item_at (suc j) (segments_from rows id (suc seq) (suc most)) ≡ Some g)
      → item_at (suc i) (and_after (segment_at rows id seq) (segments_from rows id (suc seq) (suc most))) ≡ Some g
  go None e i is few there rest = absurd cc
  go (Some y) e zero is few there rest =
      let number : seq + 1 ≡ suc seq = omega arith in
      ap (λ (o : Option SegmentRow). item_at 1 (and_after o (segments_from rows id (suc seq) (suc most)))) e ∙ first_found rows id (suc seq) most g (ap (segment_at rows id) (sym number) ∙ there)
  go (Some y) e (suc j) is few there rest =
      let number : seq + suc (suc j) ≡ suc seq + suc j = omega arith in
      ap (λ (o : Option SegmentRow). item_at (suc (suc j)) (and_after o (segments_from rows id (suc seq) (suc most)))) e
      ∙ rest j is (omega (arith, few)) (ap (segment_at rows id) (sym number) ∙ there)

-- the first segment of a plan, and the one after a segment
pub first_numbered : (rows : List Row) (id : List ℕ) (g : SegmentRow) → segment_at rows id 1 ≡ Some g → item_in 1 (segments_of rows id) ≡ Some g
first_numbered rows id g is = first_found rows id 1 7 g is

pub next_numbered : (rows : List Row) (id : List ℕ) (n : ℕ) (x g : SegmentRow) → item_in n (segments_of rows id) ≡ Some x → suc n ≤ 8 → segment_at rows id (suc n) ≡ Some g
    → item_in (suc n) (segments_of rows id) ≡ Some g
next_numbered rows id zero x g is few there = absurd cc
next_numbered rows id (suc i) x g is few there = let number : 1 + suc i ≡ suc (suc i) = omega arith in next_found rows id 1 8 i x g is (omega (arith, few)) (ap (segment_at rows id) number ∙ there)

-- before an item there is another
pub item_before : {A : Type 0} (i : ℕ) (xs : List A) (x : A) → item_at (suc i) xs ≡ Some x → (y : A) × (item_at i xs ≡ Some y)
item_before i [] x is = absurd cc
item_before zero (y ∷ xs) x is = (y, refl)
item_before (suc i) (y ∷ xs) x is = item_before i xs x is

-- ---- keys

segment_cmp : (t u : List ℕ) (q r : ℕ) (g h : SegmentRow) → by_key 2 (segment_row t q g) (segment_row u r h) ≡ ordering_then (text_cmp t u) (nat_cmp q r)
segment_cmp t u q r g h = rw (value_cmp-Text t u, value_cmp-number_value q r, then-Equal (nat_cmp q r)) refl

pub below_next : (id : List ℕ) (n : ℕ) (g h : SegmentRow) → by_key 2 (segment_row id n g) (segment_row id (suc n) h) ≡ Less
below_next id n g h =
    segment_cmp id id n (suc n) g h ∙ ap (λ (o : Ordering). ordering_then o (nat_cmp n (suc n))) (tied_itself texts.total id) ∙ sym (nat_cmp_is n (suc n) Less (omega arith))

-- no segment stands between one and the next
pub none_between : (id other : List ℕ) (n seq : ℕ) (g h k : SegmentRow) → by_key 2 (segment_row id n g) (segment_row other seq h) ≡ Less
    → by_key 2 (segment_row other seq h) (segment_row id (suc n) k) ≡ Less → ⊥
none_between id other n seq g h k low high = go (text_cmp id other) refl where
  first : ordering_then (text_cmp id other) (nat_cmp n seq) ≡ Less
  first = sym (segment_cmp id other n seq g h) ∙ low

  second : ordering_then (text_cmp other id) (nat_cmp seq (suc n)) ≡ Less
  second = sym (segment_cmp other id seq (suc n) h k) ∙ high

  turned : (o : Ordering) → text_cmp id other ≡ o → text_cmp other id ≡ ordering_reverse o
  turned o e = texts.total.antisymm other id ∙ ap ordering_reverse e

  go : (o : Ordering) → text_cmp id other ≡ o → ⊥
  go Less e = let never : Greater ≡ Less = sym (ap (λ (o : Ordering). ordering_then o (nat_cmp seq (suc n))) (turned Less e)) ∙ second in absurd cc
  go Equal e =
      let low_number : nat_cmp n seq ≡ Less = sym (ap (λ (o : Ordering). ordering_then o (nat_cmp n seq)) e) ∙ first in
      let high_number : nat_cmp seq (suc n) ≡ Less = sym (ap (λ (o : Ordering). ordering_then o (nat_cmp seq (suc n))) (turned Equal e)) ∙ second in
      let a : n < seq = ranked n seq Less (sym low_number) in
      let b : seq < suc n = ranked seq (suc n) Less (sym high_number) in
      absurd (omega (arith, a, b))
  go Greater e = let never : Greater ≡ Less = sym (ap (λ (o : Ordering). ordering_then o (nat_cmp n seq)) e) ∙ first in absurd cc

-- ---- places in a list that rises

module _ {X : Type 0} {R : X → X → Ordering} (o : IsTotalOrder R) where
  never : (a b : X) → R a b ≡ Less → R b a ≡ Less → ⊥
  never a b low high = let back : R b a ≡ Greater = o.antisymm b a ∙ ap ordering_reverse low in absurd cc

  -- what is below an element stands before it
  pub stands_before : (before : List X) (r : X) (rest : List X) (q : X) → Rises o (before ++ r ∷ rest) → Has (before ++ r ∷ rest) q → R q r ≡ Less → Has before q
  stands_before [] r rest q up (inl is) low = absurd (let tie : R r r ≡ Equal = tied_itself o r in let less : R r r ≡ Less = subst (λ (z : X). R z r ≡ Less) is low in cc)
  stands_before [] r rest q up (inr later) low = absurd (never r q (all_has (λ y. R r y ≡ Less) rest q up.0 later) low)
  stands_before (x ∷ before) r rest q up (inl is) low = inl is
  stands_before (x ∷ before) r rest q up (inr later) low = inr (stands_before before r rest q up.1 later low)

  -- it is the last of those before, or below that
  pub last_or_below : (before : List X) (last : X) (rest : List X) (q : X) → Rises o (before ++ last ∷ rest) → Has (before ++ last ∷ []) q → (q ≡ last) ⊎ (R q last ≡ Less)
  last_or_below [] last rest q up (inl is) = inl is
  last_or_below [] last rest q up (inr none) = elim none [ ]
  last_or_below (x ∷ before) last rest q up (inl is) =
      inr (subst (λ (z : X). R z last ≡ Less) (sym is) (all_has (λ y. R x y ≡ Less) (before ++ last ∷ rest) last up.0 (here before)))
    where
      here : (xs : List X) → Has (xs ++ last ∷ rest) last
      here [] = inl refl
      here (z ∷ xs) = inr (here xs)
  last_or_below (x ∷ before) last rest q up (inr later) = last_or_below before last rest q up.1 later
