-- Types told in byte order: the counts of one among others, and of one that would stand between them.
use Rattle.std.proofs.Common.{◌≡◌, ℕ, List, [], ◌∷◌, ◌++◌, Bool, true, false, cond, Less, refl, sym, ap, ◌∙◌}
use Rattle.std.specs.Prelude.{fold}
use Rattle.std.specs.Ordering.{is_eq, ordering_reverse}
use Rattle.std.specs.Str.{bytes_eq}
use Rattle.std.specs.FinMap as fin
use Rattle.std.proofs.lemmas.Map.Text.{is_eq-slice_cmp}
use Rattle.std.proofs.lemmas.Slice.Eq.{bytes_eq-Decides}
use Rattle.bike_laws.proofs.SingleSteps.MapLemmas.{text_order}
use Rattle.bike_operator.specs.declared.records.Bike.{Bike}
use Rattle.bike_operator.specs.Counts.{is_at, is_available}
use Rattle.bike_operator.specs.Operator.{Operator, text_cmp}
use Rattle.bike_book.specs.ByType.{counts_of, no_counts, one_more, types_at, with_bike, with_counts}
use Rattle.bike_book.specs.declared.by_type.CountedType.{CountedType}
use Rattle.bike_book.proofs.TypeLists.{AreInOrder, IsBefore, set_in_order}
use Rattle.bike_queries.specs.StationCounts.{AreAbove, AreBelow, AreRising}

-- a text that comes before another is another
before_other : (t u : List ℕ) → text_cmp t u ≡ Less → bytes_eq t u ≡ false
before_other t u less = sym (is_eq-slice_cmp t u) ∙ ap is_eq less

behind_other : (t u : List ℕ) → text_cmp t u ≡ Less → bytes_eq u t ≡ false
behind_other t u less = sym (is_eq-slice_cmp u t) ∙ ap is_eq (text_order.total.antisymm u t ∙ ap ordering_reverse less)

-- the counts of a type behind others
passed : (t : List ℕ) (c : CountedType) (cs : List CountedType) → bytes_eq c.type_id t ≡ false → counts_of t (c ∷ cs) ≡ counts_of t cs
passed t c cs other = ap (λ (b : Bool). cond b c.counts (counts_of t cs)) other

-- ---- a part of those in order

pub rising_front : (front back : List CountedType) → AreRising (front ++ back) → AreRising front
rising_front [] back rises = tt
rising_front (c ∷ front) back rises = (above_front front rises.0, rising_front front back rises.1) where
  above_front : (front : List CountedType) → AreAbove c.type_id (front ++ back) → AreAbove c.type_id front
  above_front [] above = tt
  above_front (d ∷ front) above = (above.0, above_front front above.1)

pub rising_back : (front back : List CountedType) → AreRising (front ++ back) → AreRising back
rising_back [] back rises = rises
rising_back (c ∷ front) back rises = rising_back front back rises.1

above_middle : (t : List ℕ) (front back : List CountedType) (x : CountedType) → AreAbove t (front ++ x ∷ back) → text_cmp t x.type_id ≡ Less
above_middle t [] back x above = above.0
above_middle t (c ∷ front) back x above = above_middle t front back x above.1

-- ---- a type that is there

pub told_here : (front back : List CountedType) (x : CountedType) → AreRising (front ++ x ∷ back) → x.counts ≡ counts_of x.type_id (front ++ x ∷ back)
told_here [] back x rises = sym (ap (λ (b : Bool). cond b x.counts (counts_of x.type_id back)) ((bytes_eq-Decides x.type_id x.type_id).1 refl))
told_here (c ∷ front) back x rises =
    told_here front back x rises.1 ∙ sym (passed x.type_id c (front ++ x ∷ back) (before_other c.type_id x.type_id (above_middle c.type_id front back x rises.0)))

-- ---- a type that isn't

module _ (t : List ℕ) where
  pub all_above : (c : CountedType) (cs : List CountedType) → AreRising (c ∷ cs) → text_cmp t c.type_id ≡ Less → AreAbove t (c ∷ cs)
  all_above c cs rises less = (less, go cs rises.0) where
    go : (cs : List CountedType) → AreAbove c.type_id cs → AreAbove t cs
    go [] above = tt
    go (d ∷ cs) above = (text_order.total.trans t c.type_id d.type_id less above.0, go cs above.1)

  pub all_below : (front : List CountedType) (last : CountedType) → AreRising (front ++ last ∷ []) → text_cmp last.type_id t ≡ Less → AreBelow t (front ++ last ∷ [])
  all_below [] last rises less = (less, tt)
  all_below (c ∷ front) last rises less =
      (text_order.total.trans c.type_id last.type_id t (above_middle c.type_id front [] last rises.0) less, all_below front last rises.1 less)

  pub none_between : (front back : List CountedType) → AreBelow t front → AreAbove t back → no_counts ≡ counts_of t (front ++ back)
  none_between [] [] below above = refl
  none_between [] (c ∷ back) below above = none_between [] back tt above.1 ∙ sym (passed t c back (behind_other t c.type_id above.0))
  none_between (c ∷ front) back below above = none_between front back below.1 above ∙ sym (passed t c (front ++ back) (before_other c.type_id t below.0))

-- ---- the types at a station

above_is : (t : List ℕ) (cs : List CountedType) → IsBefore t cs → AreAbove t cs
above_is t [] before = tt
above_is t (c ∷ cs) before = (before.0, above_is t cs before.1)

rising_is : (cs : List CountedType) → AreInOrder cs → AreRising cs
rising_is [] order = tt
rising_is (c ∷ cs) order = (above_is c.type_id cs order.1.0, rising_is cs order.1.1)

module _ (s : Operator) (station : List ℕ) where
  bike_in_order : (cs : List CountedType) → AreInOrder cs → (e : ℕ × Bike) → AreInOrder (with_bike s station cs e)
  bike_in_order cs order e = go (is_at station e.1.place) where
    go : (at : Bool) → AreInOrder (cond at (with_counts e.1.type_id (one_more (is_available s station e.1) (counts_of e.1.type_id cs)) cs) cs)
    go true = set_in_order e.1.type_id (one_more (is_available s station e.1) (counts_of e.1.type_id cs)) cs order
    go false = order

  in_order : (es : List (ℕ × Bike)) (cs : List CountedType) → AreInOrder cs → AreInOrder (fold (with_bike s station) cs es)
  in_order [] cs order = order
  in_order (e ∷ es) cs order = in_order es (with_bike s station cs e) (bike_in_order cs order e)

  pub types_rise : AreRising (types_at s station)
  types_rise = rising_is (types_at s station) (in_order (fin.entries s.bikes) [] tt)
