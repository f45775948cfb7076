-- The bicycles by type at a station: their counts are the operator's, and the types follow these.
use Rattle.std.proofs.Common.{◌≡◌, ◌≢◌, inl, inr, ℕ, ◌+◌, List, [], ◌∷◌, Bool, true, false, not, ◌&&◌, cond, refl, sym, ap, ◌∙◌, subst, arith}
use Rattle.std.specs.Prelude.{fold}
use Rattle.std.specs.Str.{bytes_eq}
use Rattle.std.specs.List.{AllByRecursion}
use Rattle.std.specs.FinMap as fin
use Rattle.std.proofs.lemmas.Bool.{and_right}
use Rattle.std.proofs.lemmas.Slice.Eq.{bytes_eq-Decides}
use Rattle.sqlite_rules.specs.Lists.{Has}
use Rattle.bike_fields.specs.Bytes.{is_ident}
use Rattle.bike_operator.specs.declared.records.Place.{Place}
use Rattle.bike_operator.specs.declared.records.Place.TheVariants as place
use Rattle.bike_operator.specs.declared.records.Bike.{Bike}
use Rattle.bike_operator.specs.Operator.{Operator}
use Rattle.bike_operator.specs.Counts.{count, is_at, is_fit, is_broken, is_available, is_working_dock, available_of}
use Rattle.bike_laws.proofs.SingleSteps.MapLemmas.{number_order, there_of}
use Rattle.bike_laws.proofs.SingleSteps.CountLemmas.{one, count-cons}
use Rattle.bike_laws.specs.SingleSteps.Numbers.{is_available_of, is_disabled_of, disabled_of}
use Rattle.bike_book.specs.declared.by_type.TypeCounts.{TypeCounts}
use Rattle.bike_book.specs.declared.by_type.CountedType.{CountedType}
use Rattle.bike_book.specs.ByType.{counts_of, with_counts, one_more, with_bike, types_at, IsSameCount, CountsLaw, SameTypesLaw, ChangedTypeLaw, NoTypesLaw, IdentsLaw}
use Rattle.bike_book.proofs.MapRows.{has_get}
use Rattle.bike_book.proofs.TypeLists.{AreInOrder, counts_set, set_in_order, set_each, same_types}

-- the counts with so many more
pub record HasMore (was now : TypeCounts) (available disabled : ℕ) : Type 0 where
  pub available_is : now.available ≡ was.available + available
  pub disabled_is : now.disabled ≡ was.disabled + disabled

module _ (s : Operator) (station : List ℕ) where
  pub not_working : (p : Place) → is_at station p ≡ false → is_working_dock s station p ≡ false
  not_working (place.Dock at dock) e = ap (λ (b : Bool). b && not (is_broken s station dock)) e
  not_working (place.Rental rental) e = refl
  not_working (place.Truck truck order) e = refl
  not_working place.Depot e = refl

  pub not_available : (b : Bike) → is_at station b.place ≡ false → is_available s station b ≡ false
  not_available b e = and_right (is_fit b.state) (is_working_dock s station b.place) (not_working b.place e)

  -- ---- one bicycle

  -- the types with a bicycle that stands there
  abbrev with_one : List CountedType → ℕ × Bike → List CountedType
  with_one cs e = with_counts e.1.type_id (one_more (is_available s station e.1) (counts_of e.1.type_id cs)) cs

  -- the counts of a type, with the bicycle where it is of that type and stands there
  abbrev IsCounted : List ℕ → List CountedType → ℕ × Bike → List CountedType → Type 0
  IsCounted t cs e now = HasMore (counts_of t cs) (counts_of t now) (one (is_available_of s station t e.1)) (one (is_disabled_of s station t e.1))

  one_counted : (t : List ℕ) (cs : List CountedType) → AreInOrder cs → (e : ℕ × Bike) → is_at station e.1.place ≡ true → IsCounted t cs e (with_one cs e)
  one_counted t cs order e at = go (bytes_eq e.1.type_id t) refl where
    can : Bool
    can = is_available s station e.1

    set : counts_of t (with_one cs e) ≡ cond (bytes_eq e.1.type_id t) (one_more can (counts_of e.1.type_id cs)) (counts_of t cs)
    set = counts_set e.1.type_id (one_more can (counts_of e.1.type_id cs)) t cs order

    turns : (a : Bool) (was : TypeCounts) → HasMore was (one_more a was) (one a) (one (true && not a))
    turns true was = record { available_is = omega arith; disabled_is = omega arith }
    turns false was = record { available_is = omega arith; disabled_is = omega arith }

    go : (same : Bool) → bytes_eq e.1.type_id t ≡ same → IsCounted t cs e (with_one cs e)
    go true same =
        let type_is = (bytes_eq-Decides e.1.type_id t).0 same in
        rw (set, same, at) (subst (λ (x : List ℕ). HasMore (counts_of t cs) (one_more can (counts_of x cs)) (one can) (one (true && not can))) (sym type_is) (turns can (counts_of t cs)))
    go false same = rw (set, same) (record { available_is = omega arith; disabled_is = omega arith })

  bike_counted : (t : List ℕ) (cs : List CountedType) → AreInOrder cs → (e : ℕ × Bike) → IsCounted t cs e (with_bike s station cs e)
  bike_counted t cs order e = go (is_at station e.1.place) refl where
    go : (at : Bool) → is_at station e.1.place ≡ at → IsCounted t cs e (cond at (with_one cs e) cs)
    go true at = one_counted t cs order e at
    go false at =
        let available : is_available_of s station t e.1 ≡ false = and_right (bytes_eq e.1.type_id t) (is_available s station e.1) (not_available e.1 at) in
        let disabled : is_disabled_of s station t e.1 ≡ false =
        and_right (bytes_eq e.1.type_id t) (is_at station e.1.place && not (is_available s station e.1)) (ap (λ (b : Bool). b && not (is_available s station e.1)) at) in
        rw (available, disabled) (record { available_is = omega arith; disabled_is = omega arith })

  bike_in_order : (cs : List CountedType) → AreInOrder cs → (e : ℕ × Bike) → AreInOrder (with_bike s station cs e)
  bike_in_order cs h e = go (is_at station e.1.place) where
    go : (at : Bool) → AreInOrder (cond at (with_one cs e) cs)
    go true = set_in_order e.1.type_id (one_more (is_available s station e.1) (counts_of e.1.type_id cs)) cs h
    go false = h

  -- ---- all bicycles

  in_order : (es : List (ℕ × Bike)) (cs : List CountedType) → AreInOrder cs → AreInOrder (fold (with_bike s station) cs es)
  in_order [] cs h = h
  in_order (e ∷ es) cs h = in_order es (with_bike s station cs e) (bike_in_order cs h e)

  counted : (t : List ℕ) (es : List (ℕ × Bike)) (cs : List CountedType) → AreInOrder cs
      → HasMore (counts_of t cs) (counts_of t (fold (with_bike s station) cs es)) (count (λ b. is_available_of s station t b.1) es) (count (λ b. is_disabled_of s station t b.1) es)
  counted t [] cs h = record { available_is = omega arith; disabled_is = omega arith }
  counted t (e ∷ es) cs h =
      let first = bike_counted t cs h e in
      let later = counted t es (with_bike s station cs e) (bike_in_order cs h e) in
      let available = count-cons (λ (b : ℕ × Bike). is_available_of s station t b.1) e es in
      let disabled = count-cons (λ (b : ℕ × Bike). is_disabled_of s station t b.1) e es in
      record { available_is = omega (arith, available); disabled_is = omega (arith, disabled) }

  -- what holds of the type of each bicycle holds of all types
  each_of : (P : List ℕ → Type 0) (es : List (ℕ × Bike)) (cs : List CountedType) → ((e : ℕ × Bike) → Has es e → P e.1.type_id) → AllByRecursion (λ c. P c.type_id) cs
      → AllByRecursion (λ c. P c.type_id) (fold (with_bike s station) cs es)
  each_of P [] cs each h = h
  each_of P (e ∷ es) cs each h = each_of P es (with_bike s station cs e) (λ x has. each x (inr has)) (go (is_at station e.1.place)) where
    go : (at : Bool) → AllByRecursion (λ c. P c.type_id) (cond at (with_one cs e) cs)
    go true = set_each e.1.type_id (one_more (is_available s station e.1) (counts_of e.1.type_id cs)) P cs (each e (inl refl)) h
    go false = h

  types_in_order : AreInOrder (types_at s station)
  types_in_order = in_order (fin.entries s.bikes) [] tt

pub types_counted : CountsLaw
types_counted s station t =
    let all = counted s station t (fin.entries s.bikes) [] tt in
    let available : (counts_of t (types_at s station)).available ≡ available_of s station t = all.available_is ∙ omega arith in
    let disabled : (counts_of t (types_at s station)).disabled ≡ disabled_of s station t = all.disabled_is ∙ omega arith in
    λ i. record { available = available i; disabled = disabled i }

-- ---- the types follow the counts

same_counts : (s n : Operator) (station t : List ℕ) → IsSameCount s n station t → counts_of t (types_at n station) ≡ counts_of t (types_at s station)
same_counts s n station t same = types_counted n station t ∙ (λ i. record { available = same.0 i; disabled = same.1 i }) ∙ sym (types_counted s station t)

pub types_same : SameTypesLaw
types_same s n station same =
    same_types (types_at n station) (types_at s station) (types_in_order n station) (types_in_order s station) (λ t. same_counts s n station t (same t))

pub type_changed : ChangedTypeLaw
type_changed s n station t others =
    same_types (types_at n station) (with_counts t now (types_at s station)) (types_in_order n station)
    (set_in_order t now (types_at s station) (types_in_order s station)) (λ q. each q (bytes_eq t q) refl)
  where
    now : TypeCounts
    now = record { available = available_of n station t; disabled = disabled_of n station t }

    set : (q : List ℕ) → counts_of q (with_counts t now (types_at s station)) ≡ cond (bytes_eq t q) now (counts_of q (types_at s station))
    set q = counts_set t now q (types_at s station) (types_in_order s station)

    each : (q : List ℕ) (b : Bool) → bytes_eq t q ≡ b → counts_of q (types_at n station) ≡ counts_of q (with_counts t now (types_at s station))
    each q true e =
        let same = (bytes_eq-Decides t q).0 e in
        ap (λ (x : List ℕ). counts_of x (types_at n station)) (sym same) ∙ types_counted n station t ∙ sym (ap (λ (b : Bool). cond b now (counts_of q (types_at s station))) e) ∙ sym (set q)
    each q false e =
        let other : q ≢ t = λ same. let itself = (bytes_eq-Decides t q).1 (sym same) in let clash : ◌≡◌ {A = Bool} true false = sym itself ∙ e in cc in
        same_counts s n station q (others q other) ∙ sym (ap (λ (b : Bool). cond b now (counts_of q (types_at s station))) e) ∙ sym (set q)

pub no_types : NoTypesLaw
no_types s station none =
    same_types (types_at s station) [] (types_in_order s station) tt (λ t. types_counted s station t ∙ (λ i. record { available = (none t).0 i; disabled = (none t).1 i }))

-- ---- the types of a sound operator

pub types_idents : IdentsLaw
types_idents s station sound = each_of s station (λ t. is_ident t ≡ true) (fin.entries s.bikes) [] good tt where
  good : (e : ℕ × Bike) → Has (fin.entries s.bikes) e → is_ident e.1.type_id ≡ true
  good e has =
      let bike = sound.bikes.bikes e.0 e.1 (has_get number_order.total s.bikes e has) in
      let there = there_of (fin.get s.types e.1.type_id) bike.type_is in
      let it = sound.catalogue.types e.1.type_id there.0 there.1 in
      ap is_ident it.id_is ∙ it.good.type_id
