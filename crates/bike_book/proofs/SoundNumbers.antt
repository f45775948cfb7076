-- What soundness says of the numbers of a record that isn't there.
use Rattle.std.proofs.Common.{◌≡◌, ◌⊎◌, inl, inr, ℕ, ℤ, zero, suc, ◌+◌, ◌<◌, pos, List, [], ◌∷◌, length, Bool, true, false, cond, not, ◌&&◌, Option, Some, None, is_some, refl, sym, ap, ◌∙◌, arith, filter}
use Rattle.std.specs.Prelude.{◌==◌}
use Rattle.std.specs.Str.{bytes_eq}
use Rattle.std.specs.FinMap as fin
use Rattle.std.proofs.lemmas.Int.{ints}
use Rattle.std.proofs.lemmas.Bool.{and_right}
use Rattle.std.proofs.lemmas.Bool.Decides.{eqb_tells}
use Rattle.std.proofs.lemmas.Slice.Eq.{bytes_eq-Decides}
use Rattle.bike_ledger.specs.Entries.{Entry}
use Rattle.bike_ledger.specs.declared.entry.EntryKind.{EntryKind}
use Rattle.bike_ledger.specs.declared.entry.EntryKind.TheVariants.{TopUp, Fare, Refund, Withdrawal, Charge, Credit}
use Rattle.bike_ledger.specs.Ledger.{total, credit, given_back, given_back_of, share}
use Rattle.bike_operator.specs.declared.records.Place.{Place}
use Rattle.bike_operator.specs.declared.records.Place.TheVariants as place
use Rattle.bike_operator.specs.declared.records.Bike.{Bike}
use Rattle.bike_operator.specs.Operator.{Operator, Station, dock_key, item_at, last_number}
use Rattle.bike_operator.specs.Counts.{count, is_at, is_broken, is_available, is_working_dock, docks_up_to}
use Rattle.bike_operator.specs.Sound.{HasDock, IsSound, IsPlace, IsBooking, IsOfRental}
use Rattle.bike_laws.proofs.SingleSteps.ItemLemmas.{number_within, number_of_place}
use Rattle.bike_laws.proofs.SingleSteps.MapLemmas.{number_order}
use Rattle.bike_laws.proofs.SingleSteps.CountLemmas.{none_counted}
use Rattle.bike_laws.specs.SingleSteps.Numbers.{is_available_of, is_disabled_of}
use Rattle.bike_book.specs.NotThere.{WhereSound, NoRefundsYet, NoBalanceYet, NoneDockedYet, NoTypesYet, NoneBrokenYet}
use Rattle.bike_book.proofs.TypeLaws.{not_working, not_available, no_types}

-- a sum over entries of which each adds nothing
nothing_added : (figure : Entry → ℤ) (es : List Entry) → ((n : ℕ) (e : Entry) → item_at n es ≡ Some e → figure e ≡ pos 0) → total figure es ≡ pos 0
nothing_added figure [] each = refl
nothing_added figure (e ∷ es) each =
    let first = each zero e refl in
    let rest = nothing_added figure es (λ n x i. each (suc n) x i) in
    omega (arith, ints, first, rest)

either_none : (b : Bool) (z : ℤ) → z ≡ pos 0 → cond b z (pos 0) ≡ pos 0
either_none true z e = e
either_none false z e = refl

none_filtered : {A : Type 0} (test : A → Bool) (xs : List A) → ((x : A) → test x ≡ false) → count test xs ≡ 0
none_filtered test [] fails = refl
none_filtered test (x ∷ xs) fails = ap (λ (b : Bool). length (cond b (x ∷ filter test xs) (filter test xs))) (fails x) ∙ none_filtered test xs fails

module _ (s : Operator) (sound : IsSound s) where
  -- ---- rentals

  -- no entry is of a rental that isn't there yet
  other_rental : (n : ℕ) → last_number s.rentals < n → (e : Entry) → IsOfRental s e → (e.rental == n) ≡ false
  other_rental n low e (inl old) =
      let high = old.high in
      elim (eqb_tells e.rental n) [ inl w ↦ absurd (let same = w.1 in omega (arith, same, high, low)) | inr w ↦ w.0 ]
  other_rental n low e (inr of) =
      let within = number_within e.rental s.rentals of.row of.found in
      elim (eqb_tells e.rental n) [ inl w ↦ absurd (let same = w.1 in omega (arith, same, within, low)) | inr w ↦ w.0 ]

  none_given : (n : ℕ) → last_number s.rentals < n → (e : Entry) (k : EntryKind) → IsBooking s e k → cond (e.rental == n) (given_back k e.amount) (pos 0) ≡ pos 0
  none_given n low e TopUp b = either_none (e.rental == n) (pos 0) refl
  none_given n low e Fare b = either_none (e.rental == n) (pos 0) refl
  none_given n low e Refund b = ap (λ (c : Bool). cond c e.amount (pos 0)) (other_rental n low e b.0)
  none_given n low e Withdrawal b = either_none (e.rental == n) (pos 0) refl
  none_given n low e Charge b = either_none (e.rental == n) (pos 0) refl
  none_given n low e Credit b = either_none (e.rental == n) (pos 0) refl

  refunds : NoRefundsYet s
  refunds n low = nothing_added (given_back_of n) s.entries.items (λ i e is. none_given n low e e.kind (sound.ledger.entries (s.entries.archived + suc i) e (number_of_place i s.entries e is)).booking)

  -- ---- riders

  -- no entry is of a rider who isn't there
  balance : NoBalanceYet s
  balance rider none = nothing_added (share rider) s.entries.items (λ i e is. go e (sound.ledger.entries (s.entries.archived + suc i) e (number_of_place i s.entries e is)).rider_is (eqb_tells e.rider rider)) where
    go : (e : Entry) → fin.contains_key s.riders e.rider ≡ true → ((e.rider == rider) ≡ true) × (e.rider ≡ rider) ⊎ ((e.rider == rider) ≡ false) × (e.rider ≡ rider → ⊥) → share rider e ≡ pos 0
    go e known (inl same) =
        let there : is_some (fin.get s.riders rider) ≡ true = ap (λ (r : ℕ). is_some (fin.get s.riders r)) (sym same.1) ∙ known in
        let not_there : is_some (fin.get s.riders rider) ≡ false = ap is_some none in
        absurd cc
    go e known (inr other) = ap (λ (b : Bool). cond b (credit e.kind e.amount) (pos 0)) other.0

  -- ---- stations

  no_dock : (id : List ℕ) → fin.get s.stations id ≡ None → (at : List ℕ) (dock : ℕ) → HasDock s at dock → at ≡ id → ⊥
  no_dock id none at dock has same =
      let there : fin.get s.stations id ≡ Some has.row = ap (fin.get s.stations) (sym same) ∙ has.found in
      let both : ◌≡◌ {A = Option Station} None (Some has.row) = sym none ∙ there in
      absurd cc

  elsewhere : (id : List ℕ) → fin.get s.stations id ≡ None → (k : ℕ) (b : Bike) → fin.get s.bikes k ≡ Some b → is_at id b.place ≡ false
  elsewhere id none k b found = go b.place (sound.bikes.bikes k b found).placed where
    go : (p : Place) → IsPlace s k b.type_id p → is_at id p ≡ false
    go (place.Dock at dock) has = by (bytes_eq at id) refl where
      by : (c : Bool) → bytes_eq at id ≡ c → c ≡ false
      by true same = absurd (no_dock id none at dock has ((bytes_eq-Decides at id).0 same))
      by false same = refl
    go (place.Rental rental) has = refl
    go (place.Truck truck order) has = refl
    go place.Depot has = refl

  docked : NoneDockedYet s
  docked id none = none_counted number_order (λ (b : Bike). is_working_dock s id b.place) s.bikes (λ k b found. not_working s id b.place (elsewhere id none k b found))

  types : NoTypesYet s
  types id none = no_types s id (λ t. (
    none_counted number_order (is_available_of s id t) s.bikes (λ k b found. and_right (bytes_eq b.type_id t) (is_available s id b) (not_available s id b (elsewhere id none k b found))),
    none_counted number_order (is_disabled_of s id t) s.bikes (λ k b found.
        and_right (bytes_eq b.type_id t) (is_at id b.place && not (is_available s id b)) (ap (λ (c : Bool). c && not (is_available s id b)) (elsewhere id none k b found))),
  ))

  broken : NoneBrokenYet s
  broken id docks none = none_filtered (λ n. is_broken s id n) (docks_up_to docks) (λ n. go n (is_broken s id n) refl) where
    go : (n : ℕ) (c : Bool) → is_broken s id n ≡ c → c ≡ false
    go n true marked =
        let b = sound.catalogue.broken (dock_key id n) marked in
        let keys : dock_key id n ≡ dock_key b.station b.dock = b.key_is in
        let same : id ≡ b.station = cc in
        absurd (no_dock id none b.station b.dock b.has (sym same))
    go n false marked = refl

pub no_refunds : WhereSound NoRefundsYet
no_refunds = refunds

pub no_balance : WhereSound NoBalanceYet
no_balance = balance

pub none_docked : WhereSound NoneDockedYet
none_docked = docked

pub no_types_yet : WhereSound NoTypesYet
no_types_yet = types

pub none_broken : WhereSound NoneBrokenYet
none_broken = broken
