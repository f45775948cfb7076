-- A station's docks: each is available, or works and holds one bicycle, or is broken.
use Rattle.std.proofs.Common.{◌≡◌, ◌⊎◌, inl, inr, ℕ, zero, suc, ◌+◌, ◌≤◌, List, Bool, true, false, not, ◌&&◌, leb, ◌==◌, Option, Some, None, is_some, is_none, refl, sym, ap, ap₂, ◌∙◌, subst, arith}
use Rattle.std.specs.Str.{bytes_eq}
use Rattle.std.specs.FinMap as map
use Rattle.std.proofs.lemmas.Slice.Eq.{bytes_eq-Decides}
use Rattle.std.proofs.lemmas.Bool.Decides.{nat_tests, eqb_tells}
use Rattle.bike_operator.specs.declared.records.Place.{Place}
use Rattle.bike_operator.specs.declared.records.Place.TheVariants as place
use Rattle.bike_operator.specs.declared.records.Bike.{Bike}
use Rattle.bike_operator.specs.Operator.{Operator, Station}
use Rattle.bike_operator.specs.Counts.{count, is_dock, is_broken, is_working_dock, docked_at, docks_up_to, docks_available, docks_broken}
use Rattle.bike_operator.specs.Sound.{HasDock, IsPlace, AreBikesSound}
use Rattle.bike_laws.proofs.SingleSteps.MapLemmas.{number_order}
use Rattle.bike_laws.specs.SingleSteps.Numbers.{occupied_docks}
use Rattle.bike_laws.specs.SingleSteps.Laws.{one, is_free, HasDocks}
use Rattle.bike_laws.proofs.SingleSteps.Members.{has_get}
use Rattle.bike_laws.proofs.SingleSteps.StoredTestLemmas.{and_false, and_true}
use Rattle.bike_laws.proofs.SingleSteps.StoredCountLemmas.{count_same, count_none, count_sum, count_last, count_once, PassOnce}

-- a place that passes as a dock of the station is that dock
pub dock_is : (station : List ℕ) (n : ℕ) (p : Place) → is_dock station n p ≡ true → p ≡ place.Dock station n
dock_is station n (place.Dock at dock) h = go (bytes_eq at station) refl (eqb_tells dock n) h where
  go : (b : Bool) → bytes_eq at station ≡ b → ((dock == n) ≡ true) × (dock ≡ n) ⊎ ((dock == n) ≡ false) × (dock ≡ n → ⊥) → (b && (dock == n)) ≡ true → place.Dock at dock ≡ place.Dock station n
  go true is (inl same) h = ap₂ place.Dock ((bytes_eq-Decides at station).0 is) same.1
  go true is (inr other) h = absurd cc
  go false is tells h = absurd cc
dock_is station n (place.Rental rental) h = absurd cc
dock_is station n (place.Truck truck order) h = absurd cc
dock_is station n place.Depot h = absurd cc

-- the place is a dock with a number up to this
abbrev is_low : ℕ → Place → Bool
is_low n (place.Dock at dock) = leb dock n
is_low n (place.Rental rental) = false
is_low n (place.Truck truck order) = false
is_low n place.Depot = false

-- a dock is free, or holds a bicycle and works, or is broken
three : (o : Option (ℕ × Bike)) (b : Bool) → one (is_none o && not b) + one (is_some o && not b) + one b ≡ 1
three None true = refl
three None false = refl
three (Some e) true = refl
three (Some e) false = refl

module _ (s : Operator) (sound : AreBikesSound s) where
  -- the dock in which a bicycle is
  pub placed_in : (k : ℕ) (b : Bike) → map.get s.bikes k ≡ Some b → (station : List ℕ) (dock : ℕ) → b.place ≡ place.Dock station dock → HasDock s station dock
  placed_in k b found station dock is = subst (IsPlace s k b.type_id) is (sound.bikes k b found).placed

  -- one bicycle at most is in a dock
  pub docked_once : (station : List ℕ) (n : ℕ) → PassOnce number_order.total (λ (b : Bike). is_dock station n b.place) (map.entries s.bikes)
  docked_once station n a b ha hb pa pb =
      sound.apart a.0 b.0 a.1 b.1 station n (has_get number_order.total s.bikes a ha) (has_get number_order.total s.bikes b hb) (dock_is station n a.1.place pa) (dock_is station n b.1.place pb)

  module _ (station : List ℕ) (x : Station) (found : map.get s.stations station ≡ Some x) where
    -- a dock of the station in which a bicycle is has one of its numbers
    within : (at : List ℕ) (dock : ℕ) → HasDock s at dock → bytes_eq at station ≡ true → (1 ≤ dock) × (dock ≤ x.row.docks)
    within at dock has same =
        let is : at ≡ station = (bytes_eq-Decides at station).0 same in
        let there : map.get s.stations at ≡ Some has.row = has.found in
        let row : has.row ≡ x = (let e : ◌≡◌ {A = Option Station} (Some has.row) (Some x) = sym there ∙ ap (map.get s.stations) is ∙ found in cc) in
        (has.low, subst (λ (z : Station). dock ≤ z.row.docks) row has.high)

    abbrev works : Place → Bool
    works p = is_working_dock s station p

    low_test : ℕ → ℕ × Bike → Bool
    low_test n b = works b.1.place && is_low n b.1.place

    new_test : ℕ → ℕ × Bike → Bool
    new_test n b = is_dock station n b.1.place && not (is_broken s station n)

    split_bool : (b c d : Bool) → one ((b && c) && true) ≡ one ((b && c) && false) + one ((b && true) && c)
    split_bool true true d = refl
    split_bool true false d = refl
    split_bool false c d = refl

    keep_bool : (b c d e : Bool) → one ((b && c) && d) ≡ one ((b && c) && d) + one ((b && false) && e)
    keep_bool true c d e = omega arith
    keep_bool false c d e = omega arith

    -- with one more dock
    more_low : (n : ℕ) (p : Place) → one (works p && is_low (suc n) p) ≡ one (works p && is_low n p) + one (is_dock station (suc n) p && not (is_broken s station (suc n)))
    more_low n (place.Dock at dock) = go (eqb_tells dock (suc n)) where
      go : ((dock == suc n) ≡ true) × (dock ≡ suc n) ⊎ ((dock == suc n) ≡ false) × (dock ≡ suc n → ⊥)
          → one ((bytes_eq at station && not (is_broken s station dock)) && leb dock (suc n))
          ≡ one ((bytes_eq at station && not (is_broken s station dock)) && leb dock n) + one ((bytes_eq at station && (dock == suc n)) && not (is_broken s station (suc n)))
      go (inl same) =
          let up : leb dock (suc n) ≡ true = (let e = same.1 in grind (arith, nat_tests, e)) in
          let down : leb dock n ≡ false = (let e = same.1 in grind (arith, nat_tests, e)) in
          rw (up, down, same.0, ← same.1) (split_bool (bytes_eq at station) (not (is_broken s station dock)) true)
      go (inr other) =
          let alike : leb dock (suc n) ≡ leb dock n = (let e = other.1 in grind (arith, nat_tests, e)) in
          rw (alike, other.0) (keep_bool (bytes_eq at station) (not (is_broken s station dock)) (leb dock n) (not (is_broken s station (suc n))))
    more_low n (place.Rental rental) = refl
    more_low n (place.Truck truck order) = refl
    more_low n place.Depot = refl

    -- how many are in a dock, counted where it works: one, where one is found
    counted_in : (n : ℕ) (b : Bool) → is_broken s station n ≡ b → count (new_test n) (map.entries s.bikes) ≡ one (is_some (docked_at s station n) && not b)
    unfolding new_test
    counted_in n true broken = count_none (new_test n) (map.entries s.bikes) (λ y has. rw broken (and_false (is_dock station n y.1.place))) ∙ sym (ap one (and_false (is_some (docked_at s station n))))
    counted_in n false broken =
        count_same (new_test n) (λ b. is_dock station n b.1.place) (map.entries s.bikes) (λ y has. rw broken (and_true (is_dock station n y.1.place)))
        ∙ count_once number_order.total (λ (b : Bike). is_dock station n b.place) (map.entries s.bikes) (map.entries_sorted s.bikes) (docked_once station n)
        ∙ sym (ap one (and_true (is_some (docked_at s station n))))

    up_to : (n : ℕ) → docks_available s station n + count (low_test n) (map.entries s.bikes) + docks_broken s station n ≡ n
    unfolding docks_up_to low_test new_test
    up_to zero = let z = count_none (low_test 0) (map.entries s.bikes) (λ y has. none_low y.0 y.1 (has_get number_order.total s.bikes y has) y.1.place refl) in omega (arith, z) where
      none_low : (k : ℕ) (b : Bike) → map.get s.bikes k ≡ Some b → (p : Place) → b.place ≡ p → (works p && is_low 0 p) ≡ false
      none_low k b is (place.Dock at dock) e = go (bytes_eq at station) refl where
        go : (c : Bool) → bytes_eq at station ≡ c → ((c && not (is_broken s station dock)) && leb dock 0) ≡ false
        go true same =
            let w = within at dock (placed_in k b is at dock e) same in
            let high : leb dock 0 ≡ false = (let low = w.0 in grind (arith, nat_tests, low)) in
            rw high (and_false (not (is_broken s station dock)))
        go false same = refl
      none_low k b is (place.Rental rental) e = refl
      none_low k b is (place.Truck truck order) e = refl
      none_low k b is place.Depot e = refl
    up_to (suc n) =
        let a = count_last (λ (m : ℕ). is_free s station m) (docks_up_to n) (suc n) in
        let b = count_last (λ (m : ℕ). is_broken s station m) (docks_up_to n) (suc n) in
        let c = count_sum (low_test (suc n)) (low_test n) (new_test (suc n)) (map.entries s.bikes) (λ y. more_low n y.1.place) in
        let d = counted_in (suc n) (is_broken s station (suc n)) refl in
        let t = three (docked_at s station (suc n)) (is_broken s station (suc n)) in
        let rest = up_to n in
        omega (arith, a, b, c, d, t, rest)

    all_low : count (low_test x.row.docks) (map.entries s.bikes) ≡ occupied_docks s station
    unfolding low_test
    all_low = count_same (low_test x.row.docks) (λ b. works b.1.place) (map.entries s.bikes) (λ y has. low y.0 y.1 (has_get number_order.total s.bikes y has) y.1.place refl) where
      low : (k : ℕ) (b : Bike) → map.get s.bikes k ≡ Some b → (p : Place) → b.place ≡ p → (works p && is_low x.row.docks p) ≡ works p
      low k b is (place.Dock at dock) e = go (bytes_eq at station) refl where
        go : (c : Bool) → bytes_eq at station ≡ c → ((c && not (is_broken s station dock)) && leb dock x.row.docks) ≡ (c && not (is_broken s station dock))
        go true same =
            let w = within at dock (placed_in k b is at dock e) same in
            let up : leb dock x.row.docks ≡ true = (let high = w.1 in grind (arith, nat_tests, high)) in
            rw up (and_true (not (is_broken s station dock)))
        go false same = refl
      low k b is (place.Rental rental) e = refl
      low k b is (place.Truck truck order) e = refl
      low k b is place.Depot e = refl

    pub docks_of : docks_available s station x.row.docks + occupied_docks s station + docks_broken s station x.row.docks ≡ x.row.docks
    docks_of = let a = up_to x.row.docks in let b = all_low in omega (arith, a, b)

  -- THE LAW OF DOCKS
  pub docks_law : (station : List ℕ) (docks : ℕ) → HasDocks s station docks → docks_available s station docks + occupied_docks s station + docks_broken s station docks ≡ docks
  docks_law station docks has = subst (λ n. docks_available s station n + occupied_docks s station + docks_broken s station n ≡ n) has.docks_are (docks_of station has.row has.found)
