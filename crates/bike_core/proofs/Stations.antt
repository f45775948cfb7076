-- What soundness says of the numbers of a station that isn't there.
use Rattle.std.proofs.Common.{◌≡◌, ℕ, List, [], ◌∷◌, filter, length, Bool, true, false, cond, not, ◌&&◌, Option, Some, None, refl, sym, ap, ◌∙◌}
use Rattle.std.specs.Str.{bytes_eq}
use Rattle.std.specs.FinMap as fin
use Rattle.std.proofs.lemmas.Slice.Eq.{bytes_eq-Decides}
use Rattle.bike_operator.specs.declared.records.Place.{Place}
use Rattle.bike_operator.specs.declared.records.Place.TheVariants as place
use Rattle.bike_operator.specs.declared.records.Bike.{Bike}
use Rattle.bike_operator.specs.Operator.{Operator, Station, dock_key}
use Rattle.bike_operator.specs.Counts.{count, is_broken, is_working_dock, docks_up_to, docks_broken}
use Rattle.bike_operator.specs.Sound.{HasDock, IsSound, IsPlace}
use Rattle.bike_laws.specs.SingleSteps.Numbers.{occupied_docks}
use Rattle.bike_laws.proofs.SingleSteps.MapLemmas.{number_order}
use Rattle.bike_laws.proofs.SingleSteps.CountLemmas.{none_counted}

none_filtered : {A : Type 0} (test : A → Bool) (xs : List A) → ((x : A) → test x ≡ false) → count test xs ≡ 0
none_filtered test [] fails = refl
none_filtered test (x ∷ xs) fails = ap (λ (b : Bool). length (cond b (x ∷ filter test xs) (filter test xs))) (fails x) ∙ none_filtered test xs fails

module _ (s : Operator) (sound : IsSound s) (id : List ℕ) (none : fin.get s.stations id ≡ None) where
  no_dock : (at : List ℕ) (dock : ℕ) → HasDock s at dock → at ≡ id → ⊥
  no_dock at dock has same =
      let there : fin.get s.stations id ≡ Some has.row = ap (fin.get s.stations) (sym same) ∙ has.found in
      let both : ◌≡◌ {A = Option Station} None (Some has.row) = sym none ∙ there in
      absurd cc

  pub none_docked : occupied_docks s id ≡ 0
  none_docked = none_counted number_order (λ (b : Bike). is_working_dock s id b.place) s.bikes (λ k b found. elsewhere k b.type_id b.place (sound.bikes.bikes k b found).placed) where
    elsewhere : (k : ℕ) (kind : List ℕ) (p : Place) → IsPlace s k kind p → is_working_dock s id p ≡ false
    elsewhere k kind (place.Dock at dock) has = go (bytes_eq at id) refl where
      go : (c : Bool) → bytes_eq at id ≡ c → (c && not (is_broken s id dock)) ≡ false
      go true same = absurd (no_dock at dock has ((bytes_eq-Decides at id).0 same))
      go false same = refl
    elsewhere k kind (place.Rental rental) has = refl
    elsewhere k kind (place.Truck truck order) has = refl
    elsewhere k kind place.Depot has = refl

  pub none_broken : (docks : ℕ) → docks_broken s id docks ≡ 0
  none_broken docks = none_filtered (λ n. is_broken s id n) (docks_up_to docks) (λ n. go n (is_broken s id n) refl) where
    go : (n : ℕ) (c : Bool) → is_broken s id n ≡ c → c ≡ false
    go n true marked =
        let b = sound.catalogue.broken (dock_key id n) marked in
        let keys : dock_key id n ≡ dock_key b.station b.dock = b.key_is in
        let same : id ≡ b.station = cc in
        absurd (no_dock b.station b.dock b.has (sym same))
    go n false marked = refl
