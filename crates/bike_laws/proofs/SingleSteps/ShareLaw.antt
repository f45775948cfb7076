-- What a bicycle adds to the numbers of stations.
use Rattle.std.proofs.Common.{◌≡◌, ◌≢◌, List, ℕ, Bool, true, false, not, ◌&&◌, Some, refl, sym, ap, ◌∙◌}
use Rattle.std.specs.Str.{bytes_eq}
use Rattle.std.proofs.lemmas.Slice.Eq.{bytes_eq-Decides}
use Rattle.bike_operator.specs.declared.records.BikeState.{BikeState}
use Rattle.bike_operator.specs.declared.records.Place.{Place}
use Rattle.bike_operator.specs.declared.records.Place.TheVariants as place
use Rattle.bike_operator.specs.declared.records.Bike.{Bike}
use Rattle.bike_operator.specs.Operator.{Operator}
use Rattle.bike_operator.specs.Counts.{is_at, is_fit, is_broken, is_available, is_working_dock}
use Rattle.bike_laws.specs.SingleSteps.Laws.{one, available_share, disabled_share, occupied_share, Shares, place_shares, IsAway, IsMarkedAt, ShareLaw}
use Rattle.bike_laws.proofs.SingleSteps.StoredTestLemmas.{and_false}

itself : (t : List ℕ) → bytes_eq t t ≡ true
itself t = (bytes_eq-Decides t t).1 refl

other_texts : (a b : List ℕ) → (a ≡ b → ⊥) → bytes_eq a b ≡ false
other_texts a b apart = go (bytes_eq a b) refl where
  go : (c : Bool) → bytes_eq a b ≡ c → c ≡ false
  go true same = absurd (apart ((bytes_eq-Decides a b).0 same))
  go false e = refl

-- ---- a bicycle that isn't at the station, or not of the type

works_at : (s : Operator) (station : List ℕ) (p : Place) → is_at station p ≡ false → is_working_dock s station p ≡ false
works_at s station (place.Dock there dock) h = rw h refl
works_at s station (place.Rental rental) h = refl
works_at s station (place.Truck truck order) h = refl
works_at s station place.Depot h = refl

module _ (s : Operator) (station : List ℕ) (b : Bike) (h : is_at station b.place ≡ false) where
  pub no_occupied : occupied_share s station (Some b) ≡ 0
  no_occupied = ap one (works_at s station b.place h)

  pub no_available : (type_id : List ℕ) → available_share s station type_id (Some b) ≡ 0
  no_available type_id =
      ap (λ (c : Bool). one (bytes_eq b.type_id type_id && (is_fit b.state && c))) (works_at s station b.place h)
      ∙ ap (λ (c : Bool). one (bytes_eq b.type_id type_id && c)) (and_false (is_fit b.state)) ∙ ap one (and_false (bytes_eq b.type_id type_id))

  pub no_disabled : (type_id : List ℕ) → disabled_share s station type_id (Some b) ≡ 0
  no_disabled type_id = ap (λ (c : Bool). one (bytes_eq b.type_id type_id && (c && not (is_available s station b)))) h ∙ ap one (and_false (bytes_eq b.type_id type_id))

module _ (s : Operator) (station type_id : List ℕ) (b : Bike) (h : bytes_eq b.type_id type_id ≡ false) where
  no_available_of : available_share s station type_id (Some b) ≡ 0
  no_available_of = ap (λ (c : Bool). one (c && is_available s station b)) h

  no_disabled_of : disabled_share s station type_id (Some b) ≡ 0
  no_disabled_of = ap (λ (c : Bool). one (c && (is_at station b.place && not (is_available s station b)))) h

-- ---- in no dock

pub away_at : (station : List ℕ) (p : Place) → IsAway p → is_at station p ≡ false
away_at station (place.Dock at dock) h = absurd h
away_at station (place.Rental rental) h = refl
away_at station (place.Truck truck order) h = refl
away_at station place.Depot h = refl

-- ---- in no dock, or in one of a station

module _ (s : Operator) (at : List ℕ) (broken : Bool) where
  not_there : (station : List ℕ) → station ≢ at → (p : Place) → IsMarkedAt s at broken p → is_at station p ≡ false
  not_there station apart (place.Dock there dock) h = other_texts there station (λ e. apart (sym e ∙ h.0))
  not_there station apart (place.Rental rental) h = refl
  not_there station apart (place.Truck truck order) h = refl
  not_there station apart place.Depot h = refl

  pub shares_here : (state : BikeState) (p : Place) → IsMarkedAt s at broken p
      → (record { occupied = one (is_working_dock s at p); available = one (is_fit state && is_working_dock s at p); disabled = one (is_at at p && not (is_fit state && is_working_dock s at p)) })
      ≡ place_shares broken state p
  shares_here state (place.Dock there dock) h =
      let same : bytes_eq there at ≡ true = (bytes_eq-Decides there at).1 h.0 in
      let mark : is_broken s at dock ≡ broken = h.1 in
      rw (same, mark) refl
  shares_here state (place.Rental rental) h = rw (and_false (is_fit state)) refl
  shares_here state (place.Truck truck order) h = rw (and_false (is_fit state)) refl
  shares_here state place.Depot h = rw (and_false (is_fit state)) refl

  module _ (b : Bike) (h : IsMarkedAt s at broken b.place) where
    not_counted : (station type_id : List ℕ) → (station ≡ at → type_id ≢ b.type_id) → (available_share s station type_id (Some b) ≡ 0) × (disabled_share s station type_id (Some b) ≡ 0)
    not_counted station type_id apart = go (bytes_eq b.type_id type_id) refl where
      go : (c : Bool) → bytes_eq b.type_id type_id ≡ c → (available_share s station type_id (Some b) ≡ 0) × (disabled_share s station type_id (Some b) ≡ 0)
      go true same =
          let is : type_id ≡ b.type_id = sym ((bytes_eq-Decides b.type_id type_id).0 same) in
          let away = not_there station (λ e. apart e is) b.place h in
          (no_available s station b away type_id, no_disabled s station b away type_id)
      go false other = (no_available_of s station type_id b other, no_disabled_of s station type_id b other)

    -- A BICYCLE'S SHARES
    pub share_law : ShareLaw s at broken b
    share_law = record {
      occupied = ap (λ (x : Shares). x.occupied) (shares_here b.state b.place h);
      available = ap (λ (c : Bool). one (c && is_available s at b)) (itself b.type_id) ∙ ap (λ (x : Shares). x.available) (shares_here b.state b.place h);
      disabled = ap (λ (c : Bool). one (c && (is_at at b.place && not (is_available s at b)))) (itself b.type_id) ∙ ap (λ (x : Shares). x.disabled) (shares_here b.state b.place h);
      not_occupied = λ station apart. no_occupied s station b (not_there station apart b.place h);
      not_available = λ station type_id apart. (not_counted station type_id apart).0;
      not_disabled = λ station type_id apart. (not_counted station type_id apart).1;
    }
