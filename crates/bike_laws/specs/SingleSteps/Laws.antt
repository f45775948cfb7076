-- What one bicycle adds to the numbers of a station, and how they change when it is put somewhere or a dock is marked.
use Rattle.std.specs.Prelude.{◌≡◌, ◌≢◌, ℕ, ◌+◌, ◌≤◌, List, Bool, not, ◌&&◌, if◌then◌else◌, Option, Some, None, is_none}
use Rattle.std.specs.Prelude.{option_map}
use Rattle.std.specs.FinMap as map
use Rattle.std.specs.FinSet as set
use Rattle.bike_operator.specs.declared.records.BikeState.{BikeState}
use Rattle.bike_operator.specs.declared.records.Place.{Place}
use Rattle.bike_operator.specs.declared.records.Place.TheVariants as place
use Rattle.bike_operator.specs.declared.records.Bike.{Bike}
use Rattle.bike_operator.specs.Operator.{Operator, Station, dock_key}
use Rattle.bike_operator.specs.Counts.{is_fit, is_broken, is_working_dock, docked_at, available_of, docks_available}
use Rattle.bike_operator.specs.Counts.{docks_broken}
use Rattle.bike_laws.specs.SingleSteps.Numbers.{is_available_of, is_disabled_of, disabled_of, occupied_docks}

-- 1 for what passes
abbrev pub one : Bool → ℕ
one passes = if passes then 1 else 0

-- a number falls by what was added and grows by what is added now
abbrev pub IsMoved : ℕ → ℕ → ℕ → ℕ → Type 0
IsMoved old new less more = new + less ≡ old + more

-- ---- what one bicycle adds, as the counts have it

-- what a bicycle, where there is one, adds to the count of those that pass a test
abbrev pub share : (Bike → Bool) → Option Bike → ℕ
share test None = 0
share test (Some b) = one (test b)

-- to the bicycles of a type that can be rented at a station,
-- to those that can't, and to its working docks that hold one
abbrev pub available_share : Operator → List ℕ → List ℕ → Option Bike → ℕ
available_share s station type_id = share (is_available_of s station type_id)

abbrev pub disabled_share : Operator → List ℕ → List ℕ → Option Bike → ℕ
disabled_share s station type_id = share (is_disabled_of s station type_id)

abbrev pub occupied_share : Operator → List ℕ → Option Bike → ℕ
occupied_share s station = share (λ b. is_working_dock s station b.place)

-- ---- what one bicycle adds, by its state and place

pub record Shares : Type 0 where
  pub occupied : ℕ
  pub available : ℕ
  pub disabled : ℕ

abbrev pub no_shares : Shares
no_shares = record { occupied = 0; available = 0; disabled = 0 }

-- in a dock that is broken, or works
abbrev pub dock_shares : Bool → BikeState → Shares
dock_shares broken state = record {
  occupied = one (not broken);
  available = one (is_fit state && not broken);
  disabled = one (not (is_fit state && not broken));
}

-- in a place: where it is a dock, one that is broken, or works
abbrev pub place_shares : Bool → BikeState → Place → Shares
place_shares broken state (place.Dock station dock) = dock_shares broken state
place_shares broken state (place.Rental rental) = no_shares
place_shares broken state (place.Truck truck order) = no_shares
place_shares broken state place.Depot = no_shares

-- the place is no dock
abbrev pub IsAway : Place → Type 0
IsAway (place.Dock station dock) = ⊥
IsAway (place.Rental rental) = Unit {0}
IsAway (place.Truck truck order) = Unit {0}
IsAway place.Depot = Unit {0}

-- the place is no dock, or a dock of this station that is broken, or works
abbrev pub IsMarkedAt : Operator → List ℕ → Bool → Place → Type 0
IsMarkedAt s at broken (place.Dock station dock) = (station ≡ at) × (is_broken s at dock ≡ broken)
IsMarkedAt s at broken (place.Rental rental) = Unit {0}
IsMarkedAt s at broken (place.Truck truck order) = Unit {0}
IsMarkedAt s at broken place.Depot = Unit {0}

-- A BICYCLE'S SHARES: it adds to the numbers of its station and type alone.
pub record ShareLaw (s : Operator) (at : List ℕ) (broken : Bool) (b : Bike) : Type 0 where
  pub occupied : occupied_share s at (Some b) ≡ (place_shares broken b.state b.place).occupied
  pub available : available_share s at b.type_id (Some b) ≡ (place_shares broken b.state b.place).available
  pub disabled : disabled_share s at b.type_id (Some b) ≡ (place_shares broken b.state b.place).disabled
  pub not_occupied : (station : List ℕ) → station ≢ at → occupied_share s station (Some b) ≡ 0
  pub not_available : (station type_id : List ℕ) → (station ≡ at → type_id ≢ b.type_id)
      → available_share s station type_id (Some b) ≡ 0
  pub not_disabled : (station type_id : List ℕ) → (station ≡ at → type_id ≢ b.type_id)
      → disabled_share s station type_id (Some b) ≡ 0

-- ---- docks

-- the bicycle in a dock
abbrev pub docked_bike : Operator → List ℕ → ℕ → Option Bike
docked_bike s station dock = option_map (λ b. b.1) (docked_at s station dock)

-- the dock works and is empty
abbrev pub is_free : Operator → List ℕ → ℕ → Bool
is_free s station dock = is_none (docked_at s station dock) && not (is_broken s station dock)

-- the station is there, with so many docks
pub record HasDocks (s : Operator) (station : List ℕ) (docks : ℕ) : Type 0 where
  pub row : Station
  pub found : map.get s.stations station ≡ Some row
  pub docks_are : row.row.docks ≡ docks

-- ---- a bicycle put

-- The next operator has this bicycle under its number, whatever
-- was there. Other bicycles and the broken docks are the same.
pub record HasPut (s next : Operator) (number : ℕ) (b : Bike) : Type 0 where
  pub bikes : next.bikes ≡ map.insert s.bikes number b
  pub broken : next.broken ≡ s.broken

-- A BICYCLE PUT: the numbers fall by what it added, and grow by what it adds now.
pub record PutLaw (s next : Operator) (number : ℕ) (b : Bike) : Type 0 where
  pub available : (station type_id : List ℕ)
      → IsMoved (available_of s station type_id) (available_of next station type_id)
      (available_share s station type_id (map.get s.bikes number)) (available_share s station type_id (Some b))
  pub disabled : (station type_id : List ℕ) → IsMoved (disabled_of s station type_id) (disabled_of next station type_id)
      (disabled_share s station type_id (map.get s.bikes number)) (disabled_share s station type_id (Some b))
  pub occupied : (station : List ℕ) → IsMoved (occupied_docks s station) (occupied_docks next station)
      (occupied_share s station (map.get s.bikes number)) (occupied_share s station (Some b))
  pub broken : (station : List ℕ) (docks : ℕ) → docks_broken next station docks ≡ docks_broken s station docks

-- its docks that are available, of which a bicycle in a working dock takes one
abbrev pub PutDocksLaw : Operator → Operator → ℕ → Bike → Type 0
PutDocksLaw s next number b =
    (station : List ℕ) (docks : ℕ) → HasDocks s station docks → HasDocks next station docks
    → IsMoved (docks_available s station docks) (docks_available next station docks)
    (occupied_share s station (Some b)) (occupied_share s station (map.get s.bikes number))

-- ---- a dock marked

-- In the next operator this dock is broken, or works. The other docks and the bicycles are the same.
pub record HasMarked (s next : Operator) (station : List ℕ) (dock : ℕ) (broken : Bool) : Type 0 where
  pub bikes : next.bikes ≡ s.bikes
  pub marks : next.broken ≡ (if broken then set.insert s.broken (dock_key station dock)
      else set.remove s.broken (dock_key station dock))

-- A DOCK MARKED: the numbers fall by what the dock and the bicycle in it added, and grow by what they add now.
pub record MarkLaw (s next : Operator) (at : List ℕ) (dock : ℕ) (broken : Bool) : Type 0 where
  pub mark : is_broken next at dock ≡ broken
  pub available : (station type_id : List ℕ)
      → IsMoved (available_of s station type_id) (available_of next station type_id)
      (available_share s station type_id (docked_bike s at dock))
      (available_share next station type_id (docked_bike s at dock))
  pub disabled : (station type_id : List ℕ) → IsMoved (disabled_of s station type_id) (disabled_of next station type_id)
      (disabled_share s station type_id (docked_bike s at dock))
      (disabled_share next station type_id (docked_bike s at dock))
  pub occupied : (station : List ℕ) → IsMoved (occupied_docks s station) (occupied_docks next station)
      (occupied_share s station (docked_bike s at dock)) (occupied_share next station (docked_bike s at dock))
  pub free_docks : (docks : ℕ) → 1 ≤ dock → dock ≤ docks
      → IsMoved (docks_available s at docks) (docks_available next at docks) (one (is_free s at dock))
      (one (is_free next at dock))
  pub broken_docks : (docks : ℕ) → 1 ≤ dock → dock ≤ docks
      → IsMoved (docks_broken s at docks) (docks_broken next at docks) (one (is_broken s at dock)) (one broken)
  pub other_docks : (station : List ℕ) (docks : ℕ) → station ≢ at
      → (docks_available next station docks ≡ docks_available s station docks)
      × (docks_broken next station docks ≡ docks_broken s station docks)
