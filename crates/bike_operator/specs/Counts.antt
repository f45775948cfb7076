-- Where bicycles are, and how many there are of what: filters and lengths over the records.
use Rattle.std.specs.Prelude.{ℕ, zero, suc, List, [], ◌∷◌, ◌++◌, filter, length, Bool, true, false, not, ◌&&◌, ◌==◌}
use Rattle.std.specs.Prelude.{Option, find, is_none}
use Rattle.std.specs.Str.{bytes_eq}
use Rattle.std.specs.List.{list_any}
use Rattle.std.specs.FinMap as finmap
use Rattle.std.specs.FinSet as finset
use Rattle.bike_operator.specs.declared.records.BikeState.{BikeState}
use Rattle.bike_operator.specs.declared.records.BikeState.TheVariants.{Fit, Disabled, Retired}
use Rattle.bike_operator.specs.declared.records.Place.{Place}
use Rattle.bike_operator.specs.declared.records.Place.TheVariants as place
use Rattle.bike_operator.specs.declared.records.Bike.{Bike}
use Rattle.bike_operator.specs.declared.records.Rental.{Rental}
use Rattle.bike_operator.specs.Operator.{Operator, dock_key}

-- so many pass the test
abbrev pub count : {A : Type 0} → (A → Bool) → List A → ℕ
count test xs = length (filter test xs)

-- ---- places

-- the place is this dock, any dock of this station, on this truck, or on a truck for this order
abbrev pub is_dock : List ℕ → ℕ → Place → Bool
is_dock station n (place.Dock at dock) = bytes_eq at station && (dock == n)
is_dock station n (place.Rental rental) = false
is_dock station n (place.Truck truck order) = false
is_dock station n place.Depot = false

abbrev pub is_at : List ℕ → Place → Bool
is_at station (place.Dock at dock) = bytes_eq at station
is_at station (place.Rental rental) = false
is_at station (place.Truck truck order) = false
is_at station place.Depot = false

abbrev pub is_on_truck : ℕ → Place → Bool
is_on_truck truck (place.Dock at dock) = false
is_on_truck truck (place.Rental rental) = false
is_on_truck truck (place.Truck on order) = on == truck
is_on_truck truck place.Depot = false

abbrev pub is_for_order : ℕ → Place → Bool
is_for_order order (place.Dock at dock) = false
is_for_order order (place.Rental rental) = false
is_for_order order (place.Truck truck for) = for == order
is_for_order order place.Depot = false

abbrev pub is_depot : Place → Bool
is_depot (place.Dock at dock) = false
is_depot (place.Rental rental) = false
is_depot (place.Truck truck order) = false
is_depot place.Depot = true

abbrev pub is_fit : BikeState → Bool
is_fit Fit = true
is_fit Disabled = false
is_fit Retired = false

abbrev pub is_retired : BikeState → Bool
is_retired Fit = false
is_retired Disabled = false
is_retired Retired = true

-- the bicycle in a dock, with its number
abbrev pub docked_at : Operator → List ℕ → ℕ → Option (ℕ × Bike)
docked_at s station n = find (λ b. is_dock station n b.1.place) (finmap.entries s.bikes)

-- ---- docks

abbrev pub is_broken : Operator → List ℕ → ℕ → Bool
is_broken s station n = finset.contains s.broken (dock_key station n)

-- ---- orders and trucks

-- how many bicycles are on a truck, and how many on a truck for an order
abbrev pub truck_load : Operator → ℕ → ℕ
truck_load s truck = count (λ b. is_on_truck truck b.1.place) (finmap.entries s.bikes)

abbrev pub order_load : Operator → ℕ → ℕ
order_load s order = count (λ b. is_for_order order b.1.place) (finmap.entries s.bikes)

-- ---- rentals

abbrev pub is_open : Rental → Bool
is_open r = is_none r.closing

abbrev pub open_rentals : Operator → ℕ
open_rentals s = count is_open s.rentals.items

-- the rider has an open rental
abbrev pub is_riding : Operator → ℕ → Bool
is_riding s rider = list_any (λ r. (r.rider == rider) && is_open r) s.rentals.items

-- ---- counts of a station, as GBFS's `station_status` has them: the count rule

-- A bicycle is available where it is fit and in a dock that isn't broken; in another dock it is disabled.
abbrev pub is_working_dock : Operator → List ℕ → Place → Bool
is_working_dock s station (place.Dock at dock) = bytes_eq at station && not (is_broken s station dock)
is_working_dock s station (place.Rental rental) = false
is_working_dock s station (place.Truck truck order) = false
is_working_dock s station place.Depot = false

abbrev pub is_available : Operator → List ℕ → Bike → Bool
is_available s station b = is_fit b.state && is_working_dock s station b.place

abbrev pub available : Operator → List ℕ → ℕ
available s station = count (λ b. is_available s station b.1) (finmap.entries s.bikes)

abbrev pub available_of : Operator → List ℕ → List ℕ → ℕ
available_of s station type_id =
    count (λ b. bytes_eq b.1.type_id type_id && is_available s station b.1) (finmap.entries s.bikes)

abbrev pub disabled_bikes : Operator → List ℕ → ℕ
disabled_bikes s station =
    count (λ b. is_at station b.1.place && not (is_available s station b.1)) (finmap.entries s.bikes)

-- the docks 1, 2, .. of a station
unfoldable pub docks_up_to : ℕ → List ℕ
docks_up_to zero = []
docks_up_to (suc n) = docks_up_to n ++ suc n ∷ []

-- a dock is available where it is empty and isn't broken
abbrev pub docks_available : Operator → List ℕ → ℕ → ℕ
docks_available s station docks =
    count (λ n. is_none (docked_at s station n) && not (is_broken s station n)) (docks_up_to docks)

abbrev pub docks_broken : Operator → List ℕ → ℕ → ℕ
docks_broken s station docks = count (λ n. is_broken s station n) (docks_up_to docks)
