-- What is read of the fleet, as facts of the operator.
use Rattle.std.specs.Prelude.{◌≡◌, ◌==◌, ℕ, List, Bool, false, not, Option, Some, None, option_map, is_some, unwrap_or}
use Rattle.std.specs.FinMap as map
use Rattle.bike_operator.specs.declared.records.Bike.{Bike}
use Rattle.bike_operator.specs.declared.records.Order.{Order}
use Rattle.bike_operator.specs.Operator.{Operator, Station, item_numbered, dock_key}
use Rattle.bike_operator.specs.Counts.{docks_available, docks_broken, is_broken, order_load, truck_load}
use Rattle.bike_operator.specs.Sound.{IsSound}
use Rattle.bike_operator.specs.View.{station_at}
use Rattle.bike_book.specs.declared.by_type.CountedType.{CountedType}
use Rattle.bike_book.specs.ByType.{types_at}
use Rattle.bike_book.specs.Stored.{Listed}
use Rattle.bike_fleet_reads.specs.declared.stations.DockNumbers.{DockNumbers}
use Rattle.bike_fleet_reads.specs.declared.stations.StationNumbers.{StationNumbers}
use Rattle.bike_fleet_reads.specs.declared.stations.StationRow.{StationRow}
use Rattle.bike_fleet_reads.specs.declared.bikes.NumberedBike.{NumberedBike}
use Rattle.bike_fleet_reads.specs.declared.bikes.TruckLoad.{TruckLoad}

-- the docks of a station that are available, and those that are broken
abbrev pub dock_numbers_of : Operator → List ℕ → Station → DockNumbers
dock_numbers_of s station x =
    record { free = docks_available s station x.row.docks; broken = docks_broken s station x.row.docks }

-- the numbers of a station's docks, with the list of its bicycles by type
abbrev pub numbers_pair : StationNumbers → DockNumbers × List CountedType
numbers_pair n = (n.docks, n.by_type.items)

-- those of a station, and none where it isn't there
abbrev pub station_numbers_at : Operator → List ℕ → Option (DockNumbers × List CountedType)
station_numbers_at s station =
    option_map (λ x. (dock_numbers_of s station x, types_at s station)) (map.get s.stations station)

abbrev pub AreNumbersAt : Operator → List ℕ → Option StationNumbers → Type 0
AreNumbersAt s station numbers = option_map numbers_pair numbers ≡ station_numbers_at s station

-- some dock of a station is broken, by its numbers
abbrev pub has_broken : Option StationNumbers → Bool
has_broken None = false
has_broken (Some n) = not (n.docks.broken == 0)

-- Of each sound operator's station that has these numbers, or isn't there, no dock is broken.
abbrev pub NoDockIsBroken : Option StationNumbers → Type 0
NoDockIsBroken numbers =
    (s : Operator) (station : List ℕ) → IsSound s → AreNumbersAt s station numbers
    → (dock : ℕ) → is_broken s station dock ≡ false

-- a station as a command sees it, and its numbers
pub record IsStationRow (s : Operator) (station : List ℕ) (x : StationRow) : Type 0 where
  pub station_is : x.station ≡ station_at s station
  pub numbers_are : AreNumbersAt s station x.numbers

-- A dock's mark: there where the dock has a row, and whether it is broken. A dock with no row works.
abbrev pub IsMark : Operator → Listed → List ℕ → ℕ → Option Bool → Type 0
IsMark s m station dock mark =
    (is_some mark ≡ map.contains_key m.docks (dock_key station dock))
    × (unwrap_or mark false ≡ is_broken s station dock)

-- a bicycle with its number, as a pair
abbrev pub numbered_pair : NumberedBike → ℕ × Bike
numbered_pair x = (x.number, x.bike)

-- The bicycles on a truck, and those for an order, where that is there and the truck is its own.
abbrev pub IsTruckLoad : Operator → ℕ → ℕ → TruckLoad → Type 0
IsTruckLoad s truck order load =
    (load.all ≡ truck_load s truck)
    × ((row : Order) → item_numbered order s.orders ≡ Some row → row.truck ≡ truck
    → load.for_order ≡ order_load s order)
