-- What is asked of the lines of orders and of bicycles, each with its partners beside it.
use Rattle.std.specs.Prelude.{ℕ, ℤ, ◌+◌, ◌==◌, ◌&&◌, ◌||◌, List, [], ◌∷◌, Bool, true, false, not, nat_lt, nat_le}
use Rattle.std.specs.Prelude.{Option, Some, None, is_some}
use Rattle.std.specs.Str.{bytes_eq}
use Rattle.sqlite_value.specs.Order.{Row, column}
use Rattle.bike_book.specs.declared.columns.types.TheConstants as types
use Rattle.bike_book.specs.declared.columns.stations.TheConstants as stations
use Rattle.bike_book.specs.declared.columns.bikes.TheConstants as bikes
use Rattle.bike_book.specs.declared.columns.trucks.TheConstants as trucks
use Rattle.bike_book.specs.declared.columns.rentals.TheConstants as rentals
use Rattle.bike_book.specs.declared.columns.orders.TheConstants as orders
use Rattle.bike_catalogue.specs.Rows.{TypeRow}
use Rattle.bike_texts.specs.declared.ends.OrderEnd.{OrderEnd}
use Rattle.bike_texts.specs.declared.ends.OrderEnd.TheVariants as end
use Rattle.bike_operator.specs.declared.limits.TheConstants.{MOST_ORDERS, MOST_BIKES}
use Rattle.bike_operator.specs.declared.records.BikeState.{BikeState}
use Rattle.bike_operator.specs.declared.records.Place.{Place}
use Rattle.bike_operator.specs.declared.records.Place.TheVariants as place
use Rattle.bike_operator.specs.declared.records.Bike.{Bike}
use Rattle.bike_operator.specs.declared.records.Rental.{Rental}
use Rattle.bike_operator.specs.declared.records.Order.{Order}
use Rattle.bike_operator.specs.Operator.{Station, Truck}
use Rattle.bike_operator.specs.Counts.{is_open, is_retired, is_depot}
use Rattle.bike_operator.specs.Steps.{is_same_end}
use Rattle.bike_readings.specs.Readings.{type_read, station_read, bike_read, truck_read, rental_read, order_read}
use Rattle.bike_judges.specs.Lines.{part}

-- the first column, which is the key
abbrev pub first_key : Row → Row
first_key line = column line 0 ∷ []

-- ---- orders

-- the truck is there, and holds so many bicycles
abbrev pub holds : ℕ → Option (ℕ × Truck) → Bool
holds count None = false
holds count (Some x) = nat_le count x.1.capacity

-- the order before which so many stand: its number, its truck and its type
abbrev pub is_order_named : ℕ → Option (ℕ × Order) → Option (ℕ × Truck) → Option (List ℕ × TypeRow) → Bool
is_order_named below None truck kind = false
is_order_named below (Some x) truck kind =
    (x.0 == below + 1) && (nat_lt below MOST_ORDERS && (holds x.1.count truck && is_some kind))

unfoldable pub order_names : ℕ → Row → Bool
order_names below line =
    is_order_named below (order_read (part 0 orders.COLUMNS line))
    (truck_read (part orders.COLUMNS trucks.COLUMNS line))
    (type_read (part (orders.COLUMNS + trucks.COLUMNS) types.COLUMNS line))

-- the end is the depot, or a station that is there
abbrev pub is_end_there : OrderEnd → Option (List ℕ × Station × ℤ × ℕ × List ℕ) → Bool
is_end_there end.Depot station = true
is_end_there (end.Station id) station = is_some station

-- the ends of the order
abbrev pub are_ends_there : Option (ℕ × Order) → Option (List ℕ × Station × ℤ × ℕ × List ℕ)
    → Option (List ℕ × Station × ℤ × ℕ × List ℕ) → Bool
are_ends_there None from to = false
are_ends_there (Some x) from to =
    is_end_there x.1.from_end from && (is_end_there x.1.to_end to && not (is_same_end x.1.from_end x.1.to_end))

unfoldable pub order_ends : ℕ → Row → Bool
order_ends below line =
    are_ends_there (order_read (part 0 orders.COLUMNS line)) (station_read (part orders.COLUMNS stations.COLUMNS line))
    (station_read (part (orders.COLUMNS + stations.COLUMNS) stations.COLUMNS line))

-- ---- bicycles

-- the station is there, and has the dock
abbrev pub has_dock : ℕ → Option (List ℕ × Station × ℤ × ℕ × List ℕ) → Bool
has_dock dock None = false
has_dock dock (Some x) = nat_le dock x.1.row.docks

-- a dock in which the bicycle is
abbrev pub is_dock_there : Place → Option (List ℕ × Station × ℤ × ℕ × List ℕ) → Bool
is_dock_there (place.Dock station dock) found = has_dock dock found
is_dock_there (place.Rental rental) found = true
is_dock_there (place.Truck truck order) found = true
is_dock_there place.Depot found = true

-- a retired bicycle is in the depot
abbrev pub is_where_retired : BikeState → Place → Bool
is_where_retired state at = not (is_retired state) || is_depot at

-- the bicycle before which so many stand: its type, its dock and its state
abbrev pub is_bike_named : ℕ → Option (ℕ × Bike) → Option (List ℕ × TypeRow)
    → Option (List ℕ × Station × ℤ × ℕ × List ℕ) → Bool
is_bike_named below None kind station = false
is_bike_named below (Some x) kind station =
    nat_lt below MOST_BIKES && (is_some kind && (is_dock_there x.1.place station
    && is_where_retired x.1.state x.1.place))

unfoldable pub bike_names : ℕ → Row → Bool
bike_names below line =
    is_bike_named below (bike_read (part 0 bikes.COLUMNS line)) (type_read (part bikes.COLUMNS types.COLUMNS line))
    (station_read (part (bikes.COLUMNS + types.COLUMNS) stations.COLUMNS line))

-- the open rental of the bicycle
abbrev pub is_ridden : ℕ → Option (ℕ × Rental × ℤ) → Bool
is_ridden bike None = false
is_ridden bike (Some x) = is_open x.1 && (x.1.bike == bike)

-- an open order of the truck, and of the type
abbrev pub is_carried : List ℕ → ℕ → Option (ℕ × Order) → Bool
is_carried type_id truck None = false
is_carried type_id truck (Some x) = x.1.is_open && ((x.1.truck == truck) && bytes_eq x.1.type_id type_id)

abbrev pub is_used : ℕ → List ℕ → Place → Option (ℕ × Rental × ℤ) → Option (ℕ × Order) → Bool
is_used bike type_id (place.Dock station dock) rental order = true
is_used bike type_id (place.Rental number) rental order = is_ridden bike rental
is_used bike type_id (place.Truck truck number) rental order = is_carried type_id truck order
is_used bike type_id place.Depot rental order = true

-- what the bicycle is in
abbrev pub is_bike_used : Option (ℕ × Bike) → Option (ℕ × Rental × ℤ) → Option (ℕ × Order) → Bool
is_bike_used None rental order = false
is_bike_used (Some x) rental order = is_used x.0 x.1.type_id x.1.place rental order

unfoldable pub bike_uses : ℕ → Row → Bool
bike_uses below line =
    is_bike_used (bike_read (part 0 bikes.COLUMNS line)) (rental_read (part bikes.COLUMNS rentals.COLUMNS line))
    (order_read (part (bikes.COLUMNS + rentals.COLUMNS) orders.COLUMNS line))

-- a truck on which the bicycle is
abbrev pub is_truck_there : Place → Option (ℕ × Truck) → Bool
is_truck_there (place.Dock station dock) found = true
is_truck_there (place.Rental rental) found = true
is_truck_there (place.Truck truck order) found = is_some found
is_truck_there place.Depot found = true

-- what the bicycle is on
abbrev pub is_bike_borne : Option (ℕ × Bike) → Option (ℕ × Truck) → Bool
is_bike_borne None truck = false
is_bike_borne (Some x) truck = is_truck_there x.1.place truck

unfoldable pub bike_trucks : ℕ → Row → Bool
bike_trucks below line =
    is_bike_borne (bike_read (part 0 bikes.COLUMNS line)) (truck_read (part bikes.COLUMNS trucks.COLUMNS line))
