-- Bicycles in docks, of whatever rows: the dock that a row names first.
use Rattle.std.specs.Prelude.{ℕ, ◌+◌, List, Bool, ◌&&◌, nat_le, length, if◌then◌else◌, Option, Some, None, is_some}
use Rattle.std.specs.Prelude.{option_map, option_and_then}
use Rattle.sqlite_value.specs.declared.value.Value.{Value}
use Rattle.sqlite_value.specs.Order.{Row, column}
use Rattle.bike_operator.specs.declared.records.Bike.{Bike}
use Rattle.bike_operator.specs.declared.records.BikeState.{BikeState}
use Rattle.bike_operator.specs.declared.records.Place.{Place}
use Rattle.bike_operator.specs.declared.records.Place.TheVariants as place
use Rattle.bike_operator.specs.Counts.{is_fit}
use Rattle.bike_book.specs.declared.columns.bikes.TheConstants as bikes
use Rattle.bike_schema.specs.Columns.{state_in, ident_in, or_none}
use Rattle.bike_readings.specs.ColumnReaders.{numbered_in, dock_in, serial_in}
use Rattle.bike_readings.specs.ReadOff.{bike_in}

-- the number of the dock
abbrev pub dock_of : Place → Option ℕ
dock_of (place.Dock station dock) = Some dock
dock_of (place.Rental rental) = None
dock_of (place.Truck truck order) = None
dock_of place.Depot = None

-- A bicycle in a dock: the number of that, its type, and whether it can be rented where the dock works.
pub record Docked : Type 0 where
  pub dock : ℕ
  pub type_id : List ℕ
  pub is_fit : Bool

abbrev pub docked_with : List ℕ → BikeState → Option ℕ → Option Docked
docked_with type_id state dock = option_map (λ n. record { dock = n; type_id = type_id; is_fit = is_fit state }) dock

abbrev pub docked : Bike → Option Docked
docked b = docked_with b.type_id b.state (dock_of b.place)

-- the bicycle of a row, where it is in a dock
abbrev pub docked_in : Row → Option Docked
docked_in row = option_and_then (λ (e : ℕ × Bike). docked e.1) (bike_in row)

-- ---- by columns

-- each of the columns of a rental, a truck and an order is NULL or keeps its bounds
abbrev pub keep_bounds : Value → Value → Value → Bool
keep_bounds rental truck order =
    is_some (or_none serial_in rental) && (is_some (or_none numbered_in truck) && is_some (or_none serial_in order))

-- the dock that the columns of a place name first
abbrev pub dock_named : Value → Value → Value → Value → Value → Option ℕ
dock_named station dock rental truck order =
    if is_some (ident_in station) && keep_bounds rental truck order then dock_in dock else None

-- the bicycle in a dock of these parts, and none where one is missing
abbrev pub docked_parts : Option (List ℕ) → Option BikeState → Option ℕ → Option Docked
docked_parts type_id state dock =
    option_and_then (λ ty. option_and_then (λ s. docked_with ty s dock) state) type_id

-- the bicycle in a dock of the columns of a line from the fourth on
abbrev pub docked_columns : Row → Option Docked
docked_columns line =
    if nat_le (3 + bikes.COLUMNS) (length line) && is_some (numbered_in (column line (3 + bikes.BIKE)))
    then docked_parts (ident_in (column line (3 + bikes.TYPE_ID))) (state_in (column line (3 + bikes.STATE)))
    (dock_named (column line (3 + bikes.STATION_ID)) (column line (3 + bikes.DOCK)) (column line (3 + bikes.RENTAL))
    (column line (3 + bikes.TRUCK)) (column line (3 + bikes.ORD))) else None
