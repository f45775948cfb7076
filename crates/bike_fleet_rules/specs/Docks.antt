-- Bicycles that stand in docks, one line after the other: the least number of one that isn't the first in its dock.
use Rattle.std.specs.Prelude.{ℕ, ◌==◌, ◌&&◌, List, [], ◌∷◌, Bool, false, if◌then◌else◌, nat_lt, Option, Some, None}
use Rattle.std.specs.Prelude.{is_some}
use Rattle.std.specs.List.{filter_map}
use Rattle.std.specs.Str.{bytes_eq}
use Rattle.sqlite_value.specs.Order.{Row, column}
use Rattle.bike_book.specs.declared.columns.bikes.TheConstants as bikes
use Rattle.bike_operator.specs.declared.records.Place.{Place}
use Rattle.bike_operator.specs.declared.records.Place.TheVariants as place
use Rattle.bike_operator.specs.declared.records.Bike.{Bike}
use Rattle.bike_book.specs.Rows.{number_value}
use Rattle.bike_schema.specs.Columns.{number_in}
use Rattle.bike_judges.specs.Lines.{part}
use Rattle.bike_fleet_rules.specs.Counted.{counted_in}

-- a bicycle in a dock of a station
pub record Docked : Type 0 where
  pub bike : ℕ
  pub station : List ℕ
  pub dock : ℕ

abbrev pub docked_at : ℕ → Place → Option Docked
docked_at bike (place.Dock station dock) = Some (record { bike = bike; station = station; dock = dock })
docked_at bike (place.Rental rental) = None
docked_at bike (place.Truck truck order) = None
docked_at bike place.Depot = None

abbrev pub docked_of : Option (ℕ × Bike) → Option Docked
docked_of None = None
docked_of (Some e) = docked_at e.0 e.1.place

-- the line is a bicycle's: 1 stands in its third column
abbrev pub is_bike_line : Row → Bool
is_bike_line line = is_some (number_in 1 1 (column line 2))

-- the bicycle of a line
abbrev pub counted_line : Row → Option (ℕ × Bike)
counted_line line = if is_bike_line line then counted_in (part 4 bikes.COLUMNS line) else None

-- .. where it is counted in a dock
unfoldable pub docked_in : Row → Option Docked
docked_in line = docked_of (counted_line line)

-- the one before is in the same dock
abbrev pub is_shared : Option Docked → Docked → Bool
is_shared None d = false
is_shared (Some x) d = bytes_eq x.station d.station && (x.dock == d.dock)

abbrev pub shared_by : Option Docked → Option Docked → Bool
shared_by last None = false
shared_by last (Some d) = is_shared last d

-- the place is this dock
abbrev pub is_this_dock : List ℕ → ℕ → Place → Bool
is_this_dock station dock p = shared_by (Some (record { bike = 0; station = station; dock = dock })) (docked_at 0 p)

-- the places are one dock
abbrev pub is_one_dock : Place → Place → Bool
is_one_dock p q = shared_by (docked_at 0 p) (docked_at 0 q)

abbrev pub is_dock : Place → Bool
is_dock p = is_some (docked_at 0 p)

abbrev pub lesser_number : Option ℕ → ℕ → Option ℕ
lesser_number None n = Some n
lesser_number (Some m) n = if nat_lt n m then Some n else Some m

-- the least number so far
abbrev pub found_with : Option Docked → Option ℕ → Docked → Option ℕ
found_with last found d = if is_shared last d then lesser_number found d.bike else found

-- after this one, with the least number that was found so far
unfoldable pub shared_pass : Option Docked → Option ℕ → List Docked → Option ℕ
shared_pass last found [] = found
shared_pass last found (d ∷ ds) = shared_pass (Some d) (found_with last found d) ds

unfoldable pub dock_pass : Option Docked → Option ℕ → List Row → Option ℕ
dock_pass last found lines = shared_pass last found (filter_map docked_in lines)

abbrev pub number_row : ℕ → Row
number_row n = number_value n ∷ []
