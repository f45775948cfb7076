-- The bicycle that a row counts, by the columns of its line.
use Rattle.std.specs.Prelude.{ℕ, ◌+◌, length, nat_le, if◌then◌else◌, Option, Some, None}
use Rattle.sqlite_value.specs.declared.value.Value.{Value}
use Rattle.sqlite_value.specs.Order.{Row, column}
use Rattle.bike_book.specs.declared.columns.bikes.TheConstants as bikes
use Rattle.bike_fields.specs.Caller.{◌>>=◌}
use Rattle.bike_operator.specs.declared.records.Place.{Place}
use Rattle.bike_operator.specs.declared.records.Bike.{Bike}
use Rattle.bike_schema.specs.Columns.{ident_in, state_in}
use Rattle.bike_readings.specs.ColumnReaders.{numbered_in}
use Rattle.bike_readings.specs.ReadOff.{first_place_in, bike_in}

-- the bicycle that a row counts
unfoldable pub counted_in : Row → Option (ℕ × Bike)
counted_in row = bike_in row

-- the bicycle of these columns, at this place
abbrev pub spelled_by : Value → Value → Value → Option Place → Option (ℕ × Bike)
spelled_by number kind condition at = do
  bike ← numbered_in number
  type_id ← ident_in kind
  state ← state_in condition
  place ← at
  Some (bike, record { type_id = type_id; state = state; place = place })

-- the first place that five columns of a line name
abbrev pub place_at : ℕ → Row → Option Place
place_at at line =
    first_place_in (column line at) (column line (at + 1)) (column line (at + 2)) (column line (at + 3))
    (column line (at + 4))

-- the bicycle that the row counts which stands in a line from this column on
abbrev pub counted_at : ℕ → Row → Option (ℕ × Bike)
counted_at first line =
    if nat_le (first + bikes.COLUMNS) (length line)
    then spelled_by (column line first) (column line (first + 1)) (column line (first + 2)) (place_at (first + 3) line)
    else None
