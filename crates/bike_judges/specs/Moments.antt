-- The rows that tell the operator's moment, and what they tell.
use Rattle.std.specs.Prelude.{ℕ, [], ◌∷◌, slice_get, Option, option_map, option_and_then}
use Rattle.sqlite_value.specs.Order.{Row, column}
use Rattle.bike_sql.specs.View.{row_with, last_of}
use Rattle.bike_book.specs.Tables.{Tables}
use Rattle.bike_book.specs.Rows.{number_value}
use Rattle.bike_schema.specs.Columns.{moment_in}
use Rattle.bike_readings.specs.Readings.{meta_read}

-- row 1 of meta, and the moment that it spells
abbrev pub meta_row_in : Tables → Option Row
meta_row_in t = row_with 1 (number_value 1 ∷ []) t.meta

abbrev pub since_in : Option Row → Option ℕ
since_in row = option_map (λ e. e.1) (option_and_then meta_read row)

-- the last row of the history, and the moment in it
abbrev pub last_row_in : Tables → Option Row
last_row_in t = slice_get (last_of t.history) 0

abbrev pub last_in : Option Row → Option ℕ
last_in row = option_and_then (λ row. moment_in (column row 1)) row
