-- Rows of which a column lies between two values, both among them.
use Rattle.std.specs.Prelude.{◌&&◌, not, ℕ, List, [], Bool, filter}
use Rattle.std.specs.Ordering.{is_lt, is_le}
use Rattle.sqlite_value.specs.declared.value.Value.{Value}
use Rattle.sqlite_value.specs.declared.value.Value.TheVariants.{Text, Blob}
use Rattle.sqlite_value.specs.Order.{Row, column, value_cmp}

-- the value is neither below the one nor above the other
abbrev pub is_within : Value → Value → Value → Bool
is_within from to v = not (is_lt (value_cmp v from)) && is_le (value_cmp v to)

-- the rows whose first column is
abbrev pub rows_within : Value → Value → List Row → List Row
rows_within from to = filter (λ row. is_within from to (column row 0))

-- those from a text on: each text is below an empty blob
abbrev pub rows_from : List ℕ → List Row → List Row
rows_from start = rows_within (Text start) (Blob [])
