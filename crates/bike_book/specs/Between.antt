-- The tables between two row changes of one request, and the writes that lead from such tables to the next.
use Rattle.std.specs.Prelude.{◌≡◌, ◌+◌, ◌-ℤ◌, ℕ, ℤ, pos, List, map}
use Rattle.std.specs.FinMap as fin
use Rattle.sqlite_value.specs.Order.{Row}
use Rattle.bike_operator.specs.Operator.{Operator, Station}
use Rattle.bike_operator.specs.Counts.{docks_broken}
use Rattle.bike_laws.specs.SingleSteps.Numbers.{occupied_docks}
use Rattle.bike_book.specs.declared.row_change.RowChange.{RowChange}
use Rattle.bike_book.specs.Tables.{Tables}
use Rattle.bike_book.specs.Rows.{station_row}
use Rattle.bike_book.specs.ByType.{types_at, by_type_text}
use Rattle.bike_book.specs.Stored.{Listed, IsListing, tables_for}
use Rattle.bike_book.specs.Writes.{RowWrite, writes_of, tables_after_all}

-- A station's docks less those that work and hold a bicycle and those
-- that are broken. In a sound operator these are its docks available.
abbrev pub docks_left : Operator → List ℕ → ℕ → ℤ
docks_left s station docks = pos docks -ℤ pos (occupied_docks s station + docks_broken s station docks)

abbrev pub counted_station : Operator → List ℕ × Station → Row
counted_station s e =
    station_row e.0 e.1 (docks_left s e.0 e.1.row.docks) (docks_broken s e.0 e.1.row.docks)
    (by_type_text (types_at s e.0))

-- An operator need not be sound between two changes of a request: then
-- its tables have the docks left in place of the docks available.
abbrev pub tables_between : Operator → Listed → Tables
tables_between s m = record (tables_for s m) { stations = map (counted_station s) (fin.entries s.stations) }

-- The writes lead from the one operator to the next, whose rows are listed right, both read between two changes.
pub record Leads (writes : List RowWrite) (s : Operator) (m : Listed) (next : Operator) (w : Listed) : Type 0 where
  pub leads : tables_after_all writes (tables_between s m) ≡ tables_between next w
  pub listing : IsListing next w

-- those of row changes
abbrev pub Books : List RowChange → Operator → Listed → Operator → Listed → Type 0
Books changes = Leads (writes_of changes)
