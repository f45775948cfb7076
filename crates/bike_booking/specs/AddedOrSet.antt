-- The row of a dock, which is added where there is none and else set, and what is listed then.
use Rattle.std.specs.Prelude.{ℕ, List, Bool, if◌then◌else◌}
use Rattle.std.specs.Borrow.{Bor}
use Rattle.std.specs.FinMap as map
use Rattle.bike_operator.specs.Operator.{dock_key}
use Rattle.bike_book.specs.declared.row_change.RowChange.{RowChange}
use Rattle.bike_book.specs.declared.row_change.RowChange.TheVariants as row
use Rattle.bike_book.specs.Stored.{Listed}

abbrev pub dock_change : Listed → Bor (List ℕ) → ℕ → Bool → RowChange
dock_change m station dock broken =
    if map.contains_key m.docks (dock_key station.now dock) then row.SetDock station dock broken
    else row.AddDock station dock broken

-- what is listed then
abbrev pub with_dock : List ℕ → ℕ → Listed → Listed
with_dock station dock m = record m { docks = map.insert m.docks (dock_key station dock) tt }
