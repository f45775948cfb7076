-- What is told of a day's table over a desk.
use Rattle.std.proofs.Common.{◌≡◌, ℕ, List, Option, Result, Ok, Err, refl, sym, subst}
use Rattle.sqlite_trees.specs.declared.store.Store.{Ghosts}
use Rattle.sqlite.specs.State.{HasCleanDisk}
use Rattle.bike_operator.specs.Operator.{Operator}
use Rattle.bike_desk.specs.Desk.{DeskValue, desk_state, IsAt}
use Rattle.bike_desk.specs.declared.fault.DeskFault.TheVariants.{NoMemory, StoreFailed, Stopped}
use Rattle.bike_day_texts.specs.declared.table.DayTable.{DayTable}
use Rattle.bike_batch.specs.declared.day_fault.DayTableFault.{DayTableFault}
use Rattle.bike_batch.specs.declared.day_fault.DayTableFault.TheVariants.{Day, Write, Desk}
use Rattle.bike_batch.specs.Ends.{EndsByDay, WritesDay, LeavesDesk}
use Rattle.bike_console.specs.declared.end.Fault.TheVariants as fault
use Rattle.bike_app.specs.Days.{ReportsAt, table_end}

module _ {S : Type 0} (g : Ghosts S) (old new : DeskValue S) (s : Operator) (clean : HasCleanDisk (desk_state g new)) (at : IsAt g old s) where
  desk_at : (result : Result (Unit {0}) DayTableFault) → LeavesDesk g old new result → (table_end result ≡ Err fault.StoreFailed → ⊥) → IsAt g new s
  desk_at (Ok u) leaves other = leaves.same clean s at
  desk_at (Err (Day refused)) leaves other = subst (λ (d : DeskValue S). IsAt g d s) (sym (leaves.day refused refl)) at
  desk_at (Err Write) leaves other = leaves.write clean s at refl
  desk_at (Err (Desk NoMemory)) leaves other = leaves.no_memory clean s at refl
  desk_at (Err (Desk StoreFailed)) leaves other = absurd (other refl)
  desk_at (Err (Desk Stopped)) leaves other = absurd (other refl)

  pub reported_at : (table : DayTable) (date zone : List ℕ) (a b : Option (List ℕ)) (result : Result (Unit {0}) DayTableFault) → LeavesDesk g old new result
      → EndsByDay date zone a b result → WritesDay s table date zone a b result → ReportsAt table date zone g new s a b (table_end result)
  reported_at table date zone a b result leaves day wrote =
      record { told = record { result = result; told = refl; day = day; written = wrote }; at = desk_at result leaves }
