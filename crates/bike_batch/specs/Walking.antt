-- What the functions owe that write a table, and what holds between two questions to the desk.
use Rattle.std.specs.Prelude.{◌≡◌, ◌≤◌, ℕ, List, IsTrue, false, Option, Result, Ok, Err}
use Rattle.std.specs.Io.KnownBytes.{Keeps, Appends}
use Rattle.sqlite_trees.specs.View.{doubt}
use Rattle.sqlite_trees.specs.declared.store.Store.{Ghosts}
use Rattle.sqlite.specs.State.{HasCleanDisk}
use Rattle.bike_stream.specs.Writing.{AppendsFront}
use Rattle.bike_operator.specs.Operator.{Operator}
use Rattle.bike_schema.specs.Stands.{AllLeft}
use Rattle.bike_desk.specs.Desk.{DeskValue, desk_state, IsAt, OfOperator, KeepsDatabase}
use Rattle.bike_batch.specs.declared.day_fault.DayTableFault.{DayTableFault}
use Rattle.bike_batch.specs.declared.day_fault.DayTableFault.TheVariants.{Day, Write, Desk}
use Rattle.bike_batch.specs.Ends.{AppendsUntil, LeavesDesk}

-- the desk was asked, goes on, and is at the operator at which it was
pub record StaysAt {S : Type 0} (g : Ghosts S) (old new : DeskValue S) : Type 0 where
  pub clean : doubt (desk_state g old).is_clean ≤ doubt (desk_state g new).is_clean
  pub same : HasCleanDisk (desk_state g new) → (s : Operator) → IsAt g old s → IsAt g new s
  pub rests : OfOperator g old new (λ s. KeepsDatabase g old new)
  pub left : HasCleanDisk (desk_state g new) → (s : Operator) → IsAt g old s
      → AllLeft (desk_state g new) (desk_state g old).may_leave
  pub went_on : old.is_stopped ≡ false
  pub goes_on : new.is_stopped ≡ false

-- the text was written: after a failed write a front of it and not
-- all, after a fault of the desk as that tells; no day is refused
abbrev pub WritesText : {A : Type 0} → Option (List ℕ) → Option (List ℕ) → List ℕ → Result A DayTableFault → Type 0
WritesText old new text (Ok x) = Appends old new text
WritesText old new text (Err (Day fault)) = ⊥
WritesText old new text (Err Write) = AppendsFront old new text
WritesText old new text (Err (Desk fault)) = AppendsUntil fault old new text

-- no day is refused
abbrev pub IsOfDay : {A : Type 0} → Result A DayTableFault → Type 0
IsOfDay (Ok x) = Unit {0}
IsOfDay (Err (Day fault)) = ⊥
IsOfDay (Err Write) = Unit {0}
IsOfDay (Err (Desk fault)) = Unit {0}

-- A TABLE of the operator was written from the first question to the desk on
pub record WritesTable {S : Type 0} (g : Ghosts S) (old new : DeskValue S) (before after : Option (List ℕ)) {A : Type 0}
    (result : Result A DayTableFault) (text : Operator → List ℕ) : Type 0 where
  pub desk : LeavesDesk g old new result
  pub wrote : HasCleanDisk (desk_state g new) → (s : Operator) → IsAt g old s → WritesText before after (text s) result
  pub nothing : IsTrue old.is_stopped → Keeps before after
  pub day : IsOfDay result
