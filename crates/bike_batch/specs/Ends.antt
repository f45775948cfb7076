-- What a day's table owes at its end.
use Rattle.std.specs.Prelude.{◌≡◌, ◌≤◌, ℕ, List, take, IsTrue, false, Option, Result, Ok, Err, OnOk}
use Rattle.std.specs.Io.KnownBytes.{Keeps, Appends}
use Rattle.sqlite_trees.specs.View.{doubt}
use Rattle.sqlite_trees.specs.declared.store.Store.{Ghosts}
use Rattle.sqlite.specs.State.{HasCleanDisk}
use Rattle.bike_fixed.specs.declared.day.DayFault.{DayFault}
use Rattle.bike_fixed.specs.declared.day.DayFault.TheVariants as day
use Rattle.bike_fixed.specs.Day.{NamesDate, date_parts, HasBadZone, IsOutOfRange, HasBounds}
use Rattle.bike_stream.specs.Writing.{AppendsFront}
use Rattle.bike_operator.specs.Operator.{Operator}
use Rattle.bike_schema.specs.Stands.{AllLeft}
use Rattle.bike_desk.specs.declared.fault.DeskFault.{DeskFault}
use Rattle.bike_desk.specs.declared.fault.DeskFault.TheVariants.{NoMemory, StoreFailed, Stopped}
use Rattle.bike_desk.specs.Desk.{DeskValue, desk_state, IsAt, KeepsWhereGoing}
use Rattle.bike_day_texts.specs.declared.table.DayTable.{DayTable}
use Rattle.bike_batch.specs.declared.day_fault.DayTableFault.{DayTableFault}
use Rattle.bike_batch.specs.declared.day_fault.DayTableFault.TheVariants.{Day, Write, Desk}
use Rattle.bike_batch.specs.Days.{span_text}

-- ---- the day

-- date and zone name a day that has bounds
abbrev pub HasDay : List ℕ → List ℕ → Type 0
HasDay date zone = (begin : ℕ) × (until : ℕ) × HasBounds date zone begin until

-- they name none, for this reason; want of memory is never one
abbrev pub IsRefused : List ℕ → List ℕ → DayFault → Type 0
IsRefused date zone day.BadDate = NamesDate (date_parts date) → ⊥
IsRefused date zone day.BadZone = HasBadZone date zone
IsRefused date zone day.OutOfRange = IsOutOfRange date zone
IsRefused date zone day.NoMemory = ⊥

-- A day is refused for a true reason, and then nothing was written; at every other end there is one.
abbrev pub EndsByDay : {A : Type 0} → List ℕ → List ℕ → Option (List ℕ) → Option (List ℕ) → Result A DayTableFault
    → Type 0
EndsByDay date zone old new (Ok x) = HasDay date zone
EndsByDay date zone old new (Err (Day fault)) = IsRefused date zone fault × Keeps old new
EndsByDay date zone old new (Err Write) = HasDay date zone
EndsByDay date zone old new (Err (Desk fault)) = HasDay date zone

-- ---- what was written

-- known bytes grow by a front of these, or by all of them
abbrev pub AppendsSome : Option (List ℕ) → Option (List ℕ) → List ℕ → Type 0
AppendsSome old new text = (k : ℕ) × Appends old new (take k text)

-- after a fault of the desk they grow by a front of these, or by all; where memory was refused for a line, not by all
abbrev pub AppendsUntil : DeskFault → Option (List ℕ) → Option (List ℕ) → List ℕ → Type 0
AppendsUntil NoMemory old new text = AppendsFront old new text
AppendsUntil StoreFailed old new text = AppendsSome old new text
AppendsUntil Stopped old new text = AppendsSome old new text

-- it is so of the bounds of the day
abbrev pub OfDay : List ℕ → List ℕ → (ℕ → ℕ → Type 0) → Type 0
OfDay date zone says = (begin : ℕ) × (until : ℕ) × HasBounds date zone begin until × says begin until

-- THE DAY'S TABLE of the operator; nothing where a day is refused
abbrev pub WritesDay : {A : Type 0} → Operator → DayTable → List ℕ → List ℕ → Option (List ℕ) → Option (List ℕ)
    → Result A DayTableFault → Type 0
WritesDay s table date zone old new (Ok x) =
    OfDay date zone (λ begin until. Appends old new (span_text s table begin until))
WritesDay s table date zone old new (Err (Day fault)) = Keeps old new
WritesDay s table date zone old new (Err Write) =
    OfDay date zone (λ begin until. AppendsFront old new (span_text s table begin until))
WritesDay s table date zone old new (Err (Desk fault)) =
    OfDay date zone (λ begin until. AppendsUntil fault old new (span_text s table begin until))

-- ---- the desk

-- how a table of a stopped desk ends: date and zone are looked at before the desk is asked
abbrev pub IsOfStopped : {A : Type 0} → Result A DayTableFault → Type 0
IsOfStopped (Ok x) = ⊥
IsOfStopped (Err (Day fault)) = Unit {0}
IsOfStopped (Err Write) = ⊥
IsOfStopped (Err (Desk fault)) = fault ≡ Stopped

-- WHAT THE DESK IS AFTER A DAY'S TABLE, as the end tells; the faults of a desk are told as its own calls tell them
pub record LeavesDesk {S : Type 0} (g : Ghosts S) (old new : DeskValue S) {A : Type 0}
    (result : Result A DayTableFault) : Type 0 where
  pub clean : doubt (desk_state g old).is_clean ≤ doubt (desk_state g new).is_clean
  pub same : HasCleanDisk (desk_state g new) → (s : Operator) → IsAt g old s → OnOk result (IsAt g new s)
  pub day : (fault : DayFault) → result ≡ Err (Day fault) → new ≡ old
  pub write : HasCleanDisk (desk_state g new) → (s : Operator) → IsAt g old s → result ≡ Err Write → IsAt g new s
  pub no_memory : HasCleanDisk (desk_state g new) → (s : Operator) → IsAt g old s → result ≡ Err (Desk NoMemory)
      → IsAt g new s
  pub rests : KeepsWhereGoing g old new
  -- whatever is answered, a crash may leave no more than before
  pub left : HasCleanDisk (desk_state g new) → (s : Operator) → IsAt g old s
      → AllLeft (desk_state g new) (desk_state g old).may_leave
  pub goes_on : OnOk result (new.is_stopped ≡ false)
  pub stops : result ≡ Err (Desk StoreFailed) → IsTrue new.is_stopped
  pub stopped : result ≡ Err (Desk Stopped) → IsTrue old.is_stopped
  pub stays : IsTrue old.is_stopped → (new ≡ old) × IsOfStopped result
