-- What writing the history owes at its end.
use Rattle.std.specs.Prelude.{◌≡◌, ◌≤◌, ℕ, List, IsTrue, false, Option, Result, Ok, Err, OnOk}
use Rattle.std.specs.Io.KnownBytes.{Appends}
use Rattle.sqlite_trees.specs.View.{doubt}
use Rattle.sqlite_trees.specs.declared.store.Store.{Ghosts}
use Rattle.bike_stream.specs.Writing.{AppendsFront}
use Rattle.bike_operator.specs.Operator.{Operator}
use Rattle.bike_schema.specs.Stands.{AllLeft}
use Rattle.bike_desk.specs.declared.fault.DeskFault.TheVariants.{NoMemory, StoreFailed, Stopped}
use Rattle.bike_desk.specs.Desk.{DeskValue, desk_state, IsAt, OfOperator, KeepsWhereGoing}
use Rattle.bike_batch.specs.declared.history_fault.HistoryFault.{HistoryFault}
use Rattle.bike_batch.specs.declared.history_fault.HistoryFault.TheVariants.{Write, Desk}
use Rattle.bike_batch.specs.Again.{history_text}
use Rattle.bike_batch.specs.Ends.{AppendsUntil}

-- THE LINES of the operator's history behind a number
abbrev pub WritesHistory : {A : Type 0} → Operator → ℕ → Option (List ℕ) → Option (List ℕ) → Result A HistoryFault
    → Type 0
WritesHistory s after old new (Ok x) = Appends old new (history_text s after)
WritesHistory s after old new (Err Write) = AppendsFront old new (history_text s after)
WritesHistory s after old new (Err (Desk fault)) = AppendsUntil fault old new (history_text s after)

-- WHAT THE DESK IS AFTER THE HISTORY, as the end tells; the faults of a desk are told as its own calls tell them
pub record LeavesHistory {S : Type 0} (g : Ghosts S) (old new : DeskValue S) {A : Type 0}
    (result : Result A HistoryFault) : Type 0 where
  pub clean : doubt (desk_state g old).is_clean ≤ doubt (desk_state g new).is_clean
  pub same : OfOperator g old new (λ s. OnOk result (IsAt g new s))
  pub write : OfOperator g old new (λ s. result ≡ Err Write → IsAt g new s)
  pub no_memory : OfOperator g old new (λ s. result ≡ Err (Desk NoMemory) → IsAt g new s)
  pub rests : KeepsWhereGoing g old new
  -- whatever is answered, a crash may leave no more than before
  pub left : OfOperator g old new (λ s. AllLeft (desk_state g new) (desk_state g old).may_leave)
  pub goes_on : OnOk result (new.is_stopped ≡ false)
  pub stops : result ≡ Err (Desk StoreFailed) → IsTrue new.is_stopped
  pub stopped : result ≡ Err (Desk Stopped) → IsTrue old.is_stopped
  pub stays : IsTrue old.is_stopped → (result ≡ Err (Desk Stopped)) × (new ≡ old)
