-- What is told of a history over a desk.
use Rattle.std.proofs.Common.{◌≡◌, Result, Ok, Err, refl}
use Rattle.sqlite_trees.specs.declared.store.Store.{Ghosts}
use Rattle.sqlite.specs.State.{HasCleanDisk}
use Rattle.bike_operator.specs.Operator.{Operator}
use Rattle.bike_desk.specs.Desk.{DeskValue, desk_state, IsAt}
use Rattle.bike_desk.specs.declared.fault.DeskFault.{DeskFault}
use Rattle.bike_desk.specs.declared.fault.DeskFault.TheVariants.{NoMemory, StoreFailed, Stopped}
use Rattle.bike_batch.specs.declared.history_fault.HistoryFault.{HistoryFault}
use Rattle.bike_batch.specs.declared.history_fault.HistoryFault.TheVariants.{Write, Desk}
use Rattle.bike_batch.specs.HistoryEnds.{LeavesHistory}
use Rattle.bike_console.specs.declared.end.Fault.TheVariants as fault
use Rattle.bike_console.specs.Ends.{fault_of_desk}
use Rattle.bike_app.specs.History.{history_end}

-- only a store that fails stops the desk
pub desk_at : {S : Type 0} (g : Ghosts S) (old new : DeskValue S) (s : Operator) → HasCleanDisk (desk_state g new) → IsAt g old s
    → (result : Result (Unit {0}) HistoryFault) → LeavesHistory g old new result → (history_end result ≡ Err fault.StoreFailed → ⊥) → IsAt g new s
desk_at g old new s clean at (Ok u) leaves other = leaves.same clean s at
desk_at g old new s clean at (Err Write) leaves other = leaves.write clean s at refl
desk_at g old new s clean at (Err (Desk NoMemory)) leaves other = leaves.no_memory clean s at refl
desk_at g old new s clean at (Err (Desk StoreFailed)) leaves other = absurd (other refl)
desk_at g old new s clean at (Err (Desk Stopped)) leaves other = absurd (other refl)

-- of a desk that went on, and took no memory, the store failed
pub store_failed : (it : DeskFault) → (it ≡ NoMemory → ⊥) → (it ≡ Stopped → ⊥) → fault_of_desk it ≡ fault.StoreFailed
store_failed NoMemory enough going = absurd (enough refl)
store_failed StoreFailed enough going = refl
store_failed Stopped enough going = absurd (going refl)
