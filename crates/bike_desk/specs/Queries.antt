-- What each query of a desk owes.
use Rattle.std.specs.Prelude.{◌≡◌, ◌≤◌, ℕ, IsTrue, true, false, Result, Ok, Err, IfOk, OnOk}
use Rattle.sqlite_trees.specs.View.{doubt}
use Rattle.sqlite_trees.specs.declared.store.Store.{Ghosts}
use Rattle.sqlite.specs.Effect.{Database}
use Rattle.sqlite.specs.State.{HasCleanDisk}
use Rattle.bike_operator.specs.Operator.{Operator}
use Rattle.bike_schema.specs.declared.fault.StatementFault.{StatementFault}
use Rattle.bike_schema.specs.Stands.{AllLeft, Stores}
use Rattle.bike_queries.specs.Requests.{history_begin}
use Rattle.bike_desk.specs.declared.fault.DeskFault.{DeskFault}
use Rattle.bike_desk.specs.declared.fault.DeskFault.TheVariants.{NoMemory, StoreFailed, Stopped}
use Rattle.bike_desk.specs.Desk.{DeskValue, desk_state, IsAt, KeepsWhereGoing}

-- A QUERY: its answer is so of the operator, and nothing that is kept changes.
pub record Queries {S : Type 0} (g : Ghosts S) (old new : DeskValue S) {A : Type 0} (result : Result A DeskFault)
    (says : Operator → A → Type 0) : Type 0 where
  pub clean : doubt (desk_state g old).is_clean ≤ doubt (desk_state g new).is_clean
  pub ok : HasCleanDisk (desk_state g new) → (s : Operator) → IsAt g old s → IfOk result (λ x. says s x × IsAt g new s)
  pub rests : KeepsWhereGoing g old new
  pub goes_on : OnOk result (new.is_stopped ≡ false)
  -- whatever is answered, a crash may leave no more than before
  pub left : HasCleanDisk (desk_state g new) → (s : Operator) → IsAt g old s
      → AllLeft (desk_state g new) (desk_state g old).may_leave
  pub no_memory : result ≡ Err NoMemory → new ≡ old
  pub stops : result ≡ Err StoreFailed → IsTrue new.is_stopped
  pub stopped : result ≡ Err Stopped → IsTrue old.is_stopped
  pub stays : IsTrue old.is_stopped → (result ≡ Err Stopped) × (new ≡ old)

-- the begin of the history in a database of the operator, by the moment that its meta has
abbrev pub BeginsAt : Database → Operator → ℕ → Type 0
BeginsAt db s number = (h : Stores db s) → number ≡ history_begin h.listed.since s

-- What a read answered is told, and the desk stays; one that failed stops it.
abbrev pub TellsOf : {S A : Type 0} → Result A StatementFault → DeskValue S → DeskValue S → Result A DeskFault → Type 0
TellsOf (Ok x) old new result = (result ≡ Ok x) × (new ≡ old)
TellsOf (Err e) old new result = (result ≡ Err StoreFailed) × (new ≡ record old { is_stopped = true })
