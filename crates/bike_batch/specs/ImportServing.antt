-- What serving one row leaves.
use Rattle.std.specs.Prelude.{◌≡◌, ◌≢◌, ℕ, IsTrue, false, List, length, ⊤, Option, Some, None, option_map, Result, Ok}
use Rattle.std.specs.Prelude.{Err}
use Rattle.sqlite_trees.specs.declared.store.Store.{Ghosts}
use Rattle.bike_commands.specs.declared.reply.Reply.TheVariants.{Refused}
use Rattle.bike_commands.specs.declared.refusal.Refusal.TheVariants.{BadField}
use Rattle.bike_commands.specs.declared.request.Request.{Request}
use Rattle.bike_commands.specs.Requests.{IsRequest}
use Rattle.bike_operator.specs.Operator.{Operator}
use Rattle.bike_operator.specs.Runs.{Call, step}
use Rattle.bike_operator.specs.Sound.{IsCall, is_refused}
use Rattle.bike_desk.specs.Desk.{DeskValue, IsAt}
use Rattle.bike_desk.specs.Runs.{LeavesEither}
use Rattle.bike_desk.specs.declared.fault.DeskFault.{DeskFault}
use Rattle.bike_desk.specs.declared.fault.DeskFault.TheVariants.{NoMemory, StoreFailed, Stopped}
use Rattle.bike_batch.specs.declared.import_fault.ImportFault.{ImportFault}
use Rattle.bike_batch.specs.declared.import_fault.ImportFault.TheVariants.{BadHeader, Unreadable, Row, Read}
use Rattle.bike_batch.specs.declared.import_fault.ImportFault.TheVariants.{TooManyRows, Desk}
use Rattle.bike_batch.specs.Rows.{Record, station_of, request_of, reply_to}

-- the fault of the desk, if that ended the import
abbrev pub desk_fault : {A : Type 0} → Result A ImportFault → Option DeskFault
desk_fault (Ok x) = None
desk_fault (Err BadHeader) = None
desk_fault (Err (Unreadable number)) = None
desk_fault (Err (Row number refusal)) = None
desk_fault (Err Read) = None
desk_fault (Err TooManyRows) = None
desk_fault (Err (Desk fault)) = Some fault

-- whatever the disk: only a failed store stops a desk, and only a stopped desk tells that
abbrev pub GoesOn : {S : Type 0} → DeskValue S → Option DeskFault → Type 0
GoesOn new None = new.is_stopped ≡ false
GoesOn new (Some NoMemory) = new.is_stopped ≡ false
GoesOn new (Some StoreFailed) = IsTrue new.is_stopped
GoesOn new (Some Stopped) = ⊥

module _ {S : Type 0} (g : Ghosts S) (new : DeskValue S) (s : Operator) where
  -- the store failed at the request: what it holds stands for the operator before or after it
  pub record FailsAt (c : Call) : Type 0 where
    pub good : IsCall c
    pub stopped : IsTrue new.is_stopped
    pub left : LeavesEither g new s c

  -- the request of a row is accepted
  pub record AcceptsCall (c : Call) : Type 0 where
    pub good : IsCall c
    pub accepted : is_refused (step s c.0 c.1).0 ≡ false
    pub at : IsAt g new (step s c.0 c.1).1

  -- a request was served, that of the row of this number
  abbrev pub ServesCall : ℕ → Call → Result (Unit {0}) ImportFault → Type 0
  ServesCall number c (Ok x) = (is_refused (step s c.0 c.1).0 ≡ false) × IsAt g new (step s c.0 c.1).1
  ServesCall number c (Err (Row n refusal)) =
      (n ≡ number) × ((step s c.0 c.1).0 ≡ Refused refusal) × IsAt g new (step s c.0 c.1).1
  ServesCall number c (Err (Desk NoMemory)) = IsAt g new s
  ServesCall number c (Err (Desk StoreFailed)) = IsTrue new.is_stopped × LeavesEither g new s c
  ServesCall number c (Err (Desk Stopped)) = ⊥
  ServesCall number c (Err BadHeader) = ⊥
  ServesCall number c (Err (Unreadable n)) = ⊥
  ServesCall number c (Err Read) = ⊥
  ServesCall number c (Err TooManyRows) = ⊥

  -- the record of this number was served; this is its request, where it is one
  abbrev pub ServesRow : ℕ → Record → Option Call → Result (Unit {0}) ImportFault → Type 0
  ServesRow number fields call (Ok x) = (c : Call) × (call ≡ Some c) × AcceptsCall c
  ServesRow number fields call (Err (Unreadable n)) = (n ≡ number) × (length fields ≢ 5) × IsAt g new s
  ServesRow number fields call (Err (Row n refusal)) =
      (n ≡ number) × (length fields ≡ 5) × (reply_to s call ≡ Refused refusal) × IsAt g new s
  ServesRow number fields call (Err (Desk NoMemory)) = IsAt g new s
  ServesRow number fields call (Err (Desk StoreFailed)) = (c : Call) × (call ≡ Some c) × FailsAt c
  ServesRow number fields call (Err (Desk Stopped)) = ⊥
  ServesRow number fields call (Err BadHeader) = ⊥
  ServesRow number fields call (Err Read) = ⊥
  ServesRow number fields call (Err TooManyRows) = ⊥

-- the request of a row, or why there is none
abbrev pub MakesRequest : List ℕ → ℕ → Record → Result Request ImportFault → Type 0
MakesRequest name number fields (Ok q) =
    (length fields ≡ 5) × (option_map (request_of name number) (station_of fields) ≡ Some q) × IsRequest q
MakesRequest name number fields (Err (Unreadable n)) = (n ≡ number) × (length fields ≢ 5)
MakesRequest name number fields (Err (Row n refusal)) =
    (n ≡ number) × (refusal ≡ BadField) × (length fields ≡ 5) × (station_of fields ≡ None)
MakesRequest name number fields (Err (Desk NoMemory)) = ⊤
MakesRequest name number fields (Err (Desk StoreFailed)) = ⊥
MakesRequest name number fields (Err (Desk Stopped)) = ⊥
MakesRequest name number fields (Err BadHeader) = ⊥
MakesRequest name number fields (Err Read) = ⊥
MakesRequest name number fields (Err TooManyRows) = ⊥
