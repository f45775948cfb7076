-- What files hold after a stop.
use Rattle.std.specs.Prelude.{◌≡◌, ◌⊎◌, ◌≤◌, ℕ, List, Option, Some, None}
use Rattle.sqlite_trees.specs.View.{IsClean}
use Rattle.sqlite_disk.specs.declared.Disk as disk
use Rattle.sqlite_wal.specs.Recovery.{Image}
use Rattle.sqlite_trees.specs.Tree.{Trees}
use Rattle.sqlite_store.specs.declared.store.FileStore.{FileStore}
use Rattle.sqlite_store.specs.FileStore as store
use Rattle.sqlite_trees.specs.declared.store.Store.{Ghosts}
use Rattle.sqlite.specs.State.{State, HasCleanDisk}
use Rattle.sqlite.specs.Files.{file_state, IsCleanLeft, IsFullLeft, faults_left}
use Rattle.sqlite.specs.declared.error.Error.{Error}
use Rattle.sqlite.specs.declared.error.Error.TheVariants.{SqliteFailure}
use Rattle.sqlite.specs.declared.error.ErrorCode.TheVariants.{OutOfMemory, CannotOpen, DatabaseBusy, DiskFull}
use Rattle.sqlite.specs.declared.file.Leftover.{Leftover}
use Rattle.bike_operator.specs.Operator.{Operator}
use Rattle.bike_operator.specs.Runs.{Call}
use Rattle.bike_desk.specs.Desk.{DeskValue}
use Rattle.bike_audit.specs.Adoption.{handed, IsWant}
use Rattle.bike_desk.specs.Runs.{IsAtFront}
use Rattle.bike_recovery.specs.Recovery.{ReadsFront}
use Rattle.bike_recovery.specs.declared.reading.Reading.{Reading}
use Rattle.bike_recovery.specs.declared.stop.LostFiles.{LostFiles}
use Rattle.bike_recovery.specs.declared.stop.LostFiles.TheVariants.{NotOpened, Refused}

-- A stop of this store may leave the files so: nobody else wrote them, and the disk returned what was written.
pub record MayHold {D : Type 0} {g : disk.Ghosts D} (it : FileStore D g) (image : Image) : Type 0 where
  pub clean : IsClean (store.view it)
  pub may : (store.state it).may_leave image

-- some crash leaves these trees
abbrev pub LeavesTrees : State → Trees → Type 0
LeavesTrees s trees = ∥ s.may_leave trees ∥₁

-- Why files aren't open that hold what a stop left: the system refused
-- them, or memory; the disk had a fault; or they are too long.
abbrev pub IsExcused : {D : Type 0} {g : disk.Ghosts D} → Error → Option (Leftover D g) → Type 0
IsExcused e None = (e ≡ SqliteFailure CannotOpen) ⊎ ((e ≡ SqliteFailure OutOfMemory) ⊎ (e ≡ SqliteFailure DatabaseBusy))
IsExcused e (Some left) = IsCleanLeft left
    → (e ≡ SqliteFailure OutOfMemory) ⊎ ((1 ≤ faults_left left) ⊎ ((e ≡ SqliteFailure DiskFull) × IsFullLeft left))

-- the desk is at the operator after some front that holds every acknowledged request and at most one more
abbrev pub IsAtSomeFront : {S : Type 0} → Ghosts S → DeskValue S → Operator → List Call → ℕ → Type 0
IsAtSomeFront g d s calls k = ∥ IsAtFront g d s calls k ∥₁

-- THE PROMISE over files: what is read is of the operator after some such front
abbrev pub ReadsSomeFront : {S : Type 0} → Ghosts S → DeskValue S → Operator → List Call → ℕ → ℕ → ℕ
    → Option (List ℕ) → Option (List ℕ) → Reading → Type 0
ReadsSomeFront g d s calls k bike moment before written reading =
    ∥ ReadsFront g d s calls k bike moment before written reading ∥₁

-- files that a stop left aren't opened, and what they hold is refused, for memory or storage alone
abbrev pub IsOnlyStorage : {D : Type 0} {g : disk.Ghosts D} → LostFiles D g → Type 0
IsOnlyStorage (NotOpened e left) = IsExcused e left
IsOnlyStorage (Refused e) = HasCleanDisk (file_state (handed e)) → IsWant e
