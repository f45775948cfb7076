-- Why a store isn't open again.
use Rattle.std.specs.Prelude.{◌≡◌}
use Rattle.sqlite_disk.specs.Disk.{MoreFaults}
use Rattle.sqlite_trees.specs.View.{IsClean}
use Rattle.sqlite_trees.specs.declared.store.Store.{Ghosts}
use Rattle.sqlite.specs.Held.{Held}
use Rattle.bike_recovery.specs.declared.reopening.Shut.{Shut}
use Rattle.bike_recovery.specs.declared.reopening.Shut.TheVariants.{NoMemory, StoreFailed}

-- an error is told as a want of memory exactly where it is one
abbrev pub IsShutBy : {S : Type 0} → S → Type 0 → Shut S → Type 0
IsShutBy store wants (NoMemory left) = (left ≡ store) × wants
IsShutBy store wants (StoreFailed left) = (left ≡ store) × (wants → ⊥)

-- A store that failed had a fault of its disk, after the connection was given up.
abbrev pub IsShut : {S : Type 0} → Ghosts S → Held S → Shut S → Type 0
IsShut g conn (NoMemory left) = Unit {0}
IsShut g conn (StoreFailed left) = IsClean (g.view left) → MoreFaults (g.faults conn.store) (g.faults left)
