-- Why what a crash left may be refused.
use Rattle.std.specs.Prelude.{◌≤◌}
use Rattle.sqlite_trees.specs.Tree.{Trees}
use Rattle.sqlite_trees.specs.View.{IsClean}
use Rattle.sqlite_trees.specs.declared.store.Store.{Ghosts}
use Rattle.sqlite.specs.State.{HasCleanDisk}
use Rattle.sqlite.specs.Held.{state}
use Rattle.bike_operator.specs.Operator.{Operator}
use Rattle.bike_schema.specs.Stands.{TreesStandFor}
use Rattle.bike_audit.specs.Adoption.{handed, IsWant}
use Rattle.bike_recovery.specs.declared.reopening.Shut.{Shut as ShutStore}
use Rattle.bike_recovery.specs.declared.reopening.Shut.TheVariants.{NoMemory, StoreFailed}
use Rattle.bike_recovery.specs.declared.crash.Lost.{Lost}
use Rattle.bike_recovery.specs.declared.crash.Lost.TheVariants.{Shut, Refused}

-- memory was refused, or the disk had a fault
abbrev pub IsShutOnlyFor : {S : Type 0} → Ghosts S → ShutStore S → Type 0
IsShutOnlyFor g (NoMemory left) = Unit {0}
IsShutOnlyFor g (StoreFailed left) = IsClean (g.view left) → 1 ≤ g.faults left

-- A store isn't opened again, and what it holds is refused, for memory or storage alone.
abbrev pub IsOnlyWant : {S : Type 0} → Ghosts S → Lost S → Type 0
IsOnlyWant g (Shut shut) = IsShutOnlyFor g shut
IsOnlyWant g (Refused e) = HasCleanDisk (state g (handed e)) → IsWant e

-- the trees stand for some operator
abbrev pub StandForSome : Trees → Type 0
StandForSome trees = (s : Operator) × TreesStandFor s trees
