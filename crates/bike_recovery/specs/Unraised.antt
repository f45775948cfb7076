-- Why what an earlier program left may not be raised and taken into service.
use Rattle.sqlite_trees.specs.declared.store.Store.{Ghosts}
use Rattle.sqlite.specs.State.{HasCleanDisk}
use Rattle.sqlite.specs.Held.{state}
use Rattle.bike_migrate.specs.Raising as raising
use Rattle.bike_audit.specs.Adoption as adoption
use Rattle.bike_recovery.specs.declared.raising.Unraised.{Unraised}
use Rattle.bike_recovery.specs.declared.raising.Unraised.TheVariants.{Shut, Refused, Unadopted}
use Rattle.bike_recovery.specs.Losses.{IsShutOnlyFor}

-- A store isn't opened again, and what it holds isn't raised or adopted, for memory or storage alone.
abbrev pub IsOnlyWantOf : {S : Type 0} → Ghosts S → Unraised S → Type 0
IsOnlyWantOf g (Shut shut) = IsShutOnlyFor g shut
IsOnlyWantOf g (Refused e) = HasCleanDisk (state g (raising.handed e)) → raising.IsWant e
IsOnlyWantOf g (Unadopted e) = HasCleanDisk (state g (adoption.handed e)) → adoption.IsWant e
