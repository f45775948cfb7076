-- What raising a database to the newest version tells, and what it leaves.
use Rattle.std.specs.Prelude.{◌≡◌, ◌⊎◌, ℕ, List, codes, Option, IsTrue, Result, Ok, Err}
use Rattle.std.specs.Io.KnownBytes.{Appends, Keeps}
use Rattle.sqlite.specs.Store.{Ghosts}
use Rattle.sqlite.specs.Held.{Held, state}
use Rattle.sqlite.specs.State.{HasCleanDisk}
use Rattle.bike_operator.specs.Operator.{Operator}
use Rattle.bike_schema.specs.Stands.{AllLeft}
use Rattle.bike_stream.specs.Writing.{AppendsFront}
use Rattle.bike_recognition.specs.declared.earlier_versions.earlier.Earlier.{Earlier}
use Rattle.bike_recognition.specs.EarlierVersions.Stores.{StandsForAt, TreesStandForAt}
use Rattle.bike_migrate.specs.Raising.{handed, Holds, IsToldOf, IsWant, TreesStandSince}
use Rattle.bike_migrate.specs.declared.fault.RaiseFault.{RaiseFault}
use Rattle.bike_console.specs.declared.end.Fault.{Fault}
use Rattle.bike_console.specs.declared.end.Fault.TheVariants.{WriteFailed}
use Rattle.bike_console.specs.Ends.{raise_fault}

-- the line was written, or less of it
abbrev pub WritesLine : Option (List ℕ) → Option (List ℕ) → List ℕ → Result ℕ Fault → Type 0
WritesLine old new line (Ok count) = (count ≡ 0) × Appends old new line
WritesLine old new line (Err fault) = (fault ≡ WriteFailed) × AppendsFront old new line

-- the line that tells the newest version
abbrev pub version_line : List ℕ
version_line = codes "version 4\n"

-- The database stood for an operator at some version, and stands for it at the newest, with all that a crash may leave.
pub record RaisedUp {S : Type 0} (g : Ghosts S) (first last : Held S) : Type 0 where
  pub version : Option Earlier
  pub operator : Operator
  pub was : StandsForAt version (state g first).now operator
  pub holds : Holds (state g last) operator

-- all that a crash may leave of a database that stood for an operator
-- at a version stands for that operator, there or at the newest
abbrev pub CrashLeavesRaised : {S : Type 0} → Ghosts S → Held S → Held S → Type 0
CrashLeavesRaised g first last =
    HasCleanDisk (state g last) → (v : Option Earlier) (s : Operator) → TreesStandForAt v s (state g first).now.trees
    → IsTrue (state g first).is_open
    → AllLeft (state g last) (TreesStandSince v s)

-- what was written before and after
module _ {S : Type 0} (g : Ghosts S) (old new : Option (List ℕ)) where
  -- the database couldn't be raised, for memory or storage alone where it stands for an operator; nothing was written
  pub record RefusesToRaise (first last : Held S) (end : Result ℕ Fault) : Type 0 where
    pub fault : RaiseFault S
    pub told : end ≡ Err (raise_fault fault)
    pub why : IsToldOf g first fault
    pub want : (v : Option Earlier) (s : Operator) → TreesStandForAt v s (state g first).now.trees → IsWant fault
    pub conn : last ≡ handed fault
    pub written : Keeps old new

  -- it couldn't be raised, or it was and a line tells its version
  abbrev pub TellsRaised : Held S → Held S → Result ℕ Fault → Type 0
  TellsRaised first last end =
      RefusesToRaise first last end ⊎ (RaisedUp g first last × WritesLine old new version_line end)
