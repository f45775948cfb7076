-- What the program serves, and what it leaves.
use Rattle.std.specs.Prelude.{◌≡◌, ◌⊎◌, ℕ, List, Option, IsTrue, Result, Err}
use Rattle.std.specs.Io.KnownBytes.{Keeps}
use Rattle.sqlite.specs.Store.{Ghosts}
use Rattle.sqlite.specs.Steps.{over_memory}
use Rattle.sqlite.specs.Held.{Held, state}
use Rattle.sqlite.specs.State.{HasCleanDisk}
use Rattle.sqlite.specs.Tree.{Trees}
use Rattle.sqlite_trees.specs.declared.memory.MemStore.{MemStore}
use Rattle.bike_operator.specs.Operator.{Operator, no_operator}
use Rattle.bike_operator.specs.Runs.{Call, after}
use Rattle.bike_operator.specs.Sound.{AreCalls}
use Rattle.bike_schema.specs.Stands.{AllLeft, IsOf, TreesStandFor}
use Rattle.bike_desk.specs.Desk.{DeskValue}
use Rattle.bike_audit.specs.declared.adoption.AdoptFault.{AdoptFault}
use Rattle.bike_audit.specs.Adoption.{handed, IsToldOf, IsWant}
use Rattle.bike_batch.specs.declared.line_fault.LinesFault.{LinesFault}
use Rattle.bike_console.specs.declared.end.Fault.{Fault}
use Rattle.bike_console.specs.declared.end.Fault.TheVariants.{OutOfMemory, StoreFailed}
use Rattle.bike_console.specs.Ends.{adopt_fault, end_of}
use Rattle.bike_batch.specs.Runs.{RanLines}

-- the trees stand for the operator after good requests
abbrev pub StandsAfterSome : Operator → Trees → Type 0
StandsAfterSome s trees = (calls : List Call) × AreCalls calls × TreesStandFor (after s calls) trees

-- all that a crash may leave of a database that stood for an operator is this for that operator
abbrev pub CrashLeaves : {S : Type 0} → Ghosts S → Held S → Held S → (Operator → Trees → Type 0) → Type 0
CrashLeaves g first last may =
    HasCleanDisk (state g last) → (s : Operator) → TreesStandFor s (state g first).now.trees
    → IsTrue (state g first).is_open → AllLeft (state g last) (may s)

-- The connection couldn't be adopted, for memory or storage alone
-- where it stands for an operator, and nothing was written.
pub record Refuses {S : Type 0} (g : Ghosts S) (old new : Option (List ℕ)) (first last : Held S)
    (end : Result ℕ Fault) : Type 0 where
  pub fault : AdoptFault S
  pub told : end ≡ Err (adopt_fault fault)
  pub why : IsToldOf g first fault
  pub want : (s : Operator) → TreesStandFor s (state g first).now.trees → IsWant fault
  pub conn : last ≡ handed fault
  pub written : Keeps old new

-- There was no memory, or the tables couldn't be made, and nothing was written.
pub record FailsToBegin (old new : Option (List ℕ)) (end : Result ℕ Fault) : Type 0 where
  pub told : (end ≡ Err OutOfMemory) ⊎ (end ≡ Err StoreFailed)
  pub written : Keeps old new

-- the input before and after, and what was written before and after
module _ {S : Type 0} (g : Ghosts S) (input ahead old new : Option (List ℕ)) where
  -- the input was served over a desk at the operator
  pub record ServesLines (last : Held S) (s : Operator) (end : Result ℕ Fault) : Type 0 where
    pub desk : DeskValue S
    pub result : Result ℕ LinesFault
    pub told : end ≡ end_of result
    pub conn : last ≡ desk.conn
    pub ran : RanLines g desk s input ahead old new result

  -- The database stood for an operator, or had none of the tables, and the input was served over a desk at it.
  pub record ServesOver (first last : Held S) (end : Result ℕ Fault) : Type 0 where
    pub operator : Operator
    pub was : IsOf (state g first).now operator
    pub served : (s : Operator) → TreesStandFor s (state g first).now.trees → ServesLines last s end

  -- the connection couldn't be adopted, and nothing was read, or the input was served
  abbrev pub Serves : Held S → Held S → Result ℕ Fault → Type 0
  Serves first last end = (Keeps input ahead × Refuses g old new first last end) ⊎ ServesOver first last end

-- a database in memory begins with nothing
abbrev pub ServesInMemory : Option (List ℕ) → Option (List ℕ) → Option (List ℕ) → Option (List ℕ) → Result ℕ Fault
    → Type 0
ServesInMemory input ahead old new end =
    (Keeps input ahead × FailsToBegin old new end)
    ⊎ ((last : Held MemStore) × ServesLines over_memory input ahead old new last no_operator end)
