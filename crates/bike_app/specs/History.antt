-- The history that the program writes, and what it leaves.
use Rattle.std.specs.Prelude.{◌≡◌, ◌⊎◌, ◌≤◌, ◌<◌, ℕ, List, Option, None, Some, Result, Ok, Err}
use Rattle.std.specs.Io.KnownBytes.{Keeps}
use Rattle.sqlite.specs.Store.{Ghosts}
use Rattle.sqlite.specs.Effect.{Database}
use Rattle.sqlite.specs.Held.{Held, state}
use Rattle.bike_operator.specs.Operator.{Operator}
use Rattle.bike_schema.specs.Tables.{HasNone}
use Rattle.bike_schema.specs.Stands.{Stores, TreesStandFor}
use Rattle.bike_desk.specs.Desk.{DeskValue, IsAt}
use Rattle.bike_desk.specs.Queries.{BeginsAt}
use Rattle.bike_batch.specs.declared.history_fault.HistoryFault.{HistoryFault}
use Rattle.bike_batch.specs.HistoryEnds.{WritesHistory}
use Rattle.bike_console.specs.declared.end.Fault.{Fault}
use Rattle.bike_console.specs.declared.end.Fault.TheVariants.{Begins, StoreFailed}
use Rattle.bike_console.specs.Ends.{history_fault}
use Rattle.bike_app.specs.Program.{Refuses, FailsToBegin}

-- what the program tells of a history that was asked for
abbrev pub history_end : {A : Type 0} → Result A HistoryFault → Result ℕ Fault
history_end (Ok u) = Ok 0
history_end (Err fault) = Err (history_fault fault)

-- over a database without a history, which ends with 0: nothing was written
abbrev pub TellsNothing : Option (List ℕ) → Option (List ℕ) → Result ℕ Fault → Type 0
TellsNothing old new end = (end ≡ Ok 0) × Keeps old new

-- it ends with this fault, and nothing was written
abbrev pub TellsFault : Fault → Option (List ℕ) → Option (List ℕ) → Result ℕ Fault → Type 0
TellsFault fault old new end = (end ≡ Err fault) × Keeps old new

-- What is behind a number of the operator's history was written, whole or a front of it.
pub record TellsBehind (number : ℕ) (s : Operator) (old new : Option (List ℕ)) (end : Result ℕ Fault) : Type 0 where
  pub result : Result (Unit {0}) HistoryFault
  pub told : end ≡ history_end result
  pub written : WritesHistory s number old new result

-- the number behind which the history is wanted, if there is one
module _ (after : Option ℕ) where
  -- WHERE THE HISTORY BEGINS behind a number, it is told behind that one where none was asked for, and behind any from
  -- there on; of one below it nothing is told but where the history begins.
  pub record TellsFrom (begin : ℕ) (s : Operator) (old new : Option (List ℕ)) (end : Result ℕ Fault) : Type 0 where
    pub whole : after ≡ None → TellsBehind begin s old new end
    pub below : (number : ℕ) → after ≡ Some number → number < begin → TellsFault (Begins begin) old new end
    pub behind : (number : ℕ) → after ≡ Some number → begin ≤ number → TellsBehind number s old new end

  -- The begin of the operator's history in the database was found, and the history is told from there on; or the store
  -- failed before.
  abbrev pub TellsHistory : Database → Operator → Option (List ℕ) → Option (List ℕ) → Result ℕ Fault → Type 0
  TellsHistory db s old new end =
      TellsFault StoreFailed old new end ⊎ ((begin : ℕ) × BeginsAt db s begin × TellsFrom begin s old new end)

  module _ {S : Type 0} (g : Ghosts S) where
    -- The history of a desk at an operator, who stays; only a store that fails stops the desk.
    pub record RecountsAt (db : Database) (desk : DeskValue S) (s : Operator) (old new : Option (List ℕ))
        (end : Result ℕ Fault) : Type 0 where
      pub told : TellsHistory db s old new end
      pub at : (end ≡ Err StoreFailed → ⊥) → IsAt g desk s

    -- The database stood for an operator in its tables, and over a desk at it its history was written.
    pub record Recounts (first last : Held S) (old new : Option (List ℕ)) (end : Result ℕ Fault) : Type 0 where
      pub desk : DeskValue S
      pub conn : last ≡ desk.conn
      pub operator : Operator
      pub was : Stores (state g first).now operator
      pub recounted : (s : Operator) → TreesStandFor s (state g first).now.trees
          → RecountsAt (state g first).now desk s old new end

-- The database had none of the tables, and is as it was.
pub record RecountsNobodys {S : Type 0} (g : Ghosts S) (first last : Held S) (old new : Option (List ℕ))
    (end : Result ℕ Fault) : Type 0 where
  pub same : last ≡ first
  pub none : HasNone (state g first).now.schema
  pub told : TellsNothing old new end

-- the database isn't one that is served, or the history is written; what was written before and after
abbrev pub TellsRecounted : Option ℕ → {S : Type 0} → Ghosts S → Option (List ℕ) → Option (List ℕ) → Held S → Held S
    → Result ℕ Fault
    → Type 0
TellsRecounted after g old new first last end =
    Refuses g old new first last end
    ⊎ (Recounts after g first last old new end ⊎ RecountsNobodys g first last old new end)

-- over a database in memory, which has no history
abbrev pub RecountsInMemory : Option (List ℕ) → Option (List ℕ) → Result ℕ Fault → Type 0
RecountsInMemory old new end = FailsToBegin old new end ⊎ TellsNothing old new end
