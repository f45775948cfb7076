-- What a call on a connection tells that is inside a transaction.
use Rattle.std.specs.Prelude.{ℕ, List, Result, Ok, OnOk, IfOk, IsTrue}
use Rattle.sqlite_value.specs.Order.{Row}
use Rattle.sqlite_trees.specs.declared.store.Store.{Ghosts}
use Rattle.sqlite.specs.Effect.{Database}
use Rattle.sqlite.specs.Held.{Held, state}
use Rattle.sqlite.specs.State.{HasCleanDisk, ExecutesInside, Survives}
use Rattle.bike_sql.specs.Inside.{IsWriteIn}
use Rattle.bike_schema.specs.Makes.{Continues}

module _ {S : Type 0} (g : Ghosts S) where
  -- The text as it runs there, where it is a write. No fault of the disk is forgotten, and nothing is committed.
  pub record Runs (old new : Held S) (text : List ℕ) (params : Row) {X E : Type 0} (result : Result X E) : Type 0 where
    pub ran : HasCleanDisk (state g new) → IsTrue old.in_transaction → IsWriteIn (state g old).now.schema text
        → OnOk result ((count : ℕ) × ExecutesInside 0 text params (state g old) (state g new) (Ok count))
    pub survives : Survives (state g old) (state g new)
        (λ _. ¬ (IsTrue old.in_transaction × IsWriteIn (state g old).now.schema text))

  -- On databases of which `P` holds: the transaction goes on, and
  -- this is so of what it saw and what it sees. Nothing is committed.
  pub record DoesInside (P : Database → Type 0) (old new : Held S) {X E : Type 0} (result : Result X E)
      (does : Database → Database → X → Type 0) : Type 0 where
    pub done : HasCleanDisk (state g new) → IsTrue old.in_transaction → P (state g old).now
        → IfOk result (λ x. Continues (state g old) (state g new) × does (state g old).now (state g new).now x)
    pub survives : Survives (state g old) (state g new) (λ _. ¬ (IsTrue old.in_transaction × P (state g old).now))

  -- the same of a change, of whose value nothing is said
  abbrev pub ChangesInside : {X E : Type 0} → (Database → Type 0) → Held S → Held S → Result X E
      → (Database → Database → Type 0) → Type 0
  ChangesInside P old new result does = DoesInside P old new result (λ a b _. does a b)
