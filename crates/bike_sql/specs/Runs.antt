-- What the engine makes of a statement that a call sends, whatever its text.
-- `Gives` says which error of the caller's own each error of the engine is.
use Rattle.std.specs.Prelude.{◌≡◌, ℕ, false, List, Option, Result, IsTrue}
use Rattle.std.specs.Borrow.{MutBor}
use Rattle.sqlite_value.specs.Order.{Row}
use Rattle.sqlite_trees.specs.declared.store.Store.{Ghosts}
use Rattle.sqlite.specs.declared.error.Error.{Error}
use Rattle.sqlite.specs.Held.{Held, state}
use Rattle.sqlite.specs.State.{HasCleanDisk, QueriesRow, ExecutesInside, Survives, CommitsShowing}
use Rattle.bike_sql.specs.Outcome.{if_any, ToldAs}

module _ {S : Type 0} (g : Ghosts S) where
  -- The first row that the text answers, or none.
  pub record QueriesFirst (old new : Held S) (text : List ℕ) (params : Row) {E : Type 0} (Gives : Error → E → Type 0)
      (result : Result (Option Row) E) : Type 0 where
    pub answer : HasCleanDisk (state g new) → (r : Result Row Error)
        × QueriesRow text params (state g old) (state g new) r × ToldAs Gives (λ row told. row ≡ told) (if_any r) result
    pub mode : old.in_transaction ≡ false → new.in_transaction ≡ false
    pub survives : Survives (state g old) (state g new) (CommitsShowing text params (state g old))

  -- The text as it runs inside a transaction.
  pub record RunsInside (old new : MutBor (Held S)) (text : List ℕ) (params : Row) {X E : Type 0}
      (Gives : Error → E → Type 0) (result : Result X E) : Type 0 where
    pub same_reference : new.ghost_name ≡ old.ghost_name
    pub ran : HasCleanDisk (state g new.now) → IsTrue old.now.in_transaction
        → (r : Result ℕ Error) × ExecutesInside 0 text params (state g old.now) (state g new.now) r
        × ToldAs Gives (λ count done. Unit {0}) r result
    pub survives : Survives (state g old.now) (state g new.now) (λ _. ⊥)
