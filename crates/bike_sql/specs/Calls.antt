-- What a call that runs one statement tells its caller. Each speaks
-- of databases of which `P` holds, as that some tables stand in them.
use Rattle.std.specs.Prelude.{◌≡◌, false, List, Result, OnOk, OnErr, IfOk, IsTrue}
use Rattle.std.specs.Borrow.{Fml, RattleType, MutBor, RestsIfErr}
use Rattle.sqlite_value.specs.Order.{Row}
use Rattle.sqlite_trees.specs.declared.store.Store.{Ghosts}
use Rattle.sqlite.specs.contracts.connection.Connection.{the_row}
use Rattle.sqlite.specs.declared.rows.stream.Rows.{Rows}
use Rattle.sqlite.specs.Effect.{Database}
use Rattle.sqlite.specs.Held.{Held, state}
use Rattle.sqlite.specs.State.{State, HasCleanDisk, IsUnchanged, Survives}
use Rattle.bike_sql.specs.Outcome.{IsLeft}
use Rattle.bike_sql.specs.Walk.{IsWalking}

module _ {S : Type 0} (g : Ghosts S) (P : Database → Type 0) where
  -- It begins no transaction and forgets no fault, and where `P` held, what a crash may leave is as it was.
  pub record IsQuiet (old new : Held S) : Type 0 where
    pub mode : old.in_transaction ≡ false → new.in_transaction ≡ false
    pub survives : Survives (state g old) (state g new) (λ _. ¬ P (state g old).now)

  -- A read: what is so of its value in the database that it read, which it left as it was.
  pub record ReadsWhere (old new : Held S) {X E : Type 0} (result : Result X E)
      (says : Database → X → Type 0) : Type 0 where
    pub found : HasCleanDisk (state g new) → P (state g old).now → IfOk result (says (state g old).now)
    pub same : HasCleanDisk (state g new) → P (state g old).now → OnOk result (IsUnchanged (state g old) (state g new))
    pub failed : HasCleanDisk (state g new) → P (state g old).now → OnErr result (IsLeft (state g old) (state g new))
    pub quiet : IsQuiet old new

  -- A write inside a transaction: what it does to what the
  -- transaction sees. Only a commit changes what a crash may leave.
  pub record WritesWhere (old new : MutBor (Held S)) {X E : Type 0} (result : Result X E)
      (does : State → State → Type 0) : Type 0 where
    pub same_reference : new.ghost_name ≡ old.ghost_name
    pub done : HasCleanDisk (state g new.now) → IsTrue old.now.in_transaction → P (state g old.now).now
        → OnOk result (does (state g old.now) (state g new.now))
    pub refused : HasCleanDisk (state g new.now) → IsTrue old.now.in_transaction
        → OnErr result (IsLeft (state g old.now) (state g new.now))
    pub survives : Survives (state g old.now) (state g new.now) (λ _. ⊥)

  -- A walk that began: which rows are to come.
  pub record WalksWhere (entry : MutBor (Held S)) {E : Type 0} (result : Result (Rows S g) E)
      (all : Database → List Row) : Type 0 where
    pub same_reference : IfOk result (λ rows. rows.conn.ghost_name ≡ entry.ghost_name)
    pub begun : IfOk result (λ rows. HasCleanDisk (state g rows.conn.now) → P (state g entry.now).now
        → IsWalking g rows.conn.now (all (state g entry.now).now))
    pub same : IfOk result (λ rows. HasCleanDisk (state g rows.conn.now) → P (state g entry.now).now
        → IsUnchanged (state g entry.now) (state g rows.conn.now))
    pub quiet : IfOk result (λ rows. IsQuiet entry.now rows.conn.now)

  -- what a connection is left as by a walk that did not begin
  pub record StopsWhere (old new : Held S) : Type 0 where
    pub left : HasCleanDisk (state g new) → P (state g old).now → IsLeft (state g old) (state g new)
    pub quiet : IsQuiet old new

-- the connection that is lent to a walk, after the walk, or where it did not begin
abbrev pub LendsWhere : (S : RattleType) (g : Ghosts S.Denot) → (Database → Type 0) → MutBor (Held S.Denot)
    → {E : Type 0} → Result (Rows S.Denot g) E → Fml
LendsWhere S g P conn result =
    RestsIfErr (the_row S g) conn (λ rows. rows.conn.ghost_name) result (StopsWhere g P conn.now)
