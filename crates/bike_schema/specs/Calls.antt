-- What a function of one statement tells of a database that has our tables.
use Rattle.std.specs.Prelude.{◌≡◌, ℕ, List, [], ◌∷◌, Result, Err, IfErr, IsTrue}
use Rattle.std.specs.Borrow.{Fml, RattleType, MutBor}
use Rattle.sqlite_value.specs.Order.{Row}
use Rattle.sqlite_trees.specs.declared.store.Store.{Ghosts}
use Rattle.sqlite.specs.declared.rows.stream.Rows.{Rows}
use Rattle.sqlite.specs.declared.error.Error.{Error}
use Rattle.sqlite.specs.Held.{Held, state}
use Rattle.sqlite.specs.State.{HasCleanDisk, ExecutesInside}
use Rattle.bike_sql.specs.View.{IsFree}
use Rattle.bike_sql.specs.Calls.{ReadsWhere, WritesWhere, WalksWhere, LendsWhere}
use Rattle.bike_book.specs.Tables.{Tables, keys_of, rows_in}
use Rattle.bike_book.specs.Writes.{RowWrite, Add, Set, Remove}
use Rattle.bike_schema.specs.Tables.{IsOurs, tables_of}
use Rattle.bike_schema.specs.declared.fault.StatementFault.{StatementFault}
use Rattle.bike_schema.specs.Faults.{fault_of}
use Rattle.bike_schema.specs.Makes.{Puts}

-- no row had the key of a row that is added
abbrev pub WasFree : RowWrite → Tables → Type 0
WasFree (Add name row) t = IsFree (keys_of name) row (rows_in t name)
WasFree (Set name key columns) t = Unit {0}
WasFree (Remove name key) t = Unit {0}

-- a read: what is so of the tables and its value
abbrev pub Reads : {S X E : Type 0} → Ghosts S → Held S → Held S → Result X E → (Tables → X → Type 0) → Type 0
Reads g old new result says = ReadsWhere g IsOurs old new result (λ db. says (tables_of db))

-- The engine refused a statement, and the fault is that of the error which it gave.
pub record IsFaultOf {S : Type 0} (g : Ghosts S) (old new : Held S) (fault : StatementFault) : Type 0 where
  pub text : List ℕ
  pub params : Row
  pub error : Error
  pub refused : ExecutesInside 0 text params (state g old) (state g new) (Err error)
  pub fault_is : fault ≡ fault_of error

-- A write inside a transaction: what it makes of the tables. It is refused where a row has the key that it adds.
pub record Writes {S : Type 0} (g : Ghosts S) (old new : MutBor (Held S)) {X : Type 0}
    (result : Result X StatementFault) (w : RowWrite) : Type 0 where
  pub writes : WritesWhere g IsOurs old new result
      (λ before after. Puts (w ∷ []) before after × WasFree w (tables_of before.now))
  pub open writes use *
  pub told : HasCleanDisk (state g new.now) → IsTrue old.now.in_transaction → IfErr result (IsFaultOf g old.now new.now)

-- a walk: which rows are to come
abbrev pub Walks : {S E : Type 0} (g : Ghosts S) → MutBor (Held S) → Result (Rows S g) E → (Tables → List Row) → Type 0
Walks g conn result all = WalksWhere g IsOurs conn result (λ db. all (tables_of db))

-- the connection that is lent to a walk
abbrev pub Lends : {E : Type 0} (S : RattleType) (g : Ghosts S.Denot) → MutBor (Held S.Denot)
    → Result (Rows S.Denot g) E → Fml
Lends S g conn result = LendsWhere S g IsOurs conn result
