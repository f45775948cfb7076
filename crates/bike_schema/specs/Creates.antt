-- What making the tables does to a database.
use Rattle.std.specs.Prelude.{◌≡◌, ℕ, pos, List, [], ◌∷◌, map, Result, Ok, IfErr, OnOk, OnErr, IsTrue}
use Rattle.sqlite.specs.Effect.{Database, IsDatabase}
use Rattle.sqlite.specs.Held.{Held, state}
use Rattle.sqlite.specs.State.{State, HasCleanDisk, KeepsCommit, ExecutesInside}
use Rattle.sqlite_trees.specs.declared.store.Store.{Ghosts}
use Rattle.bike_schema.specs.declared.create.TheConstants.{TABLES, INDEXES}
use Rattle.bike_operator.specs.Operator.{no_operator}
use Rattle.bike_book.specs.declared.version.TheConstants.{NEWEST}
use Rattle.bike_book.specs.Tables.{Meta}
use Rattle.bike_book.specs.Rows.{meta_row}
use Rattle.bike_book.specs.Writes.{RowWrite, Add}
use Rattle.bike_book.specs.Stored.{none_listed, tables_for}
use Rattle.bike_schema.specs.declared.fault.StatementFault.{StatementFault}
use Rattle.bike_schema.specs.Calls.{IsFaultOf}
use Rattle.bike_schema.specs.Indexes.{HasIndexes}
use Rattle.bike_schema.specs.Tables.{tables_of, HasTables, HasNone}
use Rattle.bike_schema.specs.Makes.{OthersStay, Continues}

-- the statement ran within the transaction, with no parameters
abbrev pub Ran : List ℕ → State → State → Type 0
Ran text old new = (count : ℕ) × ExecutesInside 0 text [] old new (Ok count)

-- these ran, one after another
abbrev pub RanAll : {S : Type 0} (g : Ghosts S) → List (List ℕ) → Held S → Held S → Type 0
RanAll g [] old new = old ≡ new
RanAll g (text ∷ texts) old new = (mid : Held _) × Ran text (state g old) (state g mid) × RanAll g texts mid new

-- the statements that make the tables, in the order of the schema, and those that make the indexes
abbrev pub table_texts : List (List ℕ)
table_texts = map (λ text. text.now) TABLES

abbrev pub index_texts : List (List ℕ)
index_texts = map (λ text. text.now) INDEXES

-- the one row of `meta` as it is made: the newest version, and all figures 0
abbrev pub first_write : RowWrite
first_write = Add Meta (meta_row NEWEST 0 (pos 0) (pos 0))

-- The tables are there with their indexes, and are those of the
-- operator of which nothing was asked. Every other table stays.
pub record IsFresh (old new : Database) : Type 0 where
  pub sound : IsDatabase new
  pub has : HasTables new
  pub tables : tables_of new ≡ tables_for no_operator none_listed
  pub indexes : HasIndexes new.schema
  pub others : OthersStay old new

-- A transaction that made tables goes on.
pub record Creates (old new : State) : Type 0 where
  pub continues : Continues old new
  pub fresh : IsFresh old.now new.now

-- ---- what is told of several statements inside a transaction, where the disk is clean afterwards

-- after success all of them ran
abbrev pub RunsAll : {S X : Type 0} (g : Ghosts S) → List (List ℕ) → Held S → Held S → Result X StatementFault → Type 0
RunsAll g texts old new result =
    HasCleanDisk (state g new) → IsTrue old.in_transaction → OnOk result (RanAll g texts old new)

-- after success the tables are made, where no name of theirs was taken
abbrev pub MakesTables : {S X : Type 0} (g : Ghosts S) → Held S → Held S → Result X StatementFault → Type 0
MakesTables g old new result =
    HasCleanDisk (state g new) → IsTrue old.in_transaction → HasNone (state g old).now.schema
    → OnOk result (Creates (state g old) (state g new))

-- after an error the commit would be what it was
abbrev pub LeavesCommit : {S X : Type 0} (g : Ghosts S) → Held S → Held S → Result X StatementFault → Type 0
LeavesCommit g old new result =
    HasCleanDisk (state g new) → IsTrue old.in_transaction → OnErr result (KeepsCommit (state g old) (state g new))

-- the fault is that of a statement which the engine refused
abbrev pub TellsFault : {S X : Type 0} (g : Ghosts S) → Held S → Held S → Result X StatementFault → Type 0
TellsFault g old new result =
    HasCleanDisk (state g new) → IsTrue old.in_transaction
    → IfErr result (λ fault. (mid : Held _) × IsFaultOf g mid new fault)
