-- When a database stands for an operator.
use Rattle.std.specs.Prelude.{◌≡◌, ◌⊎◌, IsTrue, false}
use Rattle.sqlite_trees.specs.Tree.{Trees}
use Rattle.sqlite_schema.specs.declared.schema.Schema.{Schema}
use Rattle.sqlite.specs.Effect.{Database, IsDatabase}
use Rattle.sqlite.specs.State.{State}
use Rattle.bike_operator.specs.Operator.{Operator, no_operator}
use Rattle.bike_operator.specs.Sound.{IsSound}
use Rattle.bike_book.specs.Stored.{Listed, IsListing, tables_for}
use Rattle.bike_schema.specs.Tables.{tables_of, HasTables, HasNone}

-- The tables are those of the operator, who is sound, with rows for these docks.
pub record Stores (db : Database) (s : Operator) : Type 0 where
  pub has : HasTables db
  pub sound : IsSound s
  pub listed : Listed
  pub listing : IsListing s listed
  pub tables : tables_of db ≡ tables_for s listed

-- none of the tables and the operator of which nothing was asked, or the tables of the operator
abbrev pub IsOf : Database → Operator → Type 0
IsOf db s = (HasNone db.schema × (s ≡ no_operator)) ⊎ Stores db s

-- The database stands for the operator.
pub record StandsFor (db : Database) (s : Operator) : Type 0 where
  pub sound : IsDatabase db
  pub is : IsOf db s

-- the same of stored trees, which hold their own schema
abbrev pub TreesStandFor : Operator → Trees → Type 0
TreesStandFor s trees = (schema : Schema) × StandsFor (record { schema = schema; trees = trees }) s

-- a fact of all that a crash at this moment may leave
abbrev pub AllLeft : State → (Trees → Type 0) → Type 0
AllLeft c P = (db : Trees) → c.may_leave db → P db

-- Nothing is pending; what is shown and all that a crash may leave stand for the operator; the tables are there.
pub record Keeps (c : State) (s : Operator) : Type 0 where
  pub is_open : IsTrue c.is_open
  pub autocommit : c.in_transaction ≡ false
  pub settled : c.committed ≡ c.now
  pub now : StandsFor c.now s
  pub left : AllLeft c (TreesStandFor s)
  pub tables : HasTables c.now
