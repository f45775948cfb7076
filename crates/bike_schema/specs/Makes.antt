-- What writes do to the tables.
use Rattle.std.specs.Prelude.{◌≡◌, ℕ, Bool, true, false, List}
use Rattle.std.specs.List.{list_any}
use Rattle.sqlite.specs.Effect.{Database, IsDatabase}
use Rattle.sqlite.specs.State.{State, Shows}
use Rattle.bike_sql.specs.Layout.{Layout}
use Rattle.bike_sql.specs.Stands.{is_same_text, Stands, Stays}
use Rattle.bike_book.specs.Writes.{RowWrite, tables_after_all}
use Rattle.bike_schema.specs.Layouts.{name_of, every_table}
use Rattle.bike_schema.specs.Tables.{tables_of, HasTables}

-- the name is that of one of the tables
abbrev pub is_our_name : List ℕ → Bool
is_our_name name = list_any (λ t. is_same_text name (name_of t)) every_table

-- each table of another name stands as it did, with the rows that it had
abbrev pub OthersStay : Database → Database → Type 0
OthersStay old new =
    (keys : ℕ) (layout : Layout) → is_our_name layout.name ≡ false → Stands old keys layout → Stays old new keys layout

-- The tables after these writes, in the same schema. Every other table stays.
pub record Makes (writes : List RowWrite) (old new : Database) : Type 0 where
  pub schema : new.schema ≡ old.schema
  pub sound : IsDatabase new
  pub has : HasTables new
  pub tables : tables_of new ≡ tables_after_all writes (tables_of old)
  pub others : OthersStay old new

-- the transaction goes on, and what is committed stays
abbrev pub Continues : State → State → Type 0
Continues old new = Shows old new new.now old.committed true

-- A transaction that wrote rows goes on.
pub record Puts (writes : List RowWrite) (old new : State) : Type 0 where
  pub continues : Continues old new
  pub makes : Makes writes old.now new.now
