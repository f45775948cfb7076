-- A keyed table in a database, found by its name.
use Rattle.std.specs.Prelude.{◌≡◌, ◌==◌, ◌&&◌, ℕ, Bool, true, false, List, [], ◌∷◌, find, slice_get, option_map}
use Rattle.std.specs.Prelude.{option_and_then, unwrap_or}
use Rattle.std.specs.List.{list_any}
use Rattle.sqlite_value.specs.Order.{Row}
use Rattle.sqlite_schema.specs.declared.schema.Table.{Table}
use Rattle.sqlite_schema.specs.declared.schema.Reference.{Reference}
use Rattle.sqlite_schema.specs.declared.schema.Schema.{Schema}
use Rattle.sqlite_schema.specs.Names.{same_name, table_named}
use Rattle.sqlite.specs.Effect.{Database, IsDatabase}
use Rattle.bike_sql.specs.Has.{HasTable}
use Rattle.bike_sql.specs.Layout.{Layout, table_of}
use Rattle.bike_sql.specs.View.{rows_in, IsKeyed}

-- the rows of the table with this name, in the order of their keys; none if there is no such table
abbrev pub rows_of : ℕ → List ℕ → Database → List Row
rows_of keys name db =
    unwrap_or (option_map (λ table. rows_in keys table db.trees)
    (option_and_then (slice_get db.schema.tables) (table_named db.schema name))) []

-- the parent that the foreign key names is the table in this tree
abbrev pub refers_to : List Table → ℕ → Reference → Bool
refers_to tables tree ref =
    unwrap_or (option_map (λ parent. parent.tree == tree)
    (find (λ table. same_name table.name ref.parent) tables)) false

-- some foreign key of the schema refers to the table in this tree
abbrev pub is_referred_to : Schema → ℕ → Bool
is_referred_to schema tree = list_any (λ table. list_any (refers_to schema.tables tree) table.references) schema.tables

-- The database has a table of this layout at some place and in some
-- tree. Its first columns are a key, and no foreign key refers to it.
pub record Stands (db : Database) (keys : ℕ) (layout : Layout) : Type 0 where
  pub at : ℕ
  pub tree : ℕ
  pub has : HasTable db.schema at (table_of layout tree)
  pub keyed : IsKeyed keys (table_of layout tree) (db.trees tree)
  pub unreferred : is_referred_to db.schema tree ≡ false

-- the same letters
abbrev pub is_same_text : List ℕ → List ℕ → Bool
is_same_text [] [] = true
is_same_text (x ∷ xs) (y ∷ ys) = (x == y) && is_same_text xs ys
is_same_text _ _ = false

-- The table stands as it did, with the rows that it had.
pub record Stays (old new : Database) (keys : ℕ) (layout : Layout) : Type 0 where
  pub stands : Stands new keys layout
  pub rows : rows_of keys layout.name new ≡ rows_of keys layout.name old

-- The table has these rows now, and each table of another name is as it was.
pub record Sets (old new : Database) (keys : ℕ) (layout : Layout) (rows : List Row) : Type 0 where
  pub schema : new.schema ≡ old.schema
  pub sound : IsDatabase new
  pub stands : Stands new keys layout
  pub rows_are : rows_of keys layout.name new ≡ rows
  pub others : (more : ℕ) (other : Layout) → is_same_text other.name layout.name ≡ false → Stands old more other
      → Stays old new more other

-- The database is sound, its schema has the tables that it had, and each stands with its rows: only indexes may be new.
pub record Indexes (old new : Database) : Type 0 where
  pub tables : new.schema.tables ≡ old.schema.tables
  pub sound : IsDatabase new
  pub stays : (keys : ℕ) (layout : Layout) → Stands old keys layout → Stays old new keys layout
