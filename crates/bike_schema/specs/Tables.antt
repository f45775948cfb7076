-- The product's tables in a database, each found by its name at whatever place of the schema it stands.
use Rattle.std.specs.Prelude.{◌&&◌, ℕ, Bool, not, List, [], ◌∷◌, ◌++◌, map, is_none, codes, IsTrue}
use Rattle.std.specs.List.{list_any, list_all}
use Rattle.sqlite_schema.specs.declared.schema.Table.{Table}
use Rattle.sqlite_schema.specs.declared.schema.Schema.{Schema}
use Rattle.sqlite_schema.specs.Names.{same_name, table_named}
use Rattle.sqlite.specs.Effect.{Database, IsDatabase}
use Rattle.bike_sql.specs.Stands.{rows_of, Stands}
use Rattle.bike_book.specs.Tables.{TableName, Tables, keys_of, tables_by}
use Rattle.bike_schema.specs.Layouts.{layout_of, name_of, every_table}

-- the tables, each as the list of its rows in the order of its key
abbrev pub tables_of : Database → Tables
tables_of db = tables_by (λ t. rows_of (keys_of t) (name_of t) db)

-- all tables stand there, with their columns and keys
abbrev pub HasTables : Database → Type 0
HasTables db = (t : TableName) → Stands db (keys_of t) (layout_of t)

-- The database obeys its schema and has the tables.
pub record IsOurs (db : Database) : Type 0 where
  pub sound : IsDatabase db
  pub has : HasTables db

-- the names of tables that only an earlier schema has
abbrev pub other_names : List (List ℕ)
other_names = codes "stations" ∷ codes "stations_2" ∷ codes "stations_3" ∷ codes "kept" ∷ codes "counts" ∷ codes "riders" ∷ []

abbrev pub product_names : List (List ℕ)
product_names = map name_of every_table ++ other_names

-- some foreign key of the table names this name
abbrev pub names_parent : List ℕ → Table → Bool
names_parent name table = list_any (λ ref. same_name name ref.parent) table.references

-- some foreign key names a table of this name, whether there is one or not
abbrev pub is_parent : Schema → List ℕ → Bool
is_parent schema name = list_any (names_parent name) schema.tables

-- no table has the name, and no foreign key names it
abbrev pub is_unused : Schema → List ℕ → Bool
is_unused schema name = is_none (table_named schema name) && not (is_parent schema name)

-- no name of the product's tables is used
abbrev pub HasNone : Schema → Type 0
HasNone schema = IsTrue (list_all (is_unused schema) product_names)
