-- The indexes beside those of the keys, and the names that making the tables takes.
use Rattle.std.specs.Prelude.{◌≡◌, ℕ, Bool, not, false, List, [], ◌∷◌, ◌++◌, map, Option, Some, option_map, codes}
use Rattle.std.specs.Prelude.{IsTrue}
use Rattle.std.specs.List.{list_all, AllByRecursion}
use Rattle.sqlite_value.specs.Keys.{plain}
use Rattle.sqlite_schema.specs.declared.schema.Table.{Table}
use Rattle.sqlite_schema.specs.declared.schema.Index.{Index}
use Rattle.sqlite_schema.specs.declared.schema.Schema.{Schema}
use Rattle.sqlite_schema.specs.Names.{column_named, place_of}
use Rattle.sqlite_rules.specs.Lists.{Has}
use Rattle.sqlite_catalog.specs.Change.{is_used}
use Rattle.bike_sql.specs.Has.{HasTable}
use Rattle.bike_book.specs.Tables.{TableName, Bikes, Rentals, History, MoreNames}
use Rattle.bike_schema.specs.Layouts.{name_of, every_table}

-- An index: its name, its table, and its columns in their order.
pub record TableIndex : Type 0 where
  pub name : List ℕ
  pub table : TableName
  pub columns : List (List ℕ)

abbrev pub index_on : List ℕ → TableName → List (List ℕ) → TableIndex
index_on name table columns = record { name = name; table = table; columns = columns }

-- THE INDEXES beside those of the keys. None is UNIQUE, and all columns rise.
abbrev pub bikes_by_dock : TableIndex
bikes_by_dock = index_on (codes "bikes_by_dock") Bikes (codes "station_id" ∷ codes "dock" ∷ [])

abbrev pub bikes_by_truck : TableIndex
bikes_by_truck = index_on (codes "bikes_by_truck") Bikes (codes "truck" ∷ [])

abbrev pub rentals_by_rider : TableIndex
rentals_by_rider = index_on (codes "rentals_by_rider") Rentals (codes "rider" ∷ [])

abbrev pub more_names_by_language : TableIndex
more_names_by_language = index_on (codes "more_names_by_language") MoreNames (codes "language" ∷ [])

abbrev pub more_names_by_thing : TableIndex
more_names_by_thing = index_on (codes "more_names_by_thing") MoreNames
    (codes "kind" ∷ codes "id" ∷ codes "language" ∷ codes "name" ∷ [])

abbrev pub history_by_key : TableIndex
history_by_key = index_on (codes "history_by_key") History (codes "caller" ∷ codes "req_key" ∷ [])

abbrev pub every_index : List TableIndex
every_index =
    bikes_by_dock ∷ bikes_by_truck ∷ rentals_by_rider ∷ more_names_by_language ∷ more_names_by_thing ∷ history_by_key ∷ []

-- where a stored row of the table has the columns of these names
abbrev pub places_in : Table → List (List ℕ) → List (Option ℕ)
places_in table = map (λ name. option_map (place_of table) (column_named table name))

-- The schema has the index: over those columns of the table of that name, in that order.
pub record HasIndex (schema : Schema) (i : TableIndex) : Type 0 where
  pub at : ℕ
  pub table : Table
  pub has : HasTable schema at table
  pub called : table.name ≡ name_of i.table
  pub index : Index
  pub listed : Has schema.indexes index
  pub named : index.name ≡ i.name
  pub on : index.table ≡ table.tree
  pub columns : map Some index.columns ≡ places_in table i.columns
  pub order : index.order ≡ plain
  pub repeats : index.is_unique ≡ false

-- it has all of them
abbrev pub HasIndexes : Schema → Type 0
HasIndexes schema = AllByRecursion (HasIndex schema) every_index

-- ---- names

-- no table, index or view has the name, nor anything that the engine keeps as it is, as a trigger
abbrev pub is_free : Schema → List ℕ → Bool
is_free schema name = not (is_used schema name)

-- the names that making the tables takes: of the tables, and of the indexes beside those of their keys
abbrev pub made_names : List (List ℕ)
made_names = map name_of every_table ++ map (λ i. i.name) every_index

-- all of them are free
abbrev pub HasRoom : Schema → Type 0
HasRoom schema = IsTrue (list_all (is_free schema) made_names)
