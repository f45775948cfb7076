-- How a database holds the tables at an earlier version of the schema.
use Rattle.std.specs.Prelude.{◌≡◌, ◌⊎◌, ℕ, Bool, true, false, if◌then◌else◌, List, [], ◌∷◌, ◌++◌, map, take, codes}
use Rattle.std.specs.Prelude.{IsTrue, Option, Some, None, option_map, unwrap_or}
use Rattle.std.specs.List.{list_all, range_with_len}
use Rattle.sqlite_value.specs.declared.value.Value.TheVariants.{Text}
use Rattle.sqlite_value.specs.Order.{Row, column}
use Rattle.sqlite_schema.specs.declared.schema.Column.{Column}
use Rattle.sqlite_schema.specs.declared.schema.Schema.{Schema}
use Rattle.sqlite.specs.Effect.{Database}
use Rattle.bike_sql.specs.Layout.{Layout}
use Rattle.bike_sql.specs.Stands.{rows_of, Stands}
use Rattle.bike_book.specs.declared.columns.stations.TheConstants as stations
use Rattle.bike_book.specs.Tables.{TableName, Tables, Regions, Stations, Riders, History, MoreNames, Books, keys_of}
use Rattle.bike_book.specs.Tables.{tables_by}
use Rattle.bike_schema.specs.Layouts.{layout_of, name_of, keyed_layout}
use Rattle.bike_schema.specs.Tables.{is_unused}
use Rattle.bike_recognition.specs.declared.earlier_versions.earlier.Earlier.{Earlier}
use Rattle.bike_recognition.specs.declared.earlier_versions.earlier.Earlier.TheVariants.{First, Second, Third}
use Rattle.bike_recognition.specs.declared.earlier_versions.old_table.OldTable.{OldTable}
use Rattle.bike_recognition.specs.declared.earlier_versions.old_table.OldTable.TheVariants as old
use Rattle.bike_recognition.specs.EarlierVersions.Counts.{counts_layout, HasCounts, old_counts, old_text}
use Rattle.bike_recognition.specs.EarlierVersions.Kept.{KeptLies, kept_rows, history_rows}
use Rattle.bike_recognition.specs.EarlierVersions.Riders.{riders_layout, old_riders, completed_rider}

abbrev pub number_of : Earlier → ℕ
number_of First = 1
number_of Second = 2
number_of Third = 3

-- ---- the table of stations

abbrev pub stations_name : Earlier → List ℕ
stations_name First = codes "stations"
stations_name Second = codes "stations_2"
stations_name Third = codes "stations_3"

-- its columns are those of today but for the last, and at version 1 without the region
abbrev pub stations_columns : Earlier → List Column
stations_columns First = take 11 (layout_of Stations).columns
stations_columns Second = take 12 (layout_of Stations).columns
stations_columns Third = take 12 (layout_of Stations).columns

abbrev pub stations_layout : Earlier → Layout
stations_layout e = keyed_layout (stations_name e) (1 ∷ []) (stations_columns e)

-- its row as one of today, with this text. A column that it hasn't is NULL, so that it is in no region at version 1.
abbrev pub with_text : List ℕ → Row → Row
with_text text row = map (column row) (range_with_len 0 stations.BY_TYPE) ++ Text text ∷ []

-- THE ROW OF A STATION AS ONE OF TODAY: with the text of its bicycles by type, as these rows of `counts` tell of them
abbrev pub completed : List Row → Row → Row
completed counts row = with_text (old_text counts row) row

-- ---- the tables that the newest version doesn't have, but for `kept`

abbrev pub old_layout : OldTable → Layout
old_layout (old.Stations e) = stations_layout e
old_layout old.Counts = counts_layout
old_layout old.Riders = riders_layout

abbrev pub old_keys : OldTable → ℕ
old_keys (old.Stations e) = 1
old_keys old.Counts = 2
old_keys old.Riders = 1

-- whether a station had fewer docks at most than today
abbrev pub bounds_docks : Earlier → Bool
bounds_docks First = true
bounds_docks Second = true
bounds_docks Third = false

-- ---- the tables

abbrev pub has_regions : Earlier → Bool
has_regions First = false
has_regions _ = true

abbrev pub has_names : Earlier → Bool
has_names Third = true
has_names _ = false

-- the version has the table
abbrev pub has_table : Earlier → TableName → Bool
has_table e Regions = has_regions e
has_table e MoreNames = has_names e
has_table e History = false
has_table e Books = false
has_table e t = true

-- the table that the version has in place of this one, if it is another
abbrev pub table_before : Earlier → TableName → Option OldTable
table_before e Stations = Some (old.Stations e)
table_before e Riders = Some old.Riders
table_before e t = None

-- the table as it has to stand at the version: all but those of stations and of riders as at the newest
abbrev pub layout_at : Earlier → TableName → Layout
layout_at e t = unwrap_or (option_map old_layout (table_before e t)) (layout_of t)

-- the rows of a table that only some versions have: none at one that doesn't have it
abbrev pub rows_if_there : Earlier → Database → TableName → List Row
rows_if_there e db t = if has_table e t then rows_of (keys_of t) (name_of t) db else []

-- THE ROWS that a database holds at the version, as those of today
abbrev pub rows_at : Earlier → Database → TableName → List Row
rows_at e db Stations = map (completed (old_counts db)) (rows_of 1 (stations_name e) db)
rows_at e db Riders = map completed_rider (old_riders db)
rows_at e db History = history_rows (kept_rows db)
rows_at e db Books = []
rows_at e db Regions = rows_if_there e db Regions
rows_at e db MoreNames = rows_if_there e db MoreNames
rows_at e db t = rows_of (keys_of t) (name_of t) db

abbrev pub tables_at : Earlier → Database → Tables
tables_at e db = tables_by (rows_at e db)

-- The table stands, if the version has it.
pub record StandsAt (e : Earlier) (db : Database) (t : TableName) : Type 0 where
  pub stands : IsTrue (has_table e t) → Stands db (keys_of t) (layout_at e t)

abbrev pub HasTablesAt : Earlier → Database → Type 0
HasTablesAt e db = (t : TableName) → StandsAt e db t

-- whether each of these tables stands, as far as the version has them
abbrev pub IsWhether : Earlier → Database → List TableName → Bool → Type 0
IsWhether e db [] stand = stand ≡ true
IsWhether e db (t ∷ tables) stand =
    ((¬ StandsAt e db t) × (stand ≡ false)) ⊎ (StandsAt e db t × IsWhether e db tables stand)

-- ---- the names of later versions

abbrev pub newest_names : List (List ℕ)
newest_names = codes "history" ∷ codes "stations_4" ∷ codes "riders_4" ∷ codes "books" ∷ []

abbrev pub newer_names : Earlier → List (List ℕ)
newer_names First = codes "regions" ∷ codes "stations_3" ∷ codes "more_names" ∷ newest_names
newer_names Second = codes "stations_3" ∷ codes "more_names" ∷ newest_names
newer_names Third = newest_names

-- none of them is used
abbrev pub AreNewerFree : Earlier → Schema → Type 0
AreNewerFree e schema = IsTrue (list_all (is_unused schema) (newer_names e))

-- `kept` lies there, and they are free
abbrev pub IsKeptAlone : Earlier → Database → Type 0
IsKeptAlone e db = KeptLies db × AreNewerFree e db.schema

-- The database is of this version: its tables stand there, `kept` lies there, and room is left for the newer ones.
pub record IsAt (e : Earlier) (db : Database) : Type 0 where
  pub has : HasTablesAt e db
  pub counts : HasCounts db
  pub kept : KeptLies db
  pub free : AreNewerFree e db.schema
