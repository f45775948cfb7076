-- What raising makes of a database of an earlier version.
use Rattle.std.specs.Prelude.{◌≡◌, ℕ, Bool, false, List, [], ◌∷◌, ◌++◌, map, IsTrue}
use Rattle.std.specs.List.{list_any, AllByRecursion}
use Rattle.sqlite_value.specs.Order.{Row, column}
use Rattle.sqlite_schema.specs.declared.schema.Schema.{Schema}
use Rattle.sqlite.specs.Effect.{Database, IsDatabase}
use Rattle.bike_sql.specs.Makes.{IsFree}
use Rattle.bike_sql.specs.Layout.{Layout}
use Rattle.bike_sql.specs.Stands.{is_same_text, rows_of, Stands, Stays, Indexes}
use Rattle.bike_book.specs.declared.version.TheConstants.{NEWEST}
use Rattle.bike_book.specs.Tables.{TableName, Tables, Meta, Stations, Riders, History, MoreNames, Books, keys_of}
use Rattle.bike_book.specs.Tables.{with_rows}
use Rattle.bike_book.specs.Stored.{numbers_from}
use Rattle.bike_book.specs.Rows.{number_value}
use Rattle.bike_book.specs.Writes.{RowWrite, Add, Set, tables_after}
use Rattle.bike_schema.specs.Layouts.{layout_of, name_of}
use Rattle.bike_schema.specs.Indexes.{TableIndex, HasIndex, more_names_by_language, more_names_by_thing, history_by_key}
use Rattle.bike_schema.specs.Makes.{Makes, OthersStay}
use Rattle.bike_schema.specs.Tables.{tables_of, HasTables, IsOurs, is_parent, product_names}
use Rattle.bike_sql.specs.Drops as drops
use Rattle.bike_recognition.specs.Recognition.{meta_version}
use Rattle.bike_recognition.specs.declared.version.MetaVersion.TheVariants.{Version}
use Rattle.bike_recognition.specs.declared.earlier_versions.earlier.Earlier.{Earlier}
use Rattle.bike_recognition.specs.EarlierVersions.Earlier.{IsAt, number_of, bounds_docks, stations_name}
use Rattle.bike_recognition.specs.EarlierVersions.Earlier.{stations_layout, completed, tables_at}
use Rattle.bike_recognition.specs.EarlierVersions.Counts.{counts_name, HasCounts, old_counts}
use Rattle.bike_recognition.specs.EarlierVersions.Riders.{riders_name, HasRiders, old_riders, completed_rider}
use Rattle.bike_recognition.specs.EarlierVersions.Kept.{KeptLies, kept_name, kept_rows}
use Rattle.bike_migrate.specs.Spared.{is_among, Spares}

-- It is of this earlier version, as the row of `meta` tells, too.
pub record IsEarlier (e : Earlier) (db : Database) : Type 0 where
  pub is_at : IsAt e db
  pub version : meta_version db ≡ Version (number_of e)

-- ---- the old tables

-- the rows of its table of stations, as they stand there
abbrev pub old_stations : Earlier → Database → List Row
old_stations e = rows_of 1 (stations_name e)

-- these are the rows of its old tables that are read at first: of stations, of `riders`, and of `kept` in the order of
-- their rowids
abbrev pub AreOldRows : Earlier → List Row → List Row → List Row → Database → Type 0
AreOldRows e stations riders kept db =
    (stations ≡ old_stations e db) × (riders ≡ old_riders db) × (kept ≡ kept_rows db)

-- its table of stations stands
abbrev pub HasOld : Earlier → Database → Type 0
HasOld e db = Stands db 1 (stations_layout e)

-- .. and so do `riders` and `counts`, and `kept` lies there
abbrev pub HasOldTables : Earlier → Database → Type 0
HasOldTables e db = HasOld e db × HasRiders db × HasCounts db × KeptLies db

-- it is of this version, and these are the rows of its old tables
abbrev pub HasOldRows : Earlier → List Row → List Row → List Row → Database → Type 0
HasOldRows e stations riders kept db = IsAt e db × AreOldRows e stations riders kept db

abbrev pub WasRead : Earlier → List Row → List Row → List Row → Database → Type 0
WasRead e stations riders kept db = IsEarlier e db × AreOldRows e stations riders kept db

-- the names of the tables that go
abbrev pub old_names : Earlier → List (List ℕ)
old_names e = kept_name ∷ counts_name ∷ riders_name ∷ stations_name e ∷ []

-- ---- the tables

-- what changes in the row of `meta`: the version is the newest, and the sums are 0, since nothing was archived
abbrev pub version_write : RowWrite
version_write =
    Set Meta (number_value 1 ∷ []) ((2, number_value NEWEST) ∷ (4, number_value 0) ∷ (5, number_value 0) ∷ [])

-- a station added to the newest table, where these are the rows of `counts`
abbrev pub station_write : List Row → Row → RowWrite
station_write counts row = Add Stations (completed counts row)

abbrev pub station_writes : List Row → List Row → List RowWrite
station_writes counts = map (station_write counts)

-- a rider added to the newest table
abbrev pub rider_write : Row → RowWrite
rider_write row = Add Riders (completed_rider row)

abbrev pub rider_writes : List Row → List RowWrite
rider_writes = map rider_write

-- a row of `kept` as one of `history`, with its number and of moment 0
abbrev pub request_row : ℕ × Row → Row
request_row e = number_value e.0 ∷ number_value 0 ∷ map (column e.1) (0 ∷ 1 ∷ 2 ∷ 3 ∷ [])

-- each of these rows added to `history`, numbered from 1
abbrev pub request_writes : List Row → List RowWrite
request_writes rows = map (λ e. Add History (request_row e)) (numbers_from 1 rows)

-- the version and the stations
abbrev pub first_writes : List Row → List Row → List RowWrite
first_writes counts stations = version_write ∷ station_writes counts stations

-- the riders and the requests
abbrev pub later_writes : List Row → List Row → List RowWrite
later_writes riders kept = rider_writes riders ++ request_writes kept

-- all of it
abbrev pub fill_writes : List Row → List Row → List Row → List Row → List RowWrite
fill_writes counts stations riders kept = first_writes counts stations ++ later_writes riders kept

-- THE TABLES RAISED: what they are at the version, with that change
abbrev pub tables_raised : Earlier → Database → Tables
tables_raised e db = tables_after version_write (tables_at e db)

-- All newest tables stand, and hold what the database held at the version.
pub record IsRaised (e : Earlier) (old new : Database) : Type 0 where
  pub sound : IsDatabase new
  pub has : HasTables new
  pub tables : tables_of new ≡ tables_raised e old

-- ---- the indexes

-- The schema has the indexes of further names, as the newest version has them.
pub record HasNameIndexes (s : Schema) : Type 0 where
  pub by_language : HasIndex s more_names_by_language
  pub by_thing : HasIndex s more_names_by_thing

-- The schema has the indexes of the tables that were made.
pub record HasNewIndexes (e : Earlier) (s : Schema) : Type 0 where
  pub names : IsTrue (bounds_docks e) → HasNameIndexes s
  pub requests : HasIndex s history_by_key

-- ---- on the way there: every table of another name than the newest stays, and so the old ones

-- each table that stands stays
abbrev pub AllStay : Database → Database → Type 0
AllStay old new = (keys : ℕ) (layout : Layout) → Stands old keys layout → Stays old new keys layout

-- `kept` lies there still
abbrev pub KeptStays : Database → Database → Type 0
KeptStays old new = KeptLies old → KeptLies new

-- no foreign key names these names
abbrev pub AreUnnamed : List (List ℕ) → Database → Type 0
AreUnnamed names db = AllByRecursion (λ name. is_parent db.schema name ≡ false) names

abbrev pub IsUnnamed : TableName → Database → Type 0
IsUnnamed t = AreUnnamed (name_of t ∷ [])

-- what no foreign key named, none names
abbrev pub StayUnnamed : Database → Database → Type 0
StayUnnamed old new = (name : List ℕ) → is_parent old.schema name ≡ false → is_parent new.schema name ≡ false

-- the table was made, with no rows
pub record MakesTable (t : TableName) (old new : Database) : Type 0 where
  pub sound : IsDatabase new
  pub stands : Stands new (keys_of t) (layout_of t)
  pub no_rows : rows_of (keys_of t) (name_of t) new ≡ []
  pub unnamed : StayUnnamed old new
  pub stays : AllStay old new
  pub spares : Spares [] old new
  pub kept : KeptStays old new

-- the index was made
pub record MakesIndex (i : TableIndex) (old new : Database) : Type 0 where
  pub indexes : Indexes old new
  pub has : HasIndex new.schema i
  pub spares : Spares [] old new
  pub kept : KeptStays old new

-- .. and so were both of further names
pub record MakesIndexes (old new : Database) : Type 0 where
  pub indexes : Indexes old new
  pub has : HasNameIndexes new.schema
  pub spares : Spares [] old new
  pub kept : KeptStays old new

-- the table of further names was made, with its indexes and no rows
pub record MakesNames (old new : Database) : Type 0 where
  pub sound : IsDatabase new
  pub names : Stands new (keys_of MoreNames) (layout_of MoreNames)
  pub no_names : rows_of (keys_of MoreNames) (name_of MoreNames) new ≡ []
  pub indexes : HasNameIndexes new.schema
  pub unnamed : StayUnnamed old new
  pub stays : AllStay old new
  pub spares : Spares [] old new
  pub kept : KeptStays old new

-- .. and that of the history, with its index and no rows
pub record MakesHistory (old new : Database) : Type 0 where
  pub sound : IsDatabase new
  pub history : Stands new (keys_of History) (layout_of History)
  pub no_history : rows_of (keys_of History) (name_of History) new ≡ []
  pub index : HasIndex new.schema history_by_key
  pub unnamed : StayUnnamed old new
  pub stays : AllStay old new
  pub spares : Spares [] old new
  pub kept : KeptStays old new

-- the tables that every earlier version lacks, the one after the other: those of riders and of what was archived ..
abbrev pub MakesRiders : Database → Database → Type 0
MakesRiders old new = (mid : Database) × MakesTable Riders old mid × MakesTable Books mid new

-- .. before them that of stations ..
abbrev pub MakesStations : Database → Database → Type 0
MakesStations old new = (mid : Database) × MakesTable Stations old mid × MakesRiders mid new

-- .. and before all that of the history
abbrev pub MakesLater : Database → Database → Type 0
MakesLater old new = (mid : Database) × MakesHistory old mid × MakesStations mid new

-- .. and those that the first two versions lack
abbrev pub MakesMore : Database → Database → Type 0
MakesMore old new = (mid : Database) × MakesNames old mid × MakesLater mid new

-- the tables without the rows that are added as they are filled
abbrev pub emptied : Tables → Tables
emptied t = with_rows History [] (with_rows Riders [] (with_rows Stations [] t))

-- the newest tables were made, and those are empty that get their rows from the old ones
pub record MakesTables (e : Earlier) (old new : Database) : Type 0 where
  pub sound : IsDatabase new
  pub has : HasTables new
  pub tables : tables_of new ≡ emptied (tables_at e old)
  pub indexes : HasNewIndexes e new.schema
  pub others : OthersStay old new
  pub spares : Spares [] old new
  pub kept : KeptStays old new

-- the tables whose rows change as the version is set, as the stations are added, as the riders are, and the requests
abbrev pub version_names : List (List ℕ)
version_names = name_of Meta ∷ []

abbrev pub station_names : List (List ℕ)
station_names = name_of Meta ∷ name_of Stations ∷ []

abbrev pub rider_names : List (List ℕ)
rider_names = name_of Riders ∷ []

abbrev pub request_names : List (List ℕ)
request_names = name_of History ∷ []

-- as riders and requests are
abbrev pub later_names : List (List ℕ)
later_names = name_of History ∷ rider_names

-- as all are filled
abbrev pub filled_names : List (List ℕ)
filled_names = later_names ++ station_names

-- these writes were made, and nothing else, to tables of these names
pub record WritesOnly (names : List (List ℕ)) (writes : List RowWrite) (old new : Database) : Type 0 where
  pub makes : Makes writes old new
  pub spares : Spares names old new
  pub kept : KeptStays old new

-- .. which rest on the rows of `counts` that were there
abbrev pub WritesBeside : List (List ℕ) → (List Row → List RowWrite) → Database → Database → Type 0
WritesBeside names writes old new = WritesOnly names (writes (old_counts old)) old new

-- the newest tables stand, and `counts` beside them
abbrev pub IsOursBeside : Database → Type 0
IsOursBeside db = IsOurs db × HasCounts db

-- they are filled
pub record Fills (e : Earlier) (old new : Database) : Type 0 where
  pub raised : IsRaised e old new
  pub indexes : HasNewIndexes e new.schema
  pub others : OthersStay old new
  pub spares : Spares filled_names old new
  pub kept : KeptLies new

-- ---- at the end

-- the table of this name is gone, and each other stays
pub record DropsTable (name : List ℕ) (old new : Database) : Type 0 where
  pub sound : IsDatabase new
  pub gone : IsFree new.schema name
  pub frees : (other : List ℕ) → IsFree old.schema other → IsFree new.schema other
  pub others : drops.OthersStay name old new
  pub spares : Spares (name ∷ []) old new

-- nothing has one of these names
abbrev pub AreGone : List (List ℕ) → Schema → Type 0
AreGone names s = AllByRecursion (λ name. IsFree s name) names

-- the old tables are gone, and each other stays
pub record DropsOld (e : Earlier) (old new : Database) : Type 0 where
  pub sound : IsDatabase new
  pub gone : AreGone (old_names e) new.schema
  pub others : (keys : ℕ) (layout : Layout) → is_among (old_names e) layout.name ≡ false → Stands old keys layout
      → Stays old new keys layout
  pub spares : Spares (old_names e) old new

-- the name is that of a table of the product, at some version
abbrev pub is_product_name : List ℕ → Bool
is_product_name name = list_any (is_same_text name) product_names

-- each table of another name stands as it did, with the rows that it had
abbrev pub OthersKept : Database → Database → Type 0
OthersKept old new =
    (keys : ℕ) (layout : Layout) → is_product_name layout.name ≡ false → Stands old keys layout
    → Stays old new keys layout

-- the tables that a raise changes or drops
abbrev pub changed_names : Earlier → List (List ℕ)
changed_names e = old_names e ++ filled_names

-- THE DATABASE IS RAISED, and nothing else is changed.
pub record Raises (e : Earlier) (old new : Database) : Type 0 where
  pub raised : IsRaised e old new
  -- nothing has the name of an old table
  pub gone : AreGone (old_names e) new.schema
  pub indexes : HasNewIndexes e new.schema
  pub others : OthersKept old new
  -- whatever the columns, keys and rules of a table are, and whether it is the product's or not
  pub spares : Spares (changed_names e) old new
