-- What a database is to this product, of which nothing is known before.
use Rattle.std.specs.Prelude.{◌≡◌, ◌⊎◌, ◌==◌, ℤ, pos, if◌then◌else◌, Bool, false, List, [], ◌∷◌, Option, Some, None}
use Rattle.std.specs.Prelude.{Result}
use Rattle.std.specs.Str.{bytes_eq}
use Rattle.std.specs.Ordering.{nat_cmp, match_ordering}
use Rattle.sqlite_value.specs.declared.value.Value.{Value}
use Rattle.sqlite_value.specs.declared.value.Value.TheVariants.{Int, Text}
use Rattle.sqlite_value.specs.Order.{Row, column}
use Rattle.sqlite_trees.specs.declared.store.Store.{Ghosts}
use Rattle.sqlite.specs.Effect.{Database}
use Rattle.sqlite.specs.Held.{Held}
use Rattle.bike_sql.specs.Calls.{ReadsWhere}
use Rattle.bike_sql.specs.Stands.{rows_of, Stands}
use Rattle.bike_sql.specs.View.{row_with}
use Rattle.bike_book.specs.declared.version.TheConstants.{NEWEST}
use Rattle.bike_book.specs.Tables.{TableName, Meta, keys_of}
use Rattle.bike_schema.specs.declared.create.TheConstants.{APP}
use Rattle.bike_schema.specs.Columns.{whole_in}
use Rattle.bike_schema.specs.Layouts.{layout_of, name_of}
use Rattle.bike_schema.specs.Tables.{HasTables, HasNone}
use Rattle.bike_recognition.specs.declared.version.MetaVersion.{MetaVersion}
use Rattle.bike_recognition.specs.declared.version.MetaVersion.TheVariants.{Missing, Version, NotOurs}
use Rattle.bike_recognition.specs.declared.recognition.Recognition.{Recognition}
use Rattle.bike_recognition.specs.declared.recognition.Recognition.TheVariants.{Empty, Foreign, Older, Newer, Ours}

-- ---- calls

abbrev pub AnyDatabase : Database → Type 0
AnyDatabase db = Unit {0}

-- a read of a database of which nothing is known
abbrev pub ReadsAny : {S X E : Type 0} → Ghosts S → Held S → Held S → Result X E → (Database → X → Type 0) → Type 0
ReadsAny g old new result says = ReadsWhere g AnyDatabase old new result says

-- ---- the tables

-- the table stands in the database: found by its name at whatever place, with exactly its columns and keys
abbrev pub TableStands : TableName → Database → Type 0
TableStands t db = Stands db (keys_of t) (layout_of t)

-- the first of the tables that doesn't stand, or none where all do
abbrev pub IsFirstMissing : Database → List TableName → Option TableName → Type 0
IsFirstMissing db [] missing = missing ≡ None
IsFirstMissing db (t ∷ tables) missing =
    ((¬ TableStands t db) × (missing ≡ Some t)) ⊎ (TableStands t db × IsFirstMissing db tables missing)

-- ---- the version

-- a text that is the product's name
abbrev pub is_app : Value → Bool
is_app (Text text) = bytes_eq text APP.now
is_app _ = false

-- a whole number from 1 on
abbrev pub version_of : Option ℤ → MetaVersion
version_of (Some (pos v)) = if v == 0 then NotOurs else Version v
version_of _ = NotOurs

-- row 1 of `meta`: one, app, version, ..
abbrev pub version_in : Option Row → MetaVersion
version_in None = Missing
version_in (Some row) = if is_app (column row 1) then version_of (whole_in (column row 2)) else NotOurs

-- what row 1 of the database's `meta` tells
abbrev pub meta_version : Database → MetaVersion
meta_version db = version_in (row_with (keys_of Meta) (Int (pos 1) ∷ []) (rows_of (keys_of Meta) (name_of Meta) db))

-- ---- what the database is, in the order of these tests

-- at the newest version: all tables stand, or some doesn't
abbrev pub IsByTables : Database → Recognition → Type 0
IsByTables db r = (HasTables db × (r ≡ Ours)) ⊎ ((¬ HasTables db) × (r ≡ Foreign))

-- what row 1 of `meta` tells alone; where it is missing, or of the newest version, the tables decide
abbrev pub told_by : MetaVersion → Option Recognition
told_by NotOurs = Some Foreign
told_by Missing = None
told_by (Version v) = match_ordering (nat_cmp v NEWEST) (Some (Older v)) None (Some (Newer v))

-- as was told before the other tables are looked at, or by them
abbrev pub IsAsTold : Database → Option Recognition → Recognition → Type 0
IsAsTold db (Some told) r = r ≡ told
IsAsTold db None r = IsByTables db r

-- row 1 of `meta` decides, or the tables
abbrev pub IsByVersion : Database → Recognition → Type 0
IsByVersion db r = IsAsTold db (told_by (meta_version db)) r

-- `meta` doesn't stand, or its row 1 decides
abbrev pub IsByMeta : Database → Recognition → Type 0
IsByMeta db r = ((¬ TableStands Meta db) × (r ≡ Foreign)) ⊎ (TableStands Meta db × IsByVersion db r)

-- none of the product's names is used, or `meta` decides
abbrev pub IsRecognised : Database → Recognition → Type 0
IsRecognised db r = (HasNone db.schema × (r ≡ Empty)) ⊎ ((¬ HasNone db.schema) × IsByMeta db r)
