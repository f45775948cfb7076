-- Which version of the schema a database is of.
use Rattle.std.specs.Prelude.{◌≡◌, ◌⊎◌, ◌==◌, if◌then◌else◌, ℕ, Option, Some, None}
use Rattle.std.specs.Ordering.{nat_cmp}
use Rattle.std.specs.declared.cmp.Ordering.{Ordering}
use Rattle.std.specs.declared.cmp.Ordering.TheVariants.{Less, Equal, Greater}
use Rattle.sqlite.specs.Effect.{Database}
use Rattle.bike_book.specs.declared.version.TheConstants.{NEWEST}
use Rattle.bike_book.specs.Tables.{Meta}
use Rattle.bike_schema.specs.Tables.{HasTables, HasNone}
use Rattle.bike_recognition.specs.Recognition.{TableStands, meta_version}
use Rattle.bike_recognition.specs.declared.version.MetaVersion.{MetaVersion}
use Rattle.bike_recognition.specs.declared.version.MetaVersion.TheVariants.{Missing, Version, NotOurs}
use Rattle.bike_recognition.specs.declared.earlier_versions.earlier.Earlier.{Earlier}
use Rattle.bike_recognition.specs.declared.earlier_versions.earlier.Earlier.TheVariants.{First, Second, Third}
use Rattle.bike_recognition.specs.EarlierVersions.Earlier.{IsAt}
use Rattle.bike_recognition.specs.declared.earlier_versions.found.Found.{Found}
use Rattle.bike_recognition.specs.declared.earlier_versions.found.Found.TheVariants as found

-- the earlier version of this number
abbrev pub earlier_of : ℕ → Option Earlier
earlier_of n =
    if n == 1 then Some First else (if n == 2 then Some Second else (if n == 3 then Some Third else None))

-- at the newest version: all tables stand, or some doesn't
abbrev pub IsNewest : Database → Found → Type 0
IsNewest db f = (HasTables db × (f ≡ found.Newest)) ⊎ ((¬ HasTables db) × (f ≡ found.Foreign))

-- at an earlier one: it is of that version, or it isn't
abbrev pub IsOfEarlier : Database → Option Earlier → Found → Type 0
IsOfEarlier db None f = f ≡ found.Foreign
IsOfEarlier db (Some e) f = (IsAt e db × (f ≡ found.Of e)) ⊎ ((¬ IsAt e db) × (f ≡ found.Foreign))

-- by how its number compares with the newest version's
abbrev pub IsByNumber : Database → ℕ → Ordering → Found → Type 0
IsByNumber db v Less f = IsOfEarlier db (earlier_of v) f
IsByNumber db v Equal f = IsNewest db f
IsByNumber db v Greater f = f ≡ found.Newer v

-- what row 1 of meta tells; where it is missing the newest version is taken
abbrev pub IsByVersion : Database → MetaVersion → Found → Type 0
IsByVersion db NotOurs f = f ≡ found.Foreign
IsByVersion db Missing f = IsNewest db f
IsByVersion db (Version v) f = IsByNumber db v (nat_cmp v NEWEST) f

-- meta doesn't stand, or its row 1 decides
abbrev pub IsByMeta : Database → Found → Type 0
IsByMeta db f =
    ((¬ TableStands Meta db) × (f ≡ found.Foreign)) ⊎ (TableStands Meta db × IsByVersion db (meta_version db) f)

-- WHICH VERSION IT IS OF: none of the product's names is used, or meta decides
abbrev pub IsFoundAs : Database → Found → Type 0
IsFoundAs db f = (HasNone db.schema × (f ≡ found.Empty)) ⊎ ((¬ HasNone db.schema) × IsByMeta db f)
