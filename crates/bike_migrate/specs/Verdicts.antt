-- The verdict on the tables of an earlier version: the rules of the audit, and the bound of docks.
use Rattle.std.specs.Prelude.{◌≡◌, ◌<◌, true, take, Option, Some, None, option_map, IfSome}
use Rattle.std.specs.Ordering.{nat_cmp}
use Rattle.std.specs.declared.cmp.Ordering.{Ordering}
use Rattle.std.specs.declared.cmp.Ordering.TheVariants.{Less, Equal, Greater}
use Rattle.sqlite_value.specs.Order.{Row, row_cmp}
use Rattle.bike_book.specs.Tables.{TableName, Tables, keys_of, table_place, Stations}
use Rattle.bike_readings.specs.Rules.{row_under, IsGoodKey, AllGood, IsFirstBad}
use Rattle.bike_judges.specs.Least.{least_key}
use Rattle.bike_recognition.specs.declared.earlier_versions.earlier.Earlier.{Earlier}
use Rattle.bike_recognition.specs.declared.earlier_versions.earlier.Earlier.TheVariants.{First, Second, Third}
use Rattle.bike_migrate.specs.Stations.{has_few}

-- a row under a key of stations has no more docks than an earlier version allows
abbrev pub KeepsBound : Tables → TableName → Row → Type 0
KeepsBound t Stations key = IfSome (row_under t Stations key) (λ row. has_few row ≡ true)
KeepsBound t _ key = Unit {0}

-- A KEY OF A TABLE IS GOOD at a version that bounds the docks. The tables are told as raised.
pub record IsGoodBefore (t : Tables) (name : TableName) (key : Row) : Type 0 where
  pub good : IsGoodKey t name key
  pub few : KeepsBound t name key

abbrev pub AllGoodBefore : Tables → Type 0
AllGoodBefore t = (name : TableName) (key : Row) → IsGoodBefore t name key

-- The key is the first bad one, by the order of the tables and then of the
-- keys of the table. Where it has a row, it is written as the row has it.
pub record IsFirstBadBefore (t : Tables) (name : TableName) (key : Row) : Type 0 where
  pub bad : IsGoodBefore t name key → ⊥
  pub own : IfSome (row_under t name key) (λ row. take (keys_of name) row ≡ key)
  pub before : (other : Row) → row_cmp other key ≡ Less → IsGoodBefore t name other
  pub earlier : (table : TableName) (other : Row) → table_place table < table_place name → IsGoodBefore t table other

-- all keys are good, or this is the first bad one
abbrev pub IsVerdictBefore : Tables → Option (TableName × Row) → Type 0
IsVerdictBefore t None = AllGoodBefore t
IsVerdictBefore t (Some bad) = IsFirstBadBefore t bad.0 bad.1

-- ---- at each version

-- all keys are good: by the rules of the audit, and by the bound of docks where the version has it
abbrev pub AllGoodAt : Earlier → Tables → Type 0
AllGoodAt First t = AllGoodBefore t
AllGoodAt Second t = AllGoodBefore t
AllGoodAt Third t = AllGood t

-- the key is the first bad one
abbrev pub IsFirstBadAt : Earlier → Tables → TableName → Row → Type 0
IsFirstBadAt First t name key = IsFirstBadBefore t name key
IsFirstBadAt Second t name key = IsFirstBadBefore t name key
IsFirstBadAt Third t name key = IsFirstBad t name key

-- THE VERDICT on the tables of the version, told as raised: all keys are good, or this is the first bad one
abbrev pub IsVerdictAt : Earlier → Tables → Option (TableName × Row) → Type 0
IsVerdictAt e t None = AllGoodAt e t
IsVerdictAt e t (Some bad) = IsFirstBadAt e t bad.0 bad.1

-- ---- the first bad row of the audit's and of the first station over the bound

-- a bad row of stations and the key of another: the lesser
abbrev pub lesser_of : Ordering → TableName × Row → Row → Option (TableName × Row)
lesser_of Less bad key = Some bad
lesser_of Equal bad key = option_map (λ k. (Stations, k)) (least_key (Some bad.1) (Some key))
lesser_of Greater bad key = Some (Stations, key)

-- how the table stands to that of stations in the order of the tables
abbrev pub against_stations : TableName → Ordering
against_stations t = nat_cmp (table_place t) (table_place Stations)

-- the first of a bad row and a station's key
abbrev pub first_of : Option (TableName × Row) → Option Row → Option (TableName × Row)
first_of found None = found
first_of None (Some key) = Some (Stations, key)
first_of (Some bad) (Some key) = lesser_of (against_stations bad.0) bad key
