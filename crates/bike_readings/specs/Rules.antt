-- The rules of the audit: when a key of a table is good, and the verdict on tables.
use Rattle.std.specs.Prelude.{◌≡◌, ℕ, ◌<◌, [], ◌∷◌, take, Option, Some, None, IfSome, IsSomeAnd}
use Rattle.std.specs.Ordering.{is_lt}
use Rattle.std.specs.declared.cmp.Ordering.TheVariants.{Less}
use Rattle.sqlite_value.specs.Order.{Row, row_cmp}
use Rattle.sqlite_trees.specs.Tree.{IsAscending}
use Rattle.bike_sql.specs.View.{by_key, row_with}
use Rattle.bike_operator.specs.Operator.{Operator}
use Rattle.bike_operator.specs.Counts.{count}
use Rattle.bike_operator.specs.Sound.{IsSound}
use Rattle.bike_book.specs.Tables.{TableName, Tables, rows_in, keys_of, table_place, Meta, System, Plans, Segments}
use Rattle.bike_book.specs.Tables.{Types, Regions, Stations, Docks, Bikes, Trucks, Riders, Rentals, Orders, Entries}
use Rattle.bike_book.specs.Tables.{History, MoreNames, Books}
use Rattle.bike_book.specs.Rows.{number_value}
use Rattle.bike_book.specs.Stored.{Listed, IsListing, tables_for}
use Rattle.bike_readings.specs.Readings.{meta_read, system_read, plan_read, segment_read, type_read, region_read}
use Rattle.bike_readings.specs.Readings.{station_read, dock_read, bike_read, truck_read, rider_read, rental_read}
use Rattle.bike_readings.specs.Readings.{order_read, entry_read, request_read, name_read, books_read}
use Rattle.bike_readings.specs.ReadOff.{operator_of}
use Rattle.bike_readings.specs.Demands.{IsGoodMeta, IsGoodPlan, IsGoodSegment, IsGoodType, IsGoodRegion, IsGoodStation}
use Rattle.bike_readings.specs.Demands.{IsGoodDock, IsGoodBike, IsGoodTruck, IsGoodRider, IsGoodRental, IsGoodOrder}
use Rattle.bike_readings.specs.Demands.{IsGoodEntry, IsGoodRequest, IsGoodName, IsGoodBooks}

-- ---- tables

-- Each table stands in the order of its keys, which are apart.
abbrev pub AreInOrder : Tables → Type 0
AreInOrder t = (name : TableName) → IsAscending (λ a b. by_key (keys_of name) a b ≡ Less) (rows_in t name)

abbrev pub row_under : Tables → TableName → Row → Option Row
row_under t name key = row_with (keys_of name) key (rows_in t name)

-- how many rows of the table have a lesser key
abbrev pub rows_below : Tables → TableName → Row → ℕ
rows_below t name key = count (λ row. is_lt (row_cmp (take (keys_of name) row) key)) (rows_in t name)

-- ---- good keys

-- The row spells a record of which the demands of its table hold. A row of system is good where it spells one.
abbrev pub IsGoodRow : Tables → Operator → ℕ → TableName → Row → Type 0
IsGoodRow t s below Meta row = IsSomeAnd (meta_read row) (IsGoodMeta s below)
IsGoodRow t s below System row = IsSomeAnd (system_read row) (λ x. Unit {0})
IsGoodRow t s below Plans row = IsSomeAnd (plan_read row) (IsGoodPlan s below)
IsGoodRow t s below Segments row = IsSomeAnd (segment_read row) (IsGoodSegment s below)
IsGoodRow t s below Types row = IsSomeAnd (type_read row) (IsGoodType s below)
IsGoodRow t s below Regions row = IsSomeAnd (region_read row) (IsGoodRegion s below)
IsGoodRow t s below Stations row = IsSomeAnd (station_read row) (IsGoodStation s below)
IsGoodRow t s below Docks row = IsSomeAnd (dock_read row) (IsGoodDock s below)
IsGoodRow t s below Bikes row = IsSomeAnd (bike_read row) (IsGoodBike t s below)
IsGoodRow t s below Trucks row = IsSomeAnd (truck_read row) (IsGoodTruck s below)
IsGoodRow t s below Riders row = IsSomeAnd (rider_read row) (IsGoodRider s below)
IsGoodRow t s below Rentals row = IsSomeAnd (rental_read row) (IsGoodRental s below)
IsGoodRow t s below Orders row = IsSomeAnd (order_read row) (IsGoodOrder s below)
IsGoodRow t s below Entries row = IsSomeAnd (entry_read row) (IsGoodEntry s below)
IsGoodRow t s below History row = IsSomeAnd (request_read row) (IsGoodRequest s below)
IsGoodRow t s below MoreNames row = IsSomeAnd (name_read row) (IsGoodName s below)
IsGoodRow t s below Books row = IsSomeAnd (books_read row) (IsGoodBooks s)

-- There need be no row under the key: only row 1 of meta has to be there.
abbrev pub MayLack : TableName → Row → Type 0
MayLack Meta key = key ≡ number_value 1 ∷ [] → ⊥
MayLack _ key = Unit {0}

abbrev pub IsGoodAt : Tables → Operator → TableName → Row → ℕ → Option Row → Type 0
IsGoodAt t s name key below None = MayLack name key
IsGoodAt t s name key below (Some row) = IsGoodRow t s below name row

-- A KEY OF A TABLE IS GOOD.
abbrev pub IsGoodKey : Tables → TableName → Row → Type 0
IsGoodKey t name key = IsGoodAt t (operator_of t) name key (rows_below t name key) (row_under t name key)

abbrev pub AllGood : Tables → Type 0
AllGood t = (name : TableName) (key : Row) → IsGoodKey t name key

-- ---- the verdict

-- The key is the first bad one, by the order of the tables and then of the
-- keys of the table. Where it has a row, it is written as the row has it.
pub record IsFirstBad (t : Tables) (name : TableName) (key : Row) : Type 0 where
  pub bad : IsGoodKey t name key → ⊥
  pub own : IfSome (row_under t name key) (λ row. take (keys_of name) row ≡ key)
  pub before : (other : Row) → row_cmp other key ≡ Less → IsGoodKey t name other
  pub earlier : (table : TableName) (other : Row) → table_place table < table_place name → IsGoodKey t table other

-- THE VERDICT: all keys are good, or this is the first bad one.
abbrev pub IsVerdict : Tables → Option (TableName × Row) → Type 0
IsVerdict t None = AllGood t
IsVerdict t (Some bad) = IsFirstBad t bad.0 bad.1

-- The tables are those of the operator, who is sound, with rows for these docks.
pub record AreOf (t : Tables) (s : Operator) (m : Listed) : Type 0 where
  pub sound : IsSound s
  pub listing : IsListing s m
  pub tables : t ≡ tables_for s m
