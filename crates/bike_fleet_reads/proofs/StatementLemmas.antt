-- What each statement finds.
use Rattle.std.proofs.Common.{ℕ, List, [], ◌∷◌, codes, length, map, Option, Some, slice_get, refl, subst}
use Rattle.sqlite_value.specs.declared.value.Value.TheVariants.{Text, Blob}
use Rattle.sqlite_value.specs.Order.{Row}
use Rattle.sqlite_sql.specs.Aggregate.{count}
use Rattle.sqlite_sql.specs.Term.{Term, col}
use Rattle.sqlite_tied.specs.Compute.{everything}
use Rattle.sqlite.specs.Effect.{Database}
use Rattle.bike_sql.specs.View.{row_with, rows_where, last_of}
use Rattle.bike_sql.proofs.PageLaw.{map_same_list}
use Rattle.bike_sql.specs.Answer.{HasOneAnswer}
use Rattle.bike_sql.proofs.RowListLemmas.{filter_all}
use Rattle.bike_sql.proofs.SelectLaws.{first_with, last_row, rows_with_null, every_column}
use Rattle.bike_sql.proofs.WalkLaw.{Finds}
use Rattle.bike_book.specs.Tables.{Types, Regions, Stations, Docks, Bikes, Trucks, Orders}
use Rattle.bike_book.specs.Rows.{number_value}
use Rattle.bike_schema.specs.Layouts.{layout_of}
use Rattle.bike_schema.specs.Tables.{tables_of}
use Rattle.bike_schema.proofs.AnswerLemmas.{FindsIn, keyed_in, in_table}
use Rattle.bike_schema.proofs.CountLemmas.{counted_in}
use Rattle.bike_schema.proofs.KeyLemmas.{table_key}
use Rattle.bike_schema.specs.Within.{rows_from, rows_within}
use Rattle.bike_schema.proofs.ListedLemmas.{ListsIn}
use Rattle.bike_schema.proofs.WithinLaw.{keyed_within, lists_within}
use Rattle.bike_fleet_reads.specs.Holds.{order_column}

-- ---- by the key

pub finds_station : (station : List ℕ) → FindsIn (codes "SELECT * FROM stations_4 WHERE station_id = ?1") (Text station ∷ []) (λ t. row_with 1 (Text station ∷ []) t.stations)
unfolding everything
finds_station station = keyed_in Stations (λ tree. refl, refl) refl

pub finds_dock : (station : List ℕ) (dock : ℕ) → FindsIn (codes "SELECT * FROM docks WHERE station_id = ?1 AND dock = ?2") (Text station ∷ number_value dock ∷ [])
    (λ t. row_with 2 (Text station ∷ number_value dock ∷ []) t.docks)
unfolding everything
finds_dock station dock = keyed_in Docks (λ tree. refl, refl) refl

pub finds_bike : (bike : ℕ) → FindsIn (codes "SELECT * FROM bikes WHERE bike = ?1") (number_value bike ∷ []) (λ t. row_with 1 (number_value bike ∷ []) t.bikes)
unfolding everything
finds_bike bike = keyed_in Bikes (λ tree. refl, refl) refl

pub finds_order : (order : ℕ) → FindsIn (codes "SELECT * FROM orders WHERE ord = ?1") (number_value order ∷ []) (λ t. row_with 1 (number_value order ∷ []) t.orders)
unfolding everything
finds_order order = keyed_in Orders (λ tree. refl, refl) refl

-- ---- between two keys

abbrev types_text : List ℕ
types_text = codes "SELECT * FROM types WHERE type_id >= ?1 AND type_id <= ?2 ORDER BY type_id"

pub finds_type : (type_id : List ℕ) → FindsIn types_text (Text type_id ∷ Text type_id ∷ []) (λ t. row_with 1 (Text type_id ∷ []) t.types)
unfolding everything
finds_type type_id = keyed_within Types 1 (Text type_id) refl (λ r. refl) (λ tree. refl, refl)

pub lists_types_from : (start : List ℕ) → ListsIn types_text (Text start ∷ Blob [] ∷ []) (λ t. rows_from start t.types)
unfolding everything
lists_types_from start = lists_within Types 1 (Text start) (Blob []) refl refl (λ r. refl) (λ tree. refl, refl)

abbrev regions_text : List ℕ
regions_text = codes "SELECT * FROM regions WHERE region_id >= ?1 AND region_id <= ?2 ORDER BY region_id"

pub finds_region : (region : List ℕ) → FindsIn regions_text (Text region ∷ Text region ∷ []) (λ t. row_with 1 (Text region ∷ []) t.regions)
unfolding everything
finds_region region = keyed_within Regions 1 (Text region) refl (λ r. refl) (λ tree. refl, refl)

pub lists_regions_from : (start : List ℕ) → ListsIn regions_text (Text start ∷ Blob [] ∷ []) (λ t. rows_from start t.regions)
unfolding everything
lists_regions_from start = lists_within Regions 1 (Text start) (Blob []) refl refl (λ r. refl) (λ tree. refl, refl)

abbrev trucks_text : List ℕ
trucks_text = codes "SELECT * FROM trucks WHERE truck >= ?1 AND truck <= ?2 ORDER BY truck"

pub finds_truck : (truck : ℕ) → FindsIn trucks_text (number_value truck ∷ number_value truck ∷ []) (λ t. row_with 1 (number_value truck ∷ []) t.trucks)
unfolding everything
finds_truck truck = keyed_within Trucks 0 (number_value truck) refl (λ r. refl) (λ tree. refl, refl)

pub lists_trucks : ListsIn trucks_text (number_value 0 ∷ Blob [] ∷ []) (λ t. rows_within (number_value 0) (Blob []) t.trucks)
unfolding everything
lists_trucks = lists_within Trucks 0 (number_value 0) (Blob []) refl refl (λ r. refl) (λ tree. refl, refl)

-- ---- by other columns, and the last rows

abbrev in_dock : List ℕ → ℕ → List Row → List Row
in_dock station dock = rows_where (3 ∷ 4 ∷ []) (Text station ∷ number_value dock ∷ [])

pub finds_docked : (station : List ℕ) (dock : ℕ) → FindsIn (codes "SELECT * FROM bikes WHERE station_id = ?1 AND dock = ?2 ORDER BY bike LIMIT 1") (Text station ∷ number_value dock ∷ [])
    (λ t. slice_get (in_dock station dock t.bikes) 0)
unfolding everything
finds_docked station dock =
    let shown = λ (db : Database) (rows : List Row). Finds db (codes "SELECT * FROM bikes WHERE station_id = ?1 AND dock = ?2 ORDER BY bike LIMIT 1") (Text station ∷ number_value dock ∷ []) (slice_get rows 0) in
    in_table Bikes (λ rows. slice_get (in_dock station dock rows) 0)
    (λ db has. subst (shown db) (map_same_list _) (first_with (table_key Bikes) (has Bikes) (every_column (layout_of Bikes)) (λ row. row) (λ r. refl) 0 (3 ∷ 4 ∷ []) (λ tree. refl, refl) refl
    (λ r. refl)))

pub finds_last_order : FindsIn (codes "SELECT * FROM orders ORDER BY ord DESC LIMIT 1") [] (λ t. slice_get (last_of t.orders) 0)
unfolding everything
finds_last_order = in_table Orders (λ rows. slice_get (last_of rows) 0) (λ db has. last_row (table_key Orders) (has Orders) (λ tree. refl, refl))

pub finds_last_bike : FindsIn (codes "SELECT * FROM bikes ORDER BY bike DESC LIMIT 1") [] (λ t. slice_get (last_of t.bikes) 0)
unfolding everything
finds_last_bike = in_table Bikes (λ rows. slice_get (last_of rows) 0) (λ db has. last_row (table_key Bikes) (has Bikes) (λ tree. refl, refl))

-- the order of each bicycle on a truck, where it is stored
abbrev order_columns : List Term
order_columns = col 1 8 ∷ []

abbrev orders_text : List ℕ
orders_text = codes "SELECT ord FROM bikes WHERE truck = ?1 ORDER BY bike"

pub lists_orders : (truck : ℕ) → ListsIn orders_text (number_value truck ∷ []) (λ t. map order_column (rows_where (6 ∷ []) (number_value truck ∷ []) t.bikes))
unfolding everything
lists_orders truck = record {
  lists = λ db has. subst (λ rows. HasOneAnswer db orders_text (number_value truck ∷ []) (map order_column rows)) (filter_all (rows_where (6 ∷ []) (number_value truck ∷ []) (tables_of db).bikes))
      (rows_with_null (table_key Bikes) (has Bikes) {params = number_value truck ∷ []} order_columns order_column (λ r. refl) 0 (6 ∷ []) [] (λ tree. refl, refl) refl (λ r. refl) (λ r. refl));
}

-- ---- counts of all rows

abbrev count_row_of : List Row → Option Row
count_row_of rows = Some (count (length rows) ∷ [])

pub counts_stations : FindsIn (codes "SELECT count(*) FROM stations_4") [] (λ t. count_row_of t.stations)
unfolding everything
counts_stations = counted_in Stations (λ tree. refl, refl)

pub counts_bikes : FindsIn (codes "SELECT count(*) FROM bikes") [] (λ t. count_row_of t.bikes)
unfolding everything
counts_bikes = counted_in Bikes (λ tree. refl, refl)
