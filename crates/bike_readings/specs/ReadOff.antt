-- The operator that is read off tables, and what they hold beside it:
-- what the rows spell. A row that spells nothing is absent.
-- No sum and no count of the records is read: they are figures of them. What was archived is read: its sums and counts.
use Rattle.std.specs.Prelude.{ℕ, ℤ, zero, suc, pos, List, [], ◌∷◌, map, if◌then◌else◌, Option, Some, None, option_map}
use Rattle.std.specs.Prelude.{option_and_then, unwrap_or, max, slice_get}
use Rattle.std.specs.List.{filter_map}
use Rattle.std.specs.FinMap as fin
use Rattle.std.specs.FinSet as set
use Rattle.sqlite_value.specs.declared.value.Value.{Value}
use Rattle.sqlite_value.specs.declared.value.Value.TheVariants.{Text}
use Rattle.sqlite_value.specs.Order.{Row, column}
use Rattle.bike_fields.specs.Caller.{◌>>=◌}
use Rattle.bike_fields.specs.Values.{SegmentRow}
use Rattle.bike_catalogue.specs.Rows.{PlanRow}
use Rattle.bike_ledger.specs.Entries.{Entry}
use Rattle.bike_operator.specs.declared.records.Place.{Place}
use Rattle.bike_operator.specs.declared.records.Place.TheVariants as place
use Rattle.bike_operator.specs.declared.records.Bike.{Bike}
use Rattle.bike_operator.specs.declared.records.Rental.{Rental}
use Rattle.bike_operator.specs.declared.records.Order.{Order}
use Rattle.bike_operator.specs.Operator.{Operator, Station, Rider, Past, NameKey, DockKey, name_key, dock_key}
use Rattle.bike_sql.specs.View.{row_with, last_of}
use Rattle.bike_book.specs.Tables.{Tables}
use Rattle.bike_book.specs.Rows.{number_value}
use Rattle.bike_book.specs.Stored.{Listed}
use Rattle.bike_schema.specs.Columns.{ident_in, state_in, moment_in, or_none}
use Rattle.bike_readings.specs.ColumnReaders.{where_wide, numbered_in, serial_in, dock_in as dock_number_in}
use Rattle.bike_readings.specs.Readings.{meta_read, system_read, plan_read, segment_read, type_read, region_read}
use Rattle.bike_readings.specs.Readings.{station_read, dock_read, bike_read, truck_read, rider_read, rental_read}
use Rattle.bike_readings.specs.Readings.{order_read, entry_read, request_read, name_read, books_read}

abbrev pub first : {A : Type 0} → List A → Option A
first [] = None
first (x ∷ xs) = Some x

-- ---- plans with their segments

-- a plan has at most so many segments
abbrev pub most_segments : ℕ
most_segments = 8

-- the segment with this number of a plan, by its row
abbrev pub segment_at : List Row → List ℕ → ℕ → Option SegmentRow
segment_at rows plan seq =
    option_map (λ g. g.2) (option_and_then segment_read (row_with 2 (Text plan ∷ number_value seq ∷ []) rows))

-- a segment and those after it, and none where it is missing
abbrev pub and_after : Option SegmentRow → List SegmentRow → List SegmentRow
and_after None after = []
and_after (Some g) after = g ∷ after

-- the segments of a plan from a number on, at most so many: up to the first number that is missing
unfoldable pub segments_from : List Row → List ℕ → ℕ → ℕ → List SegmentRow
segments_from rows plan seq zero = []
segments_from rows plan seq (suc most) = and_after (segment_at rows plan seq) (segments_from rows plan (suc seq) most)

abbrev pub segments_of : List Row → List ℕ → List SegmentRow
segments_of rows plan = segments_from rows plan 1 most_segments

abbrev pub with_segments : List Row → List ℕ × PlanRow → List ℕ × PlanRow
with_segments segments e = (e.0, record e.1 { segments = segments_of segments e.0 })

-- ---- records, without the stored numbers beside them

abbrev pub plan_in : List Row → Row → Option (List ℕ × PlanRow)
plan_in segments row = option_map (with_segments segments) (plan_read row)

abbrev pub station_in : Row → Option (List ℕ × Station)
station_in row = option_map (λ e. (e.0, e.1)) (station_read row)

abbrev pub rider_in : Row → Option (ℕ × Rider)
rider_in row = option_map (λ e. (e.0, e.1)) (rider_read row)

abbrev pub rental_in : Row → Option (ℕ × Rental)
rental_in row = option_map (λ e. (e.0, e.1)) (rental_read row)

abbrev pub entry_in : Row → Option (ℕ × Entry)
entry_in row = option_map (λ e. (e.number, e)) (entry_read row)

-- the name under its key
abbrev pub name_in : Row → Option (NameKey × List ℕ)
name_in row = option_map (λ e. (name_key e.0 e.1 e.2.language, e.2.name)) (name_read row)

-- ---- bicycles

-- the first where there is one, and else the second
abbrev pub first_of : {A : Type 0} → Option A → Option A → Option A
first_of (Some x) other = Some x
first_of None other = other

-- a dock, and a truck with its order, where both parts are there
abbrev pub dock_place : Option (List ℕ) → Option ℕ → Option Place
dock_place station dock = do
  at ← station
  n ← dock
  Some (place.Dock at n)

abbrev pub truck_place : Option ℕ → Option ℕ → Option Place
truck_place truck order = do
  n ← truck
  for ← order
  Some (place.Truck n for)

-- the first whole place among what the columns of a place hold: a dock,
-- a rental, a truck with its order; the depot where there is none
abbrev pub first_place : Option (List ℕ) → Option ℕ → Option ℕ → Option ℕ → Option ℕ → Place
first_place station dock rental truck order =
    unwrap_or (first_of (dock_place station dock)
    (first_of (option_map place.Rental rental) (truck_place truck order))) place.Depot

-- the first place that the columns name: each of them is NULL or keeps its bounds, and else they name none
abbrev pub first_place_in : Value → Value → Value → Value → Value → Option Place
first_place_in station dock rental truck order = do
  at ← or_none ident_in station
  n ← or_none dock_number_in dock
  ridden ← or_none serial_in rental
  on ← or_none numbered_in truck
  for ← or_none serial_in order
  Some (first_place at n ridden on for)

-- the bicycle of a row, at the first place that it names
abbrev pub misplaced_bike : Row → Option (ℕ × Bike)
misplaced_bike row = where_wide 8 row (do
  bike ← numbered_in (column row 0)
  type_id ← ident_in (column row 1)
  state ← state_in (column row 2)
  place ← first_place_in (column row 3) (column row 4) (column row 5) (column row 6) (column row 7)
  Some (bike, record { type_id = type_id; state = state; place = place }))

-- A row that names several places, or a part of one, is bad, yet its bicycle is there, at the first of them: no other
-- row that counts it is to blame. A row with a column out of its bounds spells nothing, whatever place it names beside.
abbrev pub bike_in : Row → Option (ℕ × Bike)
bike_in row = first_of (bike_read row) (misplaced_bike row)

-- ---- rentals and orders by their keys

-- the rental, and the order, that the row with this number spells, whatever rows stand before it
abbrev pub rental_at : Tables → ℕ → Option Rental
rental_at t n = option_map (λ e. e.1) (option_and_then rental_in (row_with 1 (number_value n ∷ []) t.rentals))

abbrev pub order_at : Tables → ℕ → Option Order
order_at t n = option_map (λ e. e.1) (option_and_then order_read (row_with 1 (number_value n ∷ []) t.orders))

-- ---- docks

-- the dock that has the row
abbrev pub dock_in : Row → Option (DockKey × Unit {0})
dock_in row = option_map (λ e. (dock_key e.0 e.1, tt)) (dock_read row)

-- .. where it is broken
abbrev pub broken_in : Row → Option DockKey
broken_in row = option_and_then (λ e. if e.2 then Some (dock_key e.0 e.1) else None) (dock_read row)

-- ---- the operator

-- the moment in the one row of meta, and 0 where there is none
abbrev pub since_of : List Row → ℕ
since_of rows = unwrap_or (option_map (λ e. e.1) (first (filter_map meta_read rows))) 0

-- cash and revenue of what was archived, among what a row of meta spells
abbrev pub sums_in : ℕ × ℕ × ℤ × ℤ → Past
sums_in e = record { cash = e.2; revenue = e.3 }

-- .. in the one row of meta, and 0 where there is none
abbrev pub past_of : List Row → Past
past_of rows =
    unwrap_or (option_map sums_in (first (filter_map meta_read rows))) (record { cash = pos 0; revenue = pos 0 })

-- how many requests, entries and rentals were archived, in the one row of books, and 0 where there is none
abbrev pub archived_of : List Row → ℕ × ℕ × ℕ
archived_of rows = unwrap_or (first (filter_map books_read rows)) (0, 0, 0)

-- the moment in the last row of the history; 0 where there is no row, and where no moment stands in its place
abbrev pub last_moment_in : List Row → ℕ
last_moment_in rows = unwrap_or (option_and_then (λ row. moment_in (column row 1)) (slice_get (last_of rows) 0)) 0

-- the operator's moment
abbrev pub moment_of : Tables → ℕ
moment_of t = max (since_of t.meta) (last_moment_in t.history)

-- THE OPERATOR THAT IS READ OFF TABLES
abbrev pub operator_of : Tables → Operator
operator_of t = record {
  system = first (filter_map system_read t.system);
  plans = fin.from_sorted (filter_map (plan_in t.segments) t.plans);
  types = fin.from_sorted (filter_map type_read t.types);
  regions = fin.from_sorted (filter_map region_read t.regions);
  stations = fin.from_sorted (filter_map station_in t.stations);
  broken = set.from_list (filter_map broken_in t.docks);
  bikes = fin.from_sorted (filter_map bike_in t.bikes);
  trucks = fin.from_sorted (filter_map truck_read t.trucks);
  riders = fin.from_sorted (filter_map rider_in t.riders);
  rentals = record { archived = (archived_of t.books).2; items = map (λ e. e.1) (filter_map rental_in t.rentals) };
  orders = record { archived = 0; items = map (λ e. e.1) (filter_map order_read t.orders) };
  entries = record { archived = (archived_of t.books).1; items = map (λ e. e.1) (filter_map entry_in t.entries) };
  history = record { archived = (archived_of t.books).0; items = map (λ e. e.1) (filter_map request_read t.history) };
  past = past_of t.meta;
  more_names = fin.from_sorted (filter_map name_in t.more_names);
  now = moment_of t;
}

-- which docks have a row, and the moment in meta
abbrev pub listed_of : Tables → Listed
listed_of t = record { docks = fin.from_sorted (filter_map dock_in t.docks); since = since_of t.meta }
