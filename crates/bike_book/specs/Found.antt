-- What is found in the tables of an operator: the row of a key,
-- rows by other columns, the last row, and how many there are.
use Rattle.std.specs.Prelude.{◌≡◌, ◌==◌, ◌&&◌, ◌+ℤ◌, ℕ, pos, length, List, [], ◌∷◌, false, Option, Some, None, is_some}
use Rattle.std.specs.Prelude.{option_map, find, map, filter, slice_get}
use Rattle.std.specs.List.{list_all}
use Rattle.std.specs.FinMap as fin
use Rattle.sqlite_value.specs.declared.value.Value.TheVariants.{Text}
use Rattle.sqlite_value.specs.Order.{Row, column}
use Rattle.sqlite_sql.specs.Ops.{is_null}
use Rattle.bike_sql.specs.View.{row_with, rows_where, last_of}
use Rattle.bike_fields.specs.NameKinds.{kind_text}
use Rattle.bike_fields.specs.declared.name_kind.NameKind.{NameKind}
use Rattle.bike_catalogue.specs.Rows.{PlanRow}
use Rattle.bike_ledger.specs.Ledger.{balance_of, refunded_of}
use Rattle.bike_operator.specs.declared.records.Rental.{Rental}
use Rattle.bike_operator.specs.Operator.{Operator, AcceptedRequest, item_numbered, key_of, name_key, dock_key}
use Rattle.bike_operator.specs.Operator.{kept_under, last_number}
use Rattle.bike_operator.specs.Counts.{count, is_on_truck, is_for_order, docked_at, is_broken, is_open, is_riding}
use Rattle.bike_operator.specs.Counts.{open_rentals, docks_available, docks_broken}
use Rattle.bike_operator.specs.Names.{further_names}
use Rattle.bike_operator.specs.Sound.{IsSound}
use Rattle.bike_laws.specs.History.{last_moment_of}
use Rattle.bike_book.specs.declared.version.TheConstants.{NEWEST}
use Rattle.bike_book.specs.ByType.{types_at, by_type_text}
use Rattle.bike_book.specs.Tables.{TableName, rows_in, keys_of, Meta, System, Plans, Segments, Types, Regions, Stations}
use Rattle.bike_book.specs.Tables.{Docks, Bikes, Trucks, Riders, Rentals, Orders, Entries, History, MoreNames, Books}
use Rattle.bike_book.specs.Rows.{number_value, meta_row, system_row, plan_row, type_row, region_row, station_row}
use Rattle.bike_book.specs.Rows.{dock_row, bike_row, truck_row, rider_row, rental_row, order_row, entry_row}
use Rattle.bike_book.specs.Rows.{name_row}
use Rattle.bike_book.specs.Stored.{Listed, IsListing, with_numbers, segment_rows, stored_bike, stored_rental}
use Rattle.bike_book.specs.Stored.{stored_request, books_rows, tables_for}

-- the fact holds of each sound operator whose rows are listed right
abbrev pub WhereListed : (Operator → Listed → Type 0) → Type 0
WhereListed Fact = (s : Operator) (m : Listed) → IsSound s → IsListing s m → Fact s m

-- the rows of one table
abbrev pub rows_of : Operator → Listed → TableName → List Row
rows_of s m name = rows_in (tables_for s m) name

-- the row under a key
abbrev pub row_under : Operator → Listed → TableName → Row → Option Row
row_under s m name key = row_with (keys_of name) key (rows_of s m name)

-- ---- by the key

-- The row under a key is that of the record, and there is none where there is no record.
pub record FoundByKey (s : Operator) (m : Listed) : Type 0 where
  pub meta : row_under s m Meta (number_value 1 ∷ [])
      ≡ Some (meta_row NEWEST m.since s.past.cash s.past.revenue)
  pub system : row_under s m System (number_value 1 ∷ []) ≡ option_map system_row s.system
  pub plans : (id : List ℕ) → row_under s m Plans (Text id ∷ []) ≡ option_map (plan_row id) (fin.get s.plans id)
  pub types : (id : List ℕ) → row_under s m Types (Text id ∷ []) ≡ option_map (type_row id) (fin.get s.types id)
  pub regions : (id : List ℕ) → row_under s m Regions (Text id ∷ []) ≡ option_map (region_row id) (fin.get s.regions id)
  pub stations : (id : List ℕ) → row_under s m Stations (Text id ∷ [])
      ≡ option_map (λ x. station_row id x (pos (docks_available s id x.row.docks)) (docks_broken s id x.row.docks)
      (by_type_text (types_at s id))) (fin.get s.stations id)
  pub bikes : (bike : ℕ) → row_under s m Bikes (number_value bike ∷ [])
      ≡ option_map (bike_row bike) (fin.get s.bikes bike)
  pub trucks : (truck : ℕ) → row_under s m Trucks (number_value truck ∷ [])
      ≡ option_map (λ t. truck_row truck t.capacity) (fin.get s.trucks truck)
  pub riders : (rider : ℕ) → row_under s m Riders (number_value rider ∷ [])
      ≡ option_map (λ r. rider_row rider r (r.before +ℤ balance_of rider s.entries.items)) (fin.get s.riders rider)
  pub rentals : (rental : ℕ) → row_under s m Rentals (number_value rental ∷ [])
      ≡ option_map (λ r. rental_row rental r (refunded_of rental s.entries.items)) (item_numbered rental s.rentals)
  pub orders : (order : ℕ) → row_under s m Orders (number_value order ∷ [])
      ≡ option_map (order_row order) (item_numbered order s.orders)
  pub entries : (entry : ℕ) → row_under s m Entries (number_value entry ∷ [])
      ≡ option_map (entry_row entry) (item_numbered entry s.entries)
  pub books : row_under s m Books (number_value 1 ∷ [])
      ≡ slice_get (books_rows s.history.archived s.entries.archived s.rentals.archived) 0
  pub more_names : (kind : NameKind) (id language : List ℕ)
      → row_under s m MoreNames (Text (kind_text kind) ∷ Text id ∷ Text language ∷ [])
      ≡ option_map (name_row (name_key kind id language)) (fin.get s.more_names (name_key kind id language))

-- A dock has a row where it is listed, and works where it has none.
pub record FoundListed (s : Operator) (m : Listed) : Type 0 where
  pub docks : (station : List ℕ) (dock : ℕ) → row_under s m Docks (Text station ∷ number_value dock ∷ [])
      ≡ option_map (λ listed. dock_row station dock (is_broken s station dock))
      (fin.get m.docks (dock_key station dock))
  pub dock_listed : (station : List ℕ) (dock : ℕ)
      → is_some (row_under s m Docks (Text station ∷ number_value dock ∷ []))
      ≡ fin.contains_key m.docks (dock_key station dock)
  pub works : (station : List ℕ) (dock : ℕ) → fin.get m.docks (dock_key station dock) ≡ None
      → is_broken s station dock ≡ false

-- ---- by other columns

-- the segments of a plan, where it is there
abbrev pub segments_in : List ℕ → Option PlanRow → List Row
segments_in plan None = []
segments_in plan (Some p) = segment_rows plan 1 p.segments

-- the rows whose columns at these places have these values
abbrev pub rows_by : Operator → Listed → TableName → List ℕ → Row → List Row
rows_by s m name columns values = rows_where columns values (rows_of s m name)

-- the rows of rentals that are open, whose finish is NULL
abbrev pub rows_open : List Row → List Row
rows_open = filter (λ row. list_all is_null (map (column row) (7 ∷ [])))

-- the first row of a rider's open rentals
abbrev pub open_row : Operator → Listed → ℕ → Option Row
open_row s m rider = slice_get (rows_open (rows_by s m Rentals (1 ∷ []) (number_value rider ∷ []))) 0

-- the first open rental of a rider, with its number
abbrev pub open_rental : Operator → ℕ → Option (ℕ × Rental)
open_rental s rider = find (λ e. (e.1.rider == rider) && is_open e.1) (with_numbers s.rentals)

-- the row of an accepted request, whatever its number
pub record IsRowOf (a : AcceptedRequest) (row : Row) : Type 0 where
  pub number : ℕ
  pub row_is : row ≡ stored_request (number, a)

-- there is a row where there is a request, and it is the request's
abbrev pub AreRowOf : Option AcceptedRequest → Option Row → Type 0
AreRowOf None None = Unit {0}
AreRowOf (Some a) (Some row) = IsRowOf a row
AreRowOf o row = ⊥

-- The rows found by columns that are no key.
pub record FoundByColumns (s : Operator) (m : Listed) : Type 0 where
  pub segments : (plan : List ℕ) → rows_by s m Segments (0 ∷ []) (Text plan ∷ [])
      ≡ segments_in plan (fin.get s.plans plan)
  pub docked : (station : List ℕ) (dock : ℕ)
      → slice_get (rows_by s m Bikes (3 ∷ 4 ∷ []) (Text station ∷ number_value dock ∷ [])) 0
      ≡ option_map stored_bike (docked_at s station dock)
  pub on_truck : (truck : ℕ) → length (rows_by s m Bikes (6 ∷ []) (number_value truck ∷ []))
      ≡ count (λ b. is_on_truck truck b.1.place) (fin.entries s.bikes)
  pub for_order : (order : ℕ) → length (rows_by s m Bikes (7 ∷ []) (number_value order ∷ []))
      ≡ count (λ b. is_for_order order b.1.place) (fin.entries s.bikes)
  pub named : (kind : NameKind) (id : List ℕ)
      → length (rows_by s m MoreNames (0 ∷ 1 ∷ []) (Text (kind_text kind) ∷ Text id ∷ []))
      ≡ length (further_names s kind id)
  pub open_rental_is : (rider : ℕ) → open_row s m rider ≡ option_map (stored_rental s.entries.items) (open_rental s rider)
  pub kept : (caller key : List ℕ) → AreRowOf (kept_under (key_of caller key) s.history.items)
      (slice_get (rows_by s m History (2 ∷ 3 ∷ []) (Text caller ∷ Text key ∷ [])) 0)
  pub riding : (rider : ℕ) → is_some (open_row s m rider) ≡ is_riding s rider

-- ---- numbers of rows

-- the key of a last row is how many records there are; where there is none, all were archived
abbrev pub IsLast : ℕ → ℕ → Option Row → Type 0
IsLast archived count None = count ≡ archived
IsLast archived count (Some row) = column row 0 ≡ number_value count

-- the moment in a last row of the history; 0 where there is none
abbrev pub IsLastMoment : ℕ → Option Row → Type 0
IsLastMoment moment None = moment ≡ 0
IsLastMoment moment (Some row) = column row 1 ≡ number_value moment

-- the last row of a table
abbrev pub last_row : Operator → Listed → TableName → Option Row
last_row s m name = slice_get (last_of (rows_of s m name)) 0

-- how many rows a table has
abbrev pub row_count : Operator → Listed → TableName → ℕ
row_count s m name = length (rows_of s m name)

-- How many records there are, by the last row or by the rows, and the moment of the last request.
pub record FoundNumbers (s : Operator) (m : Listed) : Type 0 where
  pub last_rental : IsLast s.rentals.archived (last_number s.rentals) (last_row s m Rentals)
  pub last_order : IsLast s.orders.archived (last_number s.orders) (last_row s m Orders)
  pub last_entry : IsLast s.entries.archived (last_number s.entries) (last_row s m Entries)
  pub last_request : IsLast s.history.archived (last_number s.history) (last_row s m History)
  pub last_moment : IsLastMoment (last_moment_of 0 s.history.items) (last_row s m History)
  pub plans : row_count s m Plans ≡ fin.len s.plans
  pub types : row_count s m Types ≡ fin.len s.types
  pub regions : row_count s m Regions ≡ fin.len s.regions
  pub stations : row_count s m Stations ≡ fin.len s.stations
  pub bikes : row_count s m Bikes ≡ fin.len s.bikes
  pub trucks : row_count s m Trucks ≡ fin.len s.trucks
  pub riders : row_count s m Riders ≡ fin.len s.riders
  pub rentals : row_count s m Rentals ≡ length s.rentals.items
  pub orders : row_count s m Orders ≡ length s.orders.items
  pub entries : row_count s m Entries ≡ length s.entries.items
  pub requests : row_count s m History ≡ length s.history.items
  pub open_rentals_are : length (rows_open (rows_of s m Rentals)) ≡ open_rentals s
