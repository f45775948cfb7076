-- What row changes do to the tables.
use Rattle.std.specs.Prelude.{ℕ, pos, ◌+◌, true, false, List, [], ◌∷◌, Some, None}
use Rattle.sqlite_value.specs.declared.value.Value.{Value}
use Rattle.sqlite_value.specs.declared.value.Value.TheVariants.{Int, Text}
use Rattle.sqlite_value.specs.Order.{Row}
use Rattle.sqlite.specs.Values.{or_null}
use Rattle.bike_sql.specs.View.{put_row_by, rows_after_update, rows_after_removal, with_values}
use Rattle.bike_operator.specs.declared.records.BikeState.TheVariants.{Fit}
use Rattle.bike_operator.specs.declared.records.Place.TheVariants as place
use Rattle.bike_fields.specs.NameKinds.{kind_text}
use Rattle.bike_fields.specs.declared.name_kind.NameKind.{NameKind}
use Rattle.bike_fields.specs.declared.name_kind.NameKind.TheVariants as named
use Rattle.bike_operator.specs.Operator.{name_key}
use Rattle.bike_operator.specs.Steps.{new_station, new_rider}
use Rattle.bike_operator.specs.Changes.{place_of, text_in}
use Rattle.bike_accepted.specs.declared.change.Change.{Change}
use Rattle.bike_accepted.specs.declared.change.Change.TheVariants as change
use Rattle.bike_book.specs.declared.row_change.RowChange.{RowChange}
use Rattle.bike_book.specs.declared.row_change.RowChange.TheVariants as row
use Rattle.bike_book.specs.Tables.{TableName, Tables, rows_in, with_rows, keys_of, System, Plans}
use Rattle.bike_book.specs.Tables.{Segments, Types, Regions, Stations, Docks, Bikes, Trucks, Riders, Rentals, Orders}
use Rattle.bike_book.specs.Tables.{Entries, History, MoreNames}
use Rattle.bike_book.specs.Rows.{truth, number_value, state_number, place_columns, closing_columns, system_row}
use Rattle.bike_book.specs.Rows.{plan_row, segment_row, type_row, region_row, station_row, dock_row, bike_row}
use Rattle.bike_book.specs.Rows.{truck_row, rider_row, rental_row, order_row, entry_row, history_row, name_row}
use Rattle.bike_book.specs.ByType.{by_type_text, with_counts}

-- columns, counted from 0, and what they are set to
abbrev pub Columns : Type 0
Columns = List (ℕ × Value)

-- One write to one table: a row is added under a key that is free, columns
-- are set in the row of a key, where there is one, or that row is removed.
pub data RowWrite : Type 0 where
  Add : TableName → Row → RowWrite
  Set : TableName → Row → Columns → RowWrite
  Remove : TableName → Row → RowWrite

-- the rows of its table after a write
abbrev pub rows_after : RowWrite → Tables → List Row
rows_after (Add name row) t = put_row_by (keys_of name) row (rows_in t name)
rows_after (Set name key columns) t = rows_after_update (keys_of name) key (with_values columns) (rows_in t name)
rows_after (Remove name key) t = rows_after_removal (keys_of name) key (rows_in t name)

abbrev pub table_of_write : RowWrite → TableName
table_of_write (Add name row) = name
table_of_write (Set name key columns) = name
table_of_write (Remove name key) = name

-- the tables after a write, and after a list of them
abbrev pub tables_after : RowWrite → Tables → Tables
tables_after w t = with_rows (table_of_write w) (rows_after w t) t

abbrev pub tables_after_all : List RowWrite → Tables → Tables
tables_after_all [] t = t
tables_after_all (w ∷ ws) t = tables_after_all ws (tables_after w t)

-- these columns, from a place on
abbrev pub columns_from : ℕ → Row → Columns
columns_from at [] = []
columns_from at (v ∷ vs) = (at, v) ∷ columns_from (at + 1) vs

-- the key of a row of `more_names`
abbrev pub name_columns : NameKind → List ℕ → List ℕ → Row
name_columns kind id language = Text (kind_text kind) ∷ Text id ∷ Text language ∷ []

-- a name in the row of its own table
abbrev pub own_name_write : NameKind → List ℕ → List ℕ → RowWrite
own_name_write named.System id name = Set System (Int (pos 1) ∷ []) ((3, Text name) ∷ [])
own_name_write named.Station id name = Set Stations (Text id ∷ []) ((1, Text name) ∷ [])
own_name_write named.Type id name = Set Types (Text id ∷ []) ((1, Text name) ∷ [])
own_name_write named.Plan id name = Set Plans (Text id ∷ []) ((1, Text name) ∷ [])
own_name_write named.Description id name = Set Plans (Text id ∷ []) ((4, Text name) ∷ [])
own_name_write named.Region id name = Set Regions (Text id ∷ []) ((1, Text name) ∷ [])

-- THE TABLE: the row of each record
abbrev pub record_write : Change → RowWrite
record_write (change.SetSystem x) = Add System (system_row x.now)
record_write (change.AddPlan p) = Add Plans (plan_row p.now.plan_id p.now)
record_write (change.AddType t) = Add Types (type_row t.now.type_id t.now)
record_write (change.SetPlan type_id plan) = Set Types (Text type_id.now ∷ []) ((5, Text plan.now) ∷ [])
record_write (change.AddStation x reported) =
    Add Stations (station_row x.now.station_id (new_station x.now reported) (pos x.now.docks) 0 (by_type_text []))
record_write (change.SetStation station installed renting returning reported) =
    Set Stations (Text station.now ∷ []) ((5, Int (truth installed)) ∷ (6, Int (truth renting))
    ∷ (7, Int (truth returning)) ∷ (8, number_value reported) ∷ [])
record_write (change.AddRegion r) = Add Regions (region_row r.now.region_id r.now)
record_write (change.SetRegion station region) =
    Set Stations (Text station.now ∷ []) ((11, or_null Text (text_in region)) ∷ [])
record_write (change.AddName kind id language name) =
    Add MoreNames (name_row (name_key kind id.now language.now) name.now)
record_write (change.SetOwnName kind id name) = own_name_write kind id.now name.now
record_write (change.SetFurtherName kind id language name) =
    Set MoreNames (name_columns kind id.now language.now) ((3, Text name.now) ∷ [])
record_write (change.RemoveName kind id language) = Remove MoreNames (name_columns kind id.now language.now)
record_write (change.ChangeSystem x) =
    Set System (Int (pos 1) ∷ []) ((3, Text x.now.name) ∷ (4, Text x.now.opening_hours)
    ∷ (5, Text x.now.feed_contact_email) ∷ (6, Text x.now.timezone)
    ∷ (8, Text x.now.base_url) ∷ (9, number_value x.now.ttl) ∷ [])
record_write (change.MoveStation station p) =
    Set Stations (Text station.now ∷ []) ((2, Int p.now.lat) ∷ (3, Int p.now.lon) ∷ [])
record_write (change.AddBike bike type_id) =
    Add Bikes (bike_row bike (record { type_id = type_id.now; state = Fit; place = place.Depot }))
record_write (change.AddTruck truck capacity) = Add Trucks (truck_row truck capacity)
record_write (change.AddRider rider) = Add Riders (rider_row rider new_rider (pos 0))
record_write (change.SetRider rider blocked) = Set Riders (number_value rider ∷ []) ((1, Int (truth blocked)) ∷ [])
record_write (change.AddRental rental rider bike plan from_station start) =
    Add Rentals (rental_row rental (record {
      rider = rider;
      bike = bike;
      plan = plan.now;
      from_station = from_station.now;
      start = start;
      closing = None;
    }) (pos 0))
record_write (change.CloseRental rental to_station finish fare) =
    Set Rentals (number_value rental ∷ []) (columns_from 6
    (closing_columns (Some (record { to_station = text_in to_station; finish = finish; fare = fare }))))
record_write (change.AddOrder order truck from_end to_end type_id count) =
    Add Orders (order_row order (record {
      truck = truck;
      from_end = from_end.now;
      to_end = to_end.now;
      type_id = type_id.now;
      count = count;
      delivered = 0;
      is_open = true;
    }))
record_write (change.SetOrder order delivered is_open) =
    Set Orders (number_value order ∷ []) ((6, number_value delivered) ∷ (7, Int (truth is_open)) ∷ [])

-- what each row change writes
abbrev pub write_of : RowChange → RowWrite
write_of (row.Record c) = record_write c.now
write_of (row.AddSegment plan seq g) = Add Segments (segment_row plan.now seq g.now)
write_of (row.SetDockCount station docks free) =
    Set Stations (Text station.now ∷ []) ((4, number_value docks) ∷ (9, number_value free) ∷ [])
write_of (row.SetDocksReported station free broken reported) =
    Set Stations (Text station.now ∷ [])
    ((9, number_value free) ∷ (10, number_value broken) ∷ (8, number_value reported) ∷ [])
write_of (row.SetBikesReported station free broken by_type type_id counts reported) =
    Set Stations (Text station.now ∷ [])
    ((9, number_value free) ∷ (10, number_value broken)
    ∷ (12, Text (by_type_text (with_counts type_id.now counts by_type.now))) ∷ (8, number_value reported) ∷ [])
write_of (row.AddDock station dock broken) = Add Docks (dock_row station.now dock broken)
write_of (row.SetDock station dock broken) =
    Set Docks (Text station.now ∷ number_value dock ∷ []) ((2, Int (truth broken)) ∷ [])
write_of (row.SetBike bike state p) =
    Set Bikes (number_value bike ∷ []) ((2, Int (state_number state)) ∷ columns_from 3 (place_columns (place_of p)))
write_of (row.SetBalance rider balance) = Set Riders (number_value rider ∷ []) ((2, Int balance) ∷ [])
write_of (row.SetRefunded rental refunded) = Set Rentals (number_value rental ∷ []) ((9, Int refunded) ∷ [])
write_of (row.AddEntry e) = Add Entries (entry_row e.now.number e.now)
write_of (row.AddRequest number moment caller key command reply) =
    Add History (history_row number moment caller.now key.now command.now reply.now)

abbrev pub writes_of : List RowChange → List RowWrite
writes_of [] = []
writes_of (c ∷ cs) = write_of c ∷ writes_of cs
