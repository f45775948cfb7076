-- What any row of each table spells: the record of which the row is made, or nothing. Nothing is spelled by a row of
-- another width, by a column of another kind or out of its bounds, and by columns that don't agree. Whether a name
-- stands for a record isn't asked here.
use Rattle.std.specs.Prelude.{ℕ, ℤ, List, [], Bool, if◌then◌else◌, Option, Some, None, codes}
use Rattle.sqlite_value.specs.Order.{Row, column}
use Rattle.bike_fields.specs.declared.numbers.TheConstants.{GREATEST_PRICE, GREATEST_RANGE, GREATEST_SERIAL}
use Rattle.bike_fields.specs.declared.numbers.TheConstants.{LAST_MINUTE, LONGEST_TIME_TO_LIVE, MOST_CARRIED}
use Rattle.bike_fields.specs.declared.limits.TheConstants.{MOST_SEGMENTS}
use Rattle.bike_fields.specs.Caller.{◌>>=◌}
use Rattle.bike_fields.specs.Values.{SegmentRow, is_range, is_after}
use Rattle.bike_catalogue.specs.Rows.{PlanRow, TypeRow, RegionRow, MoreNameRow, SystemRow}
use Rattle.bike_fields.specs.declared.name_kind.NameKind.{NameKind}
use Rattle.bike_ledger.specs.Entries.{Entry}
use Rattle.bike_operator.specs.declared.records.Bike.{Bike}
use Rattle.bike_operator.specs.declared.records.Rental.{Rental}
use Rattle.bike_operator.specs.declared.records.Order.{Order}
use Rattle.bike_operator.specs.Operator.{Station, Truck, Rider, AcceptedRequest}
use Rattle.bike_schema.specs.Columns.{number_in, moment_in, flag_in, state_in, whole_in, text_in, ident_in, name_in}
use Rattle.bike_schema.specs.Columns.{or_none, request_count_in}
use Rattle.bike_readings.specs.ColumnReaders.{where_wide, language_in, currency_in, ascii_in, key_in, caller_in}
use Rattle.bike_readings.specs.ColumnReaders.{form_in, propulsion_in, named_kind_in, end_in, word_in, command_in}
use Rattle.bike_readings.specs.ColumnReaders.{reply_in, rate_in, latitude_in, longitude_in, greatest_count, count_in}
use Rattle.bike_readings.specs.ColumnReaders.{numbered_in, dock_in, serial_in, kind_in, rental_in, amount_in, place_in}
use Rattle.bike_readings.specs.ColumnReaders.{closing_in}

-- version, now (seconds), cash, revenue (hundredths)
abbrev pub meta_read : Row → Option (ℕ × ℕ × ℤ × ℤ)
meta_read row = where_wide 6 row (do
  one ← number_in 1 1 (column row 0)
  app ← word_in (codes "bikeshare") (column row 1)
  version ← number_in 1 greatest_count (column row 2)
  now ← moment_in (column row 3)
  cash ← whole_in (column row 4)
  revenue ← whole_in (column row 5)
  Some (version, now, cash, revenue))

abbrev pub system_read : Row → Option SystemRow
system_read row = where_wide 10 row (do
  one ← number_in 1 1 (column row 0)
  system_id ← ident_in (column row 1)
  language ← language_in (column row 2)
  name ← name_in (column row 3)
  opening_hours ← ascii_in (column row 4)
  feed_contact_email ← ascii_in (column row 5)
  timezone ← ascii_in (column row 6)
  currency ← currency_in (column row 7)
  base_url ← ascii_in (column row 8)
  ttl ← number_in 0 LONGEST_TIME_TO_LIVE (column row 9)
  Some (record {
    system_id = system_id;
    language = language;
    name = name;
    opening_hours = opening_hours;
    feed_contact_email = feed_contact_email;
    timezone = timezone;
    currency = currency;
    base_url = base_url;
    ttl = ttl;
  }))

-- under its identifier, with no segments: these are rows of their own
abbrev pub plan_read : Row → Option (List ℕ × PlanRow)
plan_read row = where_wide 5 row (do
  plan_id ← ident_in (column row 0)
  name ← name_in (column row 1)
  price ← number_in 0 GREATEST_PRICE (column row 2)
  taxable ← flag_in (column row 3)
  description ← name_in (column row 4)
  Some (
    plan_id,
    record {
      plan_id = plan_id;
      name = name;
      price = price;
      taxable = taxable;
      description = description;
      segments = [];
    },
  ))

-- the plan, the number of the segment in it from 1, and the segment
abbrev pub segment_read : Row → Option (List ℕ × ℕ × SegmentRow)
segment_read row = where_wide 6 row (do
  plan_id ← ident_in (column row 0)
  seq ← number_in 1 MOST_SEGMENTS (column row 1)
  start ← number_in 0 LAST_MINUTE (column row 2)
  rate ← rate_in (column row 3)
  interval ← number_in 0 LAST_MINUTE (column row 4)
  end ← or_none (number_in 0 LAST_MINUTE) (column row 5)
  if is_after start end then Some (plan_id, seq, record { start = start; rate = rate; interval = interval; end = end })
      else None)

abbrev pub type_read : Row → Option (List ℕ × TypeRow)
type_read row = where_wide 6 row (do
  type_id ← ident_in (column row 0)
  name ← name_in (column row 1)
  form ← form_in (column row 2)
  propulsion ← propulsion_in (column row 3)
  max_range ← number_in 0 GREATEST_RANGE (column row 4)
  plan_id ← ident_in (column row 5)
  if is_range propulsion max_range then Some (
    type_id,
    record {
      type_id = type_id;
      name = name;
      form = form;
      propulsion = propulsion;
      max_range = max_range;
      plan_id = plan_id;
    },
  ) else None)

abbrev pub region_read : Row → Option (List ℕ × RegionRow)
region_read row = where_wide 2 row (do
  region_id ← ident_in (column row 0)
  name ← name_in (column row 1)
  Some (region_id, record { region_id = region_id; name = name }))

-- with its numbers of docks that are available and that are broken, and the text that stands for its bicycles by type
abbrev pub station_read : Row → Option (List ℕ × Station × ℤ × ℕ × List ℕ)
station_read row = where_wide 13 row (do
  station_id ← ident_in (column row 0)
  name ← name_in (column row 1)
  lat ← latitude_in (column row 2)
  lon ← longitude_in (column row 3)
  docks ← dock_in (column row 4)
  installed ← flag_in (column row 5)
  renting ← flag_in (column row 6)
  returning ← flag_in (column row 7)
  reported ← moment_in (column row 8)
  free ← whole_in (column row 9)
  broken ← count_in (column row 10)
  region ← or_none ident_in (column row 11)
  by_type ← text_in (column row 12)
  Some (
    station_id,
    record {
      row = record { station_id = station_id; name = name; lat = lat; lon = lon; docks = docks };
      is_installed = installed;
      is_renting = renting;
      is_returning = returning;
      reported = reported;
      region = region;
    },
    free,
    broken,
    by_type,
  ))

-- the station, the dock and whether it is broken
abbrev pub dock_read : Row → Option (List ℕ × ℕ × Bool)
dock_read row = where_wide 3 row (do
  station ← ident_in (column row 0)
  dock ← dock_in (column row 1)
  broken ← flag_in (column row 2)
  Some (station, dock, broken))

abbrev pub bike_read : Row → Option (ℕ × Bike)
bike_read row = where_wide 8 row (do
  bike ← numbered_in (column row 0)
  type_id ← ident_in (column row 1)
  state ← state_in (column row 2)
  place ← place_in (column row 3) (column row 4) (column row 5) (column row 6) (column row 7)
  Some (bike, record { type_id = type_id; state = state; place = place }))

abbrev pub truck_read : Row → Option (ℕ × Truck)
truck_read row = where_wide 2 row (do
  truck ← numbered_in (column row 0)
  capacity ← number_in 1 MOST_CARRIED (column row 1)
  Some (truck, record { capacity = capacity }))

-- with the rider's balance, in hundredths
abbrev pub rider_read : Row → Option (ℕ × Rider × ℤ)
rider_read row = where_wide 5 row (do
  rider ← numbered_in (column row 0)
  blocked ← flag_in (column row 1)
  balance ← whole_in (column row 2)
  before ← whole_in (column row 3)
  plan ← or_none ident_in (column row 4)
  Some (rider, record { is_blocked = blocked; plan = plan; before = before }, balance))

-- with what was refunded of it, in hundredths
abbrev pub rental_read : Row → Option (ℕ × Rental × ℤ)
rental_read row = where_wide 10 row (do
  rental ← serial_in (column row 0)
  rider ← numbered_in (column row 1)
  bike ← numbered_in (column row 2)
  plan ← ident_in (column row 3)
  from_station ← ident_in (column row 4)
  start ← moment_in (column row 5)
  closing ← closing_in (column row 6) (column row 7) (column row 8)
  refunded ← whole_in (column row 9)
  Some (
    rental,
    record {
      rider = rider;
      bike = bike;
      plan = plan;
      from_station = from_station;
      start = start;
      closing = closing;
    },
    refunded,
  ))

abbrev pub order_read : Row → Option (ℕ × Order)
order_read row = where_wide 8 row (do
  order ← serial_in (column row 0)
  truck ← numbered_in (column row 1)
  from_end ← end_in (column row 2)
  to_end ← end_in (column row 3)
  type_id ← ident_in (column row 4)
  count ← number_in 1 MOST_CARRIED (column row 5)
  delivered ← number_in 0 MOST_CARRIED (column row 6)
  is_open ← flag_in (column row 7)
  Some (
    order,
    record {
      truck = truck;
      from_end = from_end;
      to_end = to_end;
      type_id = type_id;
      count = count;
      delivered = delivered;
      is_open = is_open;
    },
  ))

abbrev pub entry_read : Row → Option Entry
entry_read row = where_wide 6 row (do
  number ← serial_in (column row 0)
  kind ← kind_in (column row 1)
  rider ← numbered_in (column row 2)
  rental ← rental_in kind (column row 3)
  amount ← amount_in kind (column row 4)
  at ← moment_in (column row 5)
  Some (record { number = number; kind = kind; rider = rider; rental = rental; amount = amount; at = at }))

-- an accepted request with its number
abbrev pub request_read : Row → Option (ℕ × AcceptedRequest)
request_read row = where_wide 6 row (do
  number ← request_count_in (column row 0)
  moment ← moment_in (column row 1)
  caller ← caller_in (column row 2)
  key ← key_in (column row 3)
  command ← command_in (column row 4)
  reply ← reply_in (column row 5)
  Some (
    number,
    record { moment = moment; request = record { caller = caller; key = key; command = command }; reply = reply },
  ))

-- what has the name, by its kind and its identifier; the language and the name
abbrev pub name_read : Row → Option (NameKind × List ℕ × MoreNameRow)
name_read row = where_wide 4 row (do
  kind ← named_kind_in (column row 0)
  id ← ident_in (column row 1)
  language ← language_in (column row 2)
  name ← name_in (column row 3)
  Some (kind, id, record { language = language; name = name }))

-- how many requests, entries and rentals were archived
abbrev pub books_read : Row → Option (ℕ × ℕ × ℕ)
books_read row = where_wide 4 row (do
  one ← number_in 1 1 (column row 0)
  requests ← request_count_in (column row 1)
  entries ← number_in 0 GREATEST_SERIAL (column row 2)
  rentals ← number_in 0 GREATEST_SERIAL (column row 3)
  Some (requests, entries, rentals))
