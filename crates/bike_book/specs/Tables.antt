-- The tables of the schema by name, each as the list of its rows in the order of its key.
use Rattle.std.specs.Prelude.{ℕ, ◌==◌, List, Bool, if◌then◌else◌}
use Rattle.sqlite_value.specs.Order.{Row}

pub data TableName : Type 0 where
  Meta : TableName
  System : TableName
  Plans : TableName
  Segments : TableName
  Types : TableName
  Regions : TableName
  Stations : TableName
  Docks : TableName
  Bikes : TableName
  Trucks : TableName
  Riders : TableName
  Rentals : TableName
  Orders : TableName
  Entries : TableName
  History : TableName
  MoreNames : TableName
  Books : TableName

-- the place of the table in the order of the schema
abbrev pub table_place : TableName → ℕ
table_place Meta = 0
table_place System = 1
table_place Plans = 2
table_place Segments = 3
table_place Types = 4
table_place Regions = 5
table_place Stations = 6
table_place Docks = 7
table_place Bikes = 8
table_place Trucks = 9
table_place Riders = 10
table_place Rentals = 11
table_place Orders = 12
table_place Entries = 13
table_place History = 14
table_place MoreNames = 15
table_place Books = 16

abbrev pub is_table : TableName → TableName → Bool
is_table a b = table_place a == table_place b

-- how many columns make the key: the first ones
abbrev pub keys_of : TableName → ℕ
keys_of Meta = 1
keys_of System = 1
keys_of Plans = 1
keys_of Segments = 2
keys_of Types = 1
keys_of Regions = 1
keys_of Stations = 1
keys_of Docks = 2
keys_of Bikes = 1
keys_of Trucks = 1
keys_of Riders = 1
keys_of Rentals = 1
keys_of Orders = 1
keys_of Entries = 1
keys_of History = 1
keys_of MoreNames = 3
keys_of Books = 1

-- the rows of each table
pub record Tables : Type 0 where
  pub meta : List Row
  pub system : List Row
  pub plans : List Row
  pub segments : List Row
  pub types : List Row
  pub regions : List Row
  pub stations : List Row
  pub docks : List Row
  pub bikes : List Row
  pub trucks : List Row
  pub riders : List Row
  pub rentals : List Row
  pub orders : List Row
  pub entries : List Row
  pub history : List Row
  pub more_names : List Row
  pub books : List Row

abbrev pub rows_in : Tables → TableName → List Row
rows_in t Meta = t.meta
rows_in t System = t.system
rows_in t Plans = t.plans
rows_in t Segments = t.segments
rows_in t Types = t.types
rows_in t Regions = t.regions
rows_in t Stations = t.stations
rows_in t Docks = t.docks
rows_in t Bikes = t.bikes
rows_in t Trucks = t.trucks
rows_in t Riders = t.riders
rows_in t Rentals = t.rentals
rows_in t Orders = t.orders
rows_in t Entries = t.entries
rows_in t History = t.history
rows_in t MoreNames = t.more_names
rows_in t Books = t.books

-- the tables whose rows a function of the name gives
abbrev pub tables_by : (TableName → List Row) → Tables
tables_by rows = record {
  meta = rows Meta;
  system = rows System;
  plans = rows Plans;
  segments = rows Segments;
  types = rows Types;
  regions = rows Regions;
  stations = rows Stations;
  docks = rows Docks;
  bikes = rows Bikes;
  trucks = rows Trucks;
  riders = rows Riders;
  rentals = rows Rentals;
  orders = rows Orders;
  entries = rows Entries;
  history = rows History;
  more_names = rows MoreNames;
  books = rows Books;
}

-- the tables with these rows in one of them
abbrev pub with_rows : TableName → List Row → Tables → Tables
with_rows name rows t = tables_by (λ other. if is_table name other then rows else rows_in t other)
