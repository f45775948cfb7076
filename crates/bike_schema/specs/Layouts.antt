-- The tables of the schema, each as its CREATE TABLE makes it. Every table is STRICT.
use Rattle.std.specs.Prelude.{ℕ, true, false, List, [], ◌∷◌, Some, None, codes}
use Rattle.sqlite_value.specs.Keys.{plain}
use Rattle.sqlite_schema.specs.declared.schema.Column.{Column}
use Rattle.sqlite_schema.specs.declared.schema.Kind.TheVariants.{Integer, Text}
use Rattle.bike_sql.specs.Layout.{Layout, strict}
use Rattle.bike_book.specs.Tables.{TableName, Meta, System, Plans, Segments, Types, Regions, Stations, Docks}
use Rattle.bike_book.specs.Tables.{Bikes, Trucks, Riders, Rentals, Orders, Entries, History, MoreNames, Books}

-- a column of whole numbers or of texts, NOT NULL
abbrev pub number : List ℕ → Column
number name = strict name Integer true

abbrev pub text : List ℕ → Column
text name = strict name Text true

-- the same, or NULL
abbrev pub number_or_null : List ℕ → Column
number_or_null name = strict name Integer false

abbrev pub text_or_null : List ℕ → Column
text_or_null name = strict name Text false

-- a table whose key is one number, its first column: the INTEGER PRIMARY KEY, for which the rowid stands
abbrev pub numbered_layout : List ℕ → List ℕ → List Column → Layout
numbered_layout name key others =
    record {
      name = name;
      columns = number_or_null key ∷ others;
      key = Some 0;
      primary = 0 ∷ [];
      uniques = [];
      orders = [];
    }

-- a table whose key is its first columns, which stand at these places of a stored row, after the rowid
abbrev pub keyed_layout : List ℕ → List ℕ → List Column → Layout
keyed_layout name places columns =
    record { name = name; columns = columns; key = None; primary = places; uniques = places ∷ []; orders = plain ∷ [] }

-- THE TABLES. An end of an order is a station's identifier, or *.
abbrev pub layout_of : TableName → Layout
layout_of Meta = numbered_layout (codes "meta") (codes "one")
    (text (codes "app") ∷ number (codes "version") ∷ number (codes "now") ∷ number (codes "cash")
    ∷ number (codes "revenue") ∷ [])
layout_of System = numbered_layout (codes "system") (codes "one")
    (text (codes "system_id") ∷ text (codes "language") ∷ text (codes "name") ∷ text (codes "hours")
    ∷ text (codes "contact") ∷ text (codes "zone") ∷ text (codes "currency") ∷ text (codes "base_url")
    ∷ number (codes "ttl") ∷ [])
layout_of Plans = keyed_layout (codes "plans") (1 ∷ [])
    (text (codes "plan_id") ∷ text (codes "name") ∷ number (codes "price") ∷ number (codes "taxable")
    ∷ text (codes "description") ∷ [])
layout_of Segments = keyed_layout (codes "segments") (1 ∷ 2 ∷ [])
    (text (codes "plan_id") ∷ number (codes "seq") ∷ number (codes "start") ∷ number (codes "rate")
    ∷ number (codes "every") ∷ number_or_null (codes "finish") ∷ [])
layout_of Types = keyed_layout (codes "types") (1 ∷ [])
    (text (codes "type_id") ∷ text (codes "name") ∷ text (codes "form") ∷ text (codes "propulsion")
    ∷ number (codes "range_m") ∷ text (codes "plan_id") ∷ [])
layout_of Regions = keyed_layout (codes "regions") (1 ∷ [])
    (text (codes "region_id") ∷ text (codes "name") ∷ [])
layout_of Stations = keyed_layout (codes "stations_4") (1 ∷ [])
    (text (codes "station_id") ∷ text (codes "name") ∷ number (codes "lat") ∷ number (codes "lon")
    ∷ number (codes "docks") ∷ number (codes "installed") ∷ number (codes "renting")
    ∷ number (codes "returning") ∷ number (codes "reported") ∷ number (codes "free") ∷ number (codes "broken")
    ∷ text_or_null (codes "region_id") ∷ text (codes "by_type") ∷ [])
layout_of Docks = keyed_layout (codes "docks") (1 ∷ 2 ∷ [])
    (text (codes "station_id") ∷ number (codes "dock") ∷ number (codes "broken") ∷ [])
layout_of Bikes = numbered_layout (codes "bikes") (codes "bike")
    (text (codes "type_id") ∷ number (codes "state") ∷ text_or_null (codes "station_id") ∷ number_or_null (codes "dock")
    ∷ number_or_null (codes "rental") ∷ number_or_null (codes "truck") ∷ number_or_null (codes "ord") ∷ [])
layout_of Trucks = numbered_layout (codes "trucks") (codes "truck")
    (number (codes "capacity") ∷ [])
layout_of Riders = numbered_layout (codes "riders_4") (codes "rider")
    (number (codes "blocked") ∷ number (codes "balance") ∷ number (codes "before") ∷ text_or_null (codes "plan_id") ∷ [])
layout_of Rentals = numbered_layout (codes "rentals") (codes "rental")
    (number (codes "rider") ∷ number (codes "bike") ∷ text (codes "plan_id") ∷ text (codes "from_station")
    ∷ number (codes "start") ∷ text_or_null (codes "to_station") ∷ number_or_null (codes "finish")
    ∷ number_or_null (codes "fare") ∷ number (codes "refunded") ∷ [])
layout_of Orders = numbered_layout (codes "orders") (codes "ord")
    (number (codes "truck") ∷ text (codes "from_end") ∷ text (codes "to_end") ∷ text (codes "type_id")
    ∷ number (codes "quantity") ∷ number (codes "delivered") ∷ number (codes "is_open") ∷ [])
layout_of Entries = numbered_layout (codes "entries") (codes "entry")
    (number (codes "kind") ∷ number (codes "rider") ∷ number (codes "rental") ∷ number (codes "amount")
    ∷ number (codes "at") ∷ [])
layout_of History = numbered_layout (codes "history") (codes "number")
    (number (codes "moment") ∷ text (codes "caller") ∷ text (codes "req_key") ∷ text (codes "command")
    ∷ text (codes "reply") ∷ [])
layout_of MoreNames = keyed_layout (codes "more_names") (1 ∷ 2 ∷ 3 ∷ [])
    (text (codes "kind") ∷ text (codes "id") ∷ text (codes "language") ∷ text (codes "name") ∷ [])
layout_of Books = numbered_layout (codes "books") (codes "one")
    (number (codes "requests") ∷ number (codes "entries") ∷ number (codes "rentals") ∷ [])

abbrev pub name_of : TableName → List ℕ
name_of t = (layout_of t).name

-- the tables in the order of the schema
abbrev pub every_table : List TableName
every_table =
    Meta ∷ System ∷ Plans ∷ Segments ∷ Types ∷ Regions ∷ Stations ∷ Docks ∷ Bikes ∷ Trucks ∷ Riders ∷ Rentals ∷ Orders
    ∷ Entries ∷ History ∷ MoreNames ∷ Books ∷ []
