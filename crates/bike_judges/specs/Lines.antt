-- The lines that the audit's queries answer, each as a list over the tables. A line holds whole stored rows: that of a
-- table with those of its partners beside it, or, where tables mix, its key in the order of the lines and then the row,
-- with NULL up to the width of the widest.
use Rattle.std.specs.Prelude.{ℕ, ℤ, zero, suc, pos, ◌-◌, List, [], ◌∷◌, ◌++◌, map, take, drop, Option, Some, None}
use Rattle.sqlite_value.specs.declared.value.Value.{Value}
use Rattle.sqlite_value.specs.declared.value.Value.TheVariants.{Null, Int}
use Rattle.sqlite_value.specs.Order.{Row, column}
use Rattle.bike_sql.specs.Keyed.{in_order}
use Rattle.bike_sql.specs.View.{by_key, left_joined, twice_joined}
use Rattle.bike_book.specs.Tables.{Tables}
use Rattle.bike_book.specs.declared.columns.plans.TheConstants as plans
use Rattle.bike_book.specs.declared.columns.types.TheConstants as types
use Rattle.bike_book.specs.declared.columns.regions.TheConstants as regions
use Rattle.bike_book.specs.declared.columns.stations.TheConstants as stations
use Rattle.bike_book.specs.declared.columns.docks.TheConstants as docks
use Rattle.bike_book.specs.declared.columns.bikes.TheConstants as bikes
use Rattle.bike_book.specs.declared.columns.trucks.TheConstants as trucks
use Rattle.bike_book.specs.declared.columns.rentals.TheConstants as rentals
use Rattle.bike_book.specs.declared.columns.orders.TheConstants as orders
use Rattle.bike_judges.specs.declared.query.Query.{Query}
use Rattle.bike_judges.specs.declared.query.Query.TheVariants as query

-- ---- the parts of a line

-- NULL in each of so many columns
abbrev pub nulls : ℕ → Row
nulls zero = []
nulls (suc width) = Null ∷ nulls width

-- the columns of a partner, and NULLs where there is none
abbrev pub or_nulls : ℕ → Option Row → Row
or_nulls width None = nulls width
or_nulls width (Some row) = row

-- a row with its partner of this width beside it, or with two
abbrev pub with_one : ℕ → Row → Option Row → Row
with_one width row partner = row ++ or_nulls width partner

abbrev pub with_two : ℕ → ℕ → Row → Option Row → Option Row → Row
with_two first second row partner other = row ++ (or_nulls first partner ++ or_nulls second other)

-- the stored row of this width in a line, from this column on
abbrev pub part : ℕ → ℕ → Row → Row
part first width line = take width (drop first line)

-- ---- lines of tables that mix: whose they are, which table's, and the number there

-- the line of a row: its owner, the place of its table, its own key, the row, and so many NULLs
abbrev pub line : Value → ℤ → Value → ℕ → Row → Row
line owner place key spare row = owner ∷ Int place ∷ key ∷ row ++ nulls spare

-- the line of the row that owns others: it comes before them
abbrev pub head : ℕ → Row → Row
head spare row = line (column row 0) (pos 0) (Int (pos 0)) spare row

-- stations, their docks and the bicycles there
abbrev pub station_line : Row → Row
station_line = head 0

abbrev pub station_dock_line : Row → Row
station_dock_line row = line (column row 0) (pos 1) (column row 1) (stations.COLUMNS - docks.COLUMNS) row

abbrev pub station_bike_line : Row → Row
station_bike_line row = line (column row 3) (pos 2) (column row 0) (stations.COLUMNS - bikes.COLUMNS) row

-- docks with the bicycles in them: the station, the dock, the place of the table and the bicycle
abbrev pub dock_line : Row → Row
dock_line row = column row 0 ∷ column row 1 ∷ Int (pos 0) ∷ Int (pos 0) ∷ row ++ nulls (bikes.COLUMNS - docks.COLUMNS)

abbrev pub docked_line : Row → Row
docked_line row = column row 3 ∷ column row 4 ∷ Int (pos 1) ∷ column row 0 ∷ row

-- trucks with the bicycles on them
abbrev pub truck_line : Row → Row
truck_line = head (bikes.COLUMNS - trucks.COLUMNS)

abbrev pub truck_bike_line : Row → Row
truck_bike_line row = line (column row 6) (pos 1) (column row 0) 0 row

-- orders with the bicycles on trucks for them
abbrev pub order_line : Row → Row
order_line = head 0

abbrev pub order_bike_line : Row → Row
order_bike_line row = line (column row 7) (pos 1) (column row 0) 0 row

-- the caller and the key of a request, with its number behind them
abbrev pub history_key_line : Row → Row
history_key_line row = column row 2 ∷ column row 3 ∷ column row 0 ∷ []

-- the lines of two tables, and of three, in the order of their first columns
abbrev pub merge_of_two : ℕ → (Row → Row) → List Row → (Row → Row) → List Row → List Row
merge_of_two keys first xs second ys = in_order (by_key keys) (map first xs ++ map second ys)

abbrev pub merge_of_three : ℕ → (Row → Row) → List Row → (Row → Row) → List Row → (Row → Row) → List Row → List Row
merge_of_three keys first xs second ys third zs =
    in_order (by_key keys) ((map first xs ++ map second ys) ++ map third zs)

-- ---- THE LINES OF EACH QUERY

abbrev pub lines_of : Query → Tables → List Row
lines_of query.Meta t = t.meta
lines_of query.System t = t.system
lines_of query.Plans t = t.plans
lines_of query.Segments t = left_joined (with_one plans.COLUMNS) (0 ∷ []) 1 t.plans t.segments
lines_of query.Types t = left_joined (with_one plans.COLUMNS) (5 ∷ []) 1 t.plans t.types
lines_of query.Regions t = t.regions
lines_of query.StationRows t = left_joined (with_one regions.COLUMNS) (11 ∷ []) 1 t.regions t.stations
lines_of query.Stations t = merge_of_three 3 station_line t.stations station_dock_line t.docks station_bike_line t.bikes
lines_of query.Docks t = left_joined (with_one stations.COLUMNS) (0 ∷ []) 1 t.stations t.docks
lines_of query.BikeNames t =
    twice_joined (with_two types.COLUMNS stations.COLUMNS) (1 ∷ []) 1 t.types (3 ∷ []) 1 t.stations t.bikes
lines_of query.BikeUses t =
    twice_joined (with_two rentals.COLUMNS orders.COLUMNS) (5 ∷ []) 1 t.rentals (7 ∷ []) 1 t.orders t.bikes
lines_of query.BikeTrucks t = left_joined (with_one trucks.COLUMNS) (6 ∷ []) 1 t.trucks t.bikes
lines_of query.BikeDocks t = merge_of_two 4 dock_line t.docks docked_line t.bikes
lines_of query.Trucks t = merge_of_two 3 truck_line t.trucks truck_bike_line t.bikes
lines_of query.RiderRows t = left_joined (with_one plans.COLUMNS) (4 ∷ []) 1 t.plans t.riders
lines_of query.Rentals t = t.rentals
lines_of query.OrderNames t =
    twice_joined (with_two trucks.COLUMNS types.COLUMNS) (1 ∷ []) 1 t.trucks (4 ∷ []) 1 t.types t.orders
lines_of query.OrderEnds t =
    twice_joined (with_two stations.COLUMNS stations.COLUMNS) (2 ∷ []) 1 t.stations (3 ∷ []) 1 t.stations t.orders
lines_of query.OrderBikes t = merge_of_two 3 order_line t.orders order_bike_line t.bikes
lines_of query.Entries t = t.entries
lines_of query.EntryRentals t = left_joined (with_one rentals.COLUMNS) (3 ∷ []) 1 t.rentals t.entries
lines_of query.History t = t.history
lines_of query.HistoryKeys t = in_order (by_key 3) (map history_key_line t.history)
lines_of query.Names t = t.more_names
lines_of query.NamePlaces t =
    twice_joined (with_two stations.COLUMNS regions.COLUMNS) (1 ∷ []) 1 t.stations (1 ∷ []) 1 t.regions t.more_names
lines_of query.NameOffers t =
    twice_joined (with_two types.COLUMNS plans.COLUMNS) (1 ∷ []) 1 t.types (1 ∷ []) 1 t.plans t.more_names
lines_of query.Books t = t.books
