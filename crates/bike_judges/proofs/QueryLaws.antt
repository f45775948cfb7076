-- The verdicts of the passes in stretches that the audit's queries ask for, over tables that stand in a database.
use Rattle.std.proofs.Common.{◌≡◌, ℕ, ◌≤◌, List, ◌++◌, length, map, Bool, Option, None, refl, ap, subst, ◌∙◌, arith}
use Rattle.std.specs.Prelude.{take}
use Rattle.std.proofs.lemmas.List.{take-append-le}
use Rattle.std.proofs.lemmas.List.FromFn.{length-map-range_with_len}
use Rattle.sqlite_value.specs.declared.value.Value.{Value}
use Rattle.sqlite_value.specs.Order.{Row}
use Rattle.sqlite_rules.specs.Lists.{Has}
use Rattle.sqlite.specs.Effect.{Database}
use Rattle.bike_sql.specs.Layout.{table_of}
use Rattle.bike_sql.specs.View.{columns_of}
use Rattle.bike_sql.proofs.FrameLemmas.{rows_of_is}
use Rattle.bike_sql.proofs.RowListLemmas.{map_has}
use Rattle.bike_sql.proofs.OrderLemmas.{order_has}
use Rattle.bike_sql.proofs.TreeLemmas.{by_key_total}
use Rattle.bike_book.specs.Tables.{TableName, Tables, rows_in, keys_of, Meta, System, Plans, Segments, Types, Regions, Stations, Docks, Bikes, Trucks, Riders, Rentals, Orders, Entries, History}
use Rattle.bike_book.specs.Tables.{MoreNames, Books}
use Rattle.bike_schema.specs.Layouts.{layout_of}
use Rattle.bike_schema.specs.Tables.{tables_of, HasTables}
use Rattle.bike_schema.proofs.MakesLemmas.{rows_of_table}
use Rattle.bike_readings.specs.Rules.{AreInOrder}
use Rattle.bike_judges.specs.declared.pass.Opening.{Opening}
use Rattle.bike_judges.specs.declared.query.Query.TheVariants as query
use Rattle.bike_judges.specs.Lines.{lines_of, station_line, station_dock_line, station_bike_line, truck_line, truck_bike_line, order_line, order_bike_line}
use Rattle.bike_judges.specs.Passes.{pass, is_good_with, Demands}
use Rattle.bike_judges.specs.Verdicts.{IsFirstFailing}
use Rattle.bike_judges.proofs.StretchLaw.{HasOneKey, AreAccounts, AreItems, merged_verdict, merged_of_three_verdict}
use Rattle.bike_judges.proofs.ApartLines.{AreWhole, first_column, stations_apart, trucks_apart, order_bikes_apart, stations_owned, trucks_owned, order_bikes_owned}

-- ---- stored rows have all their columns

pub stored_width : (db : Database) → HasTables db → (name : TableName) (row : Row) → Has (rows_in (tables_of db) name) row → length row ≡ length (layout_of name).columns
stored_width db has name row there =
    let it = has name in
    let table = table_of (layout_of name) it.tree in
    let rows_are = rows_of_table db name ∙ rows_of_is db (keys_of name) (layout_of name) it in
    let sorted = subst (λ (rows : List Row). Has rows row) rows_are there in
    let from = map_has (columns_of table) (db.trees it.tree) row (order_has (by_key_total (keys_of name)) (map (columns_of table) (db.trees it.tree)) row sorted) in
    ap length from.2 ∙ length-map-range_with_len _ 0 (length table.columns)

pub stored_whole : (db : Database) → HasTables db → AreWhole (tables_of db)
stored_whole db has name row there = let wide = stored_width db has name row there in let enough = fits name in omega (arith, wide, enough)
  where
    fits : (t : TableName) → keys_of t ≤ length (layout_of t).columns
    fits Meta = omega arith
    fits System = omega arith
    fits Plans = omega arith
    fits Segments = omega arith
    fits Types = omega arith
    fits Regions = omega arith
    fits Stations = omega arith
    fits Docks = omega arith
    fits Bikes = omega arith
    fits Trucks = omega arith
    fits Riders = omega arith
    fits Rentals = omega arith
    fits Orders = omega arith
    fits Entries = omega arith
    fits History = omega arith
    fits MoreNames = omega arith
    fits Books = omega arith

-- a line that begins with a stored row begins with its key
pub joined_key : (db : Database) → HasTables db → (name : TableName) (row : Row) → Has (rows_in (tables_of db) name) row → (more : Row) → take (keys_of name) (row ++ more) ≡ take (keys_of name) row
joined_key db has name row there more = take-append-le (keys_of name) row more (stored_whole db has name row there)

pub one_key : (t : Tables) → AreWhole t → (name : TableName) → keys_of name ≡ 1 → HasOneKey t name
one_key t whole name one = record { one = one; first = λ row h. first_column row (let wide = whole name row h in omega (arith, wide, one)) }

-- ---- the queries

module _ {A : Type 0} (begins : Row → Opening A) (more : A → Row → A) (good : ℕ → A → Bool) (key : A → Row) (owner : A → Value) (t : Tables) (up : AreInOrder t) (whole : AreWhole t) where
  abbrev Accounts : ℕ → Type 0
  Accounts = AreAccounts begins more good key owner

  abbrev Items : (Row → Row) → Type 0
  Items = AreItems begins more good key owner

  abbrev run : List Row → Option Row
  run = pass begins more good key (take 1) None 0

  -- the head of a row with all these items
  abbrev pub with_all : List Row → ℕ → Opening A → Bool
  with_all = is_good_with begins more good key (take 1)

  pub stations_verdict : Accounts 0 → Items station_dock_line → Items station_bike_line → (verdict : Option Row) → run (lines_of query.Stations t) ≡ verdict
      → IsFirstFailing t Stations (Demands t Stations (λ n row. with_all (map station_dock_line t.docks ++ map station_bike_line t.bikes) n (begins (station_line row)))) verdict
  stations_verdict accounts docks bikes =
      merged_of_three_verdict begins more good key owner t Stations up (one_key t whole Stations refl) 0 accounts station_dock_line t.docks station_bike_line t.bikes docks bikes (stations_owned t up whole)
      (stations_apart t up whole)

  pub trucks_verdict : Accounts 6 → Items truck_bike_line → (verdict : Option Row) → run (lines_of query.Trucks t) ≡ verdict
      → IsFirstFailing t Trucks (Demands t Trucks (λ n row. with_all (map truck_bike_line t.bikes) n (begins (truck_line row)))) verdict
  trucks_verdict accounts bikes = merged_verdict begins more good key owner t Trucks up (one_key t whole Trucks refl) 6 accounts truck_bike_line t.bikes bikes (trucks_owned t up whole) (trucks_apart t up whole)

  pub order_bikes_verdict : Accounts 0 → Items order_bike_line → (verdict : Option Row) → run (lines_of query.OrderBikes t) ≡ verdict
      → IsFirstFailing t Orders (Demands t Orders (λ n row. with_all (map order_bike_line t.bikes) n (begins (order_line row)))) verdict
  order_bikes_verdict accounts bikes = merged_verdict begins more good key owner t Orders up (one_key t whole Orders refl) 0 accounts order_bike_line t.bikes bikes (order_bikes_owned t up whole) (order_bikes_apart t up whole)
