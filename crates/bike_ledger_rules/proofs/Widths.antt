-- Rows of the tables have as many columns as the tables.
use Rattle.std.proofs.Common.{◌≡◌, ℕ, List, length, refl, ap, subst, ◌∙◌}
use Rattle.sqlite_value.specs.Order.{Row}
use Rattle.sqlite_rules.specs.Lists.{Has}
use Rattle.sqlite.specs.Effect.{Database}
use Rattle.bike_sql.specs.Layout.{Layout, table_of}
use Rattle.bike_sql.specs.Stands.{rows_of, Stands}
use Rattle.bike_sql.specs.View.{columns_of}
use Rattle.bike_sql.proofs.FrameLemmas.{rows_of_is}
use Rattle.bike_sql.proofs.RowListLemmas.{map_has}
use Rattle.bike_sql.proofs.OrderLemmas.{order_has}
use Rattle.bike_sql.proofs.TreeLemmas.{by_key_total}
use Rattle.bike_book.specs.Tables.{Plans, Stations, Bikes, Riders, Rentals, Entries, History}
use Rattle.bike_book.specs.declared.columns.plans.TheConstants as plans
use Rattle.bike_book.specs.declared.columns.riders.TheConstants as riders
use Rattle.bike_book.specs.declared.columns.stations.TheConstants as stations
use Rattle.bike_book.specs.declared.columns.bikes.TheConstants as bikes
use Rattle.bike_book.specs.declared.columns.rentals.TheConstants as rentals
use Rattle.bike_book.specs.declared.columns.entries.TheConstants as entries
use Rattle.bike_book.specs.declared.columns.history.TheConstants as history
use Rattle.bike_schema.specs.Layouts.{layout_of}
use Rattle.bike_schema.specs.Tables.{tables_of, HasTables}
use Rattle.bike_ledger_rules.proofs.RiderFolds.{AreWide}

wide : (width keys : ℕ) (layout : Layout) (db : Database) (it : Stands db keys layout) → ((r : Row) → length (columns_of (table_of layout it.tree) r) ≡ width)
    → AreWide width (rows_of keys layout.name db)
wide width keys layout db it each r has =
    let there = subst (λ (rows : List Row). Has rows r) (rows_of_is db keys layout it) has in
    let stored = order_has (by_key_total keys) _ r there in
    let row = map_has (columns_of (table_of layout it.tree)) (db.trees it.tree) r stored in
    ap (λ (x : Row). length x) row.2 ∙ each row.0

module _ (db : Database) (has : HasTables db) where
  pub rentals_wide : AreWide rentals.COLUMNS (tables_of db).rentals
  rentals_wide = wide rentals.COLUMNS 1 (layout_of Rentals) db (has Rentals) (λ r. refl)

  pub entries_wide : AreWide entries.COLUMNS (tables_of db).entries
  entries_wide = wide entries.COLUMNS 1 (layout_of Entries) db (has Entries) (λ r. refl)

  pub history_wide : AreWide history.COLUMNS (tables_of db).history
  history_wide = wide history.COLUMNS 1 (layout_of History) db (has History) (λ r. refl)

  pub plans_wide : AreWide plans.COLUMNS (tables_of db).plans
  plans_wide = wide plans.COLUMNS 1 (layout_of Plans) db (has Plans) (λ r. refl)

  pub riders_wide : AreWide riders.COLUMNS (tables_of db).riders
  riders_wide = wide riders.COLUMNS 1 (layout_of Riders) db (has Riders) (λ r. refl)

  pub stations_wide : AreWide stations.COLUMNS (tables_of db).stations
  stations_wide = wide stations.COLUMNS 1 (layout_of Stations) db (has Stations) (λ r. refl)

  pub bikes_wide : AreWide bikes.COLUMNS (tables_of db).bikes
  bikes_wide = wide bikes.COLUMNS 1 (layout_of Bikes) db (has Bikes) (λ r. refl)
