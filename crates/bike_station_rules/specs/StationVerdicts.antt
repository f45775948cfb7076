-- What the two passes over stations find.
use Rattle.std.specs.Prelude.{ℕ, [], ◌∷◌, ◌++◌, map, take, Bool, Option, option_map}
use Rattle.sqlite_value.specs.Order.{Row, column}
use Rattle.sqlite.specs.Effect.{Database}
use Rattle.bike_sql.specs.View.{partner}
use Rattle.bike_book.specs.Tables.{Tables, Stations}
use Rattle.bike_book.specs.declared.columns.regions.TheConstants as regions
use Rattle.bike_schema.specs.Tables.{tables_of}
use Rattle.bike_judges.specs.Judging.{key_row}
use Rattle.bike_judges.specs.Lines.{with_one, station_line, station_dock_line, station_bike_line}
use Rattle.bike_judges.specs.Passes.{Demands, is_good_with}
use Rattle.bike_judges.specs.Verdicts.{IsFirstFailing}
use Rattle.bike_judges.specs.declared.key.BadKey.{BadKey}
use Rattle.bike_station_rules.specs.StationRows.{is_good_station}
use Rattle.bike_station_rules.specs.Stations.{begins, more, good, key}

-- a station's row with that of its region
abbrev pub with_region : Tables → Row → Row
with_region t row = with_one regions.COLUMNS row (partner 1 (column row 11 ∷ []) t.regions)

abbrev pub is_good_row : ℕ → Tables → ℕ → Row → Bool
is_good_row now t n row = is_good_station now n (with_region t row)

-- the first station whose row isn't good, where it is now that moment
abbrev pub FindsByRow : ℕ → Database → Option BadKey → Type 0
FindsByRow now db found =
    IsFirstFailing (tables_of db) Stations (Demands (tables_of db) Stations (is_good_row now (tables_of db)))
    (option_map key_row found)

-- the station's account with the lines of all docks and then of all bicycles is good,
-- where so many stations have lesser keys
abbrev pub is_accounted : Tables → ℕ → Row → Bool
is_accounted t n row =
    is_good_with begins more good key (take 1) (map station_dock_line t.docks ++ map station_bike_line t.bikes) n
    (begins (station_line row))

-- the first station whose numbers and text aren't those of its docks and bicycles
abbrev pub FindsByNumber : Database → Option BadKey → Type 0
FindsByNumber db found =
    IsFirstFailing (tables_of db) Stations (Demands (tables_of db) Stations (is_accounted (tables_of db)))
    (option_map key_row found)
