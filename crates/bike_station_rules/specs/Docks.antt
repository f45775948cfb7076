-- The test of docks: a line has a dock's row and that of its station.
use Rattle.std.specs.Prelude.{ℕ, ℤ, leb, List, Bool, false, Option, Some, None}
use Rattle.sqlite_value.specs.Order.{Row}
use Rattle.bike_book.specs.declared.columns.stations.TheConstants as stations
use Rattle.bike_book.specs.declared.columns.docks.TheConstants as docks
use Rattle.bike_operator.specs.Operator.{Station}
use Rattle.bike_readings.specs.Readings.{dock_read, station_read}
use Rattle.bike_judges.specs.Lines.{part}

-- the station that was read has so many docks
abbrev pub has_dock : Option (List ℕ × ℕ × Bool) → Option (List ℕ × Station × ℤ × ℕ × List ℕ) → Bool
has_dock (Some dock) (Some station) = leb dock.1 station.1.row.docks
has_dock (Some dock) None = false
has_dock None station = false

-- the dock is one of its station's
abbrev pub is_good_dock : Row → Bool
is_good_dock line =
    has_dock (dock_read (part 0 docks.COLUMNS line)) (station_read (part docks.COLUMNS stations.COLUMNS line))
