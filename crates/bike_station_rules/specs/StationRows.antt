-- The test of stations by their rows: how many there may be, that each reported by now, and that its region is there.
use Rattle.std.specs.Prelude.{ℕ, ℤ, leb, nat_lt, List, Bool, true, false, ◌&&◌, Option, Some, None, is_some}
use Rattle.sqlite_value.specs.Order.{Row}
use Rattle.bike_book.specs.declared.columns.regions.TheConstants as regions
use Rattle.bike_book.specs.declared.columns.stations.TheConstants as stations
use Rattle.bike_catalogue.specs.Rows.{RegionRow}
use Rattle.bike_operator.specs.declared.limits.TheConstants.{MOST_STATIONS}
use Rattle.bike_operator.specs.Operator.{Station}
use Rattle.bike_readings.specs.Readings.{region_read, station_read}
use Rattle.bike_judges.specs.Lines.{part}

-- the region that was read is there, or the station names none
abbrev pub has_region : Option (List ℕ) → Option (List ℕ × RegionRow) → Bool
has_region None region = true
has_region (Some id) region = is_some region

abbrev pub stands_well : ℕ → ℕ → Option (List ℕ × Station × ℤ × ℕ × List ℕ) → Option (List ℕ × RegionRow) → Bool
stands_well now before None region = false
stands_well now before (Some e) region =
    (nat_lt before MOST_STATIONS && leb e.1.reported now) && has_region e.1.region region

-- a line has a station's row and that of its region
abbrev pub is_good_station : ℕ → ℕ → Row → Bool
is_good_station now before line =
    stands_well now before (station_read (part 0 stations.COLUMNS line))
    (region_read (part stations.COLUMNS regions.COLUMNS line))
