-- What is stored of a dock, from what was read.
use Rattle.std.specs.Prelude.{◌≡◌, ℕ, List, Bool, Option, IfSome}
use Rattle.std.specs.FinMap as map
use Rattle.bike_operator.specs.Operator.{Operator, dock_key}
use Rattle.bike_book.specs.declared.by_type.TypeCounts.{TypeCounts}
use Rattle.bike_book.specs.Stored.{Listed}
use Rattle.bike_booking.specs.declared.stored.StoredCounts.{StoredCounts}
use Rattle.bike_booking.specs.declared.stored.StoredDock.{StoredDock}
use Rattle.bike_fleet_reads.specs.declared.stations.DockNumbers.{DockNumbers}
use Rattle.bike_fleet_reads.specs.Fleet.{station_numbers_at}
use Rattle.bike_views.specs.declared.view_and_docks.DockListing.{DockListing}
use Rattle.bike_views.specs.declared.view_and_docks.StationDocks.{StationDocks}
use Rattle.bike_views.specs.ViewAndDocks.{DocksTold, told_of}

-- the numbers of a station's docks as they were read
abbrev pub dock_read : DockNumbers → Bool → StoredDock
dock_read n listed = record { free = n.free; broken = n.broken; is_listed = listed }

-- the counts of a type as they were read
abbrev pub counts_read : TypeCounts → StoredCounts
counts_read c = record { available = c.available; disabled = c.disabled }

module _ (s : Operator) (m : Listed) where
  -- whether the dock of the station has a row
  abbrev pub IsListing : List ℕ → DockListing → Type 0
  IsListing station l = l.is_listed ≡ map.contains_key m.docks (dock_key station l.dock)

  -- What was read of a station's docks is what the tables tell of them.
  pub record AreStationDocks (d : DocksTold) : Type 0 where
    pub numbers : d.numbers ≡ station_numbers_at s d.station
    pub listing : IfSome d.listing (IsListing d.station)

  abbrev pub AreDocks : Option StationDocks → Type 0
  AreDocks docks = IfSome (told_of docks) AreStationDocks
