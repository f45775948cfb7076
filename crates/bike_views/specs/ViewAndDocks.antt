-- What is read for a command: its view, and the docks of the station whose numbers it may change.
use Rattle.std.specs.Prelude.{◌≡◌, ℕ, List, Option, Some, None, option_map, Result, Ok, Err}
use Rattle.std.specs.FinMap as map
use Rattle.bike_commands.specs.declared.command.Command.{Command}
use Rattle.bike_commands.specs.declared.command.Command.TheVariants as command
use Rattle.bike_texts.specs.declared.ends.OrderEnd.{OrderEnd}
use Rattle.bike_texts.specs.declared.ends.OrderEnd.TheVariants as end
use Rattle.bike_texts.specs.declared.ends.Side.{Side}
use Rattle.bike_operator.specs.declared.records.Place.{Place}
use Rattle.bike_operator.specs.declared.records.Place.TheVariants as place
use Rattle.bike_operator.specs.declared.records.Bike.{Bike}
use Rattle.bike_operator.specs.declared.records.Order.{Order}
use Rattle.bike_operator.specs.declared.view.View.{View}
use Rattle.bike_operator.specs.Operator.{Operator, dock_key, item_numbered}
use Rattle.bike_operator.specs.View.{end_at, view_of}
use Rattle.bike_book.specs.declared.by_type.CountedType.{CountedType}
use Rattle.bike_book.specs.Stored.{Listed}
use Rattle.bike_schema.specs.declared.fault.StatementFault.{StatementFault}
use Rattle.bike_fleet_reads.specs.declared.stations.DockNumbers.{DockNumbers}
use Rattle.bike_fleet_reads.specs.Fleet.{numbers_pair, station_numbers_at}
use Rattle.bike_views.specs.declared.view_and_docks.DockListing.{DockListing}
use Rattle.bike_views.specs.declared.view_and_docks.StationDocks.{StationDocks}
use Rattle.bike_views.specs.declared.view_and_docks.ViewAndDocks.{ViewAndDocks}

-- What is told of a station's docks: of its numbers, the list of its bicycles by type.
pub record DocksTold : Type 0 where
  pub station : List ℕ
  pub numbers : Option (DockNumbers × List CountedType)
  pub listing : Option DockListing

abbrev pub docks_told : StationDocks → DocksTold
docks_told d = record { station = d.station; numbers = option_map numbers_pair d.numbers; listing = d.listing }

abbrev pub told_of : Option StationDocks → Option DocksTold
told_of = option_map docks_told

-- what the station's row tells of its docks
abbrev pub station_docks : Operator → List ℕ → DocksTold
station_docks s station = record { station = station; numbers = station_numbers_at s station; listing = None }

-- and whether one of them has a row
abbrev pub listed_docks : Operator → Listed → List ℕ → ℕ → DocksTold
listed_docks s m station dock = record (station_docks s station) {
  listing = Some (record { dock = dock; is_listed = map.contains_key m.docks (dock_key station dock) });
}

-- of the station in whose dock a bicycle stands
abbrev pub place_docks : Operator → Place → Option DocksTold
place_docks s (place.Dock station dock) = Some (station_docks s station)
place_docks s (place.Rental rental) = None
place_docks s (place.Truck truck order) = None
place_docks s place.Depot = None

abbrev pub bike_docks : Operator → Option Bike → Option DocksTold
bike_docks s None = None
bike_docks s (Some b) = place_docks s b.place

-- of the station at a side of an order: the depot has no docks
abbrev pub end_docks : Operator → OrderEnd → Option DocksTold
end_docks s end.Depot = None
end_docks s (end.Station station) = Some (station_docks s station)

abbrev pub side_docks : Operator → Option Order → Side → Option DocksTold
side_docks s None side = None
side_docks s (Some o) side = end_docks s (end_at side o)

-- THE TABLE: the docks that come with the view of a command
abbrev pub docks_for : Operator → Listed → Command → Option DocksTold
docks_for s m (command.MarkDock station dock broken) = Some (listed_docks s m station dock)
docks_for s m (command.AddDocks station count) = Some (station_docks s station)
docks_for s m (command.MarkBike bike disabled) = bike_docks s (map.get s.bikes bike)
docks_for s m (command.Start rider station dock) = Some (station_docks s station)
docks_for s m (command.End bike station dock) = Some (station_docks s station)
docks_for s m (command.Load truck order bike) = bike_docks s (map.get s.bikes bike)
docks_for s m (command.Unload truck order bike side dock) = side_docks s (item_numbered order s.orders) side
docks_for s m _ = None

-- What was read for a command: the view is its own, with its docks.
pub record IsFoundFor (s : Operator) (m : Listed) (c : Command) (x : ViewAndDocks) : Type 0 where
  pub view_is : x.view ≡ view_of s c
  pub docks_are : told_of x.docks ≡ docks_for s m c

-- a view for which no docks were read
abbrev pub IsPlain : Result View StatementFault → Result ViewAndDocks StatementFault → Type 0
IsPlain (Ok v) (Ok x) = x ≡ record { view = v; docks = None }
IsPlain (Err e) (Err f) = f ≡ e
IsPlain (Ok v) (Err f) = ⊥
IsPlain (Err e) (Ok x) = ⊥
