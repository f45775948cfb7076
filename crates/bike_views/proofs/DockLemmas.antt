-- What comes with the view of a command is what the tables tell of a station's docks.
use Rattle.std.proofs.Common.{◌≡◌, ℕ, List, Option, Some, None, refl, sym, subst}
use Rattle.std.specs.Prelude.{IfSome}
use Rattle.std.specs.FinMap as map
use Rattle.bike_commands.specs.declared.command.Command.{Command}
use Rattle.bike_commands.specs.declared.command.Command.TheVariants as command
use Rattle.bike_texts.specs.declared.ends.OrderEnd.{OrderEnd}
use Rattle.bike_texts.specs.declared.ends.OrderEnd.TheVariants as end
use Rattle.bike_texts.specs.declared.ends.Side.{Side}
use Rattle.bike_operator.specs.declared.records.Bike.{Bike}
use Rattle.bike_operator.specs.declared.records.Order.{Order}
use Rattle.bike_operator.specs.declared.records.Place.{Place}
use Rattle.bike_operator.specs.declared.records.Place.TheVariants as place
use Rattle.bike_operator.specs.Operator.{Operator, item_numbered}
use Rattle.bike_operator.specs.View.{end_at}
use Rattle.bike_book.specs.Stored.{Listed}
use Rattle.bike_views.specs.declared.view_and_docks.StationDocks.{StationDocks}
use Rattle.bike_views.specs.ViewAndDocks.{DocksTold, bike_docks, docks_for, end_docks, place_docks, side_docks, station_docks, told_of}
use Rattle.bike_views.specs.StoredParts.{AreDocks, AreStationDocks}

module _ (s : Operator) (m : Listed) where
  abbrev AreTold : Option DocksTold → Type 0
  AreTold o = IfSome o (AreStationDocks s m)

  of_station : (station : List ℕ) → AreStationDocks s m (station_docks s station)
  of_station station = record { numbers = refl; listing = tt }

  of_place : (p : Place) → AreTold (place_docks s p)
  of_place (place.Dock station dock) = of_station station
  of_place (place.Rental rental) = tt
  of_place (place.Truck truck order) = tt
  of_place place.Depot = tt

  of_bike : (o : Option Bike) → AreTold (bike_docks s o)
  of_bike None = tt
  of_bike (Some b) = of_place b.place

  of_end : (e : OrderEnd) → AreTold (end_docks s e)
  of_end end.Depot = tt
  of_end (end.Station station) = of_station station

  of_side : (o : Option Order) (side : Side) → AreTold (side_docks s o side)
  of_side None side = tt
  of_side (Some o) side = of_end (end_at side o)

  of_command : (c : Command) → AreTold (docks_for s m c)
  of_command (command.MarkDock station dock broken) = record { numbers = refl; listing = refl }
  of_command (command.AddDocks station count) = of_station station
  of_command (command.MarkBike bike disabled) = of_bike (map.get s.bikes bike)
  of_command (command.Start rider station dock) = of_station station
  of_command (command.End bike station dock) = of_station station
  of_command (command.Load truck order bike) = of_bike (map.get s.bikes bike)
  of_command (command.Unload truck order bike side dock) = of_side (item_numbered order s.orders) side
  of_command _ = tt

  pub are_docks : (docks : Option StationDocks) (c : Command) → told_of docks ≡ docks_for s m c → AreDocks s m docks
  are_docks docks c is = subst AreTold (sym is) (of_command c)
