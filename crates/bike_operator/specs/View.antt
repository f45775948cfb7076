-- The view: what a command names of the operator, each there or absent, and what is counted for it.
use Rattle.std.specs.Prelude.{ℕ, ℤ, pos, ◌+◌, ◌+ℤ◌, List, nat_le, Bool, true, false, Option, Some, None, is_some}
use Rattle.std.specs.FinMap as map
use Rattle.std.specs.declared.cmp.Ordering.{Ordering}
use Rattle.bike_catalogue.specs.Rows.{PlanRow, TypeRow}
use Rattle.bike_ledger.specs.Ledger.{balance_of, refunded_of}
use Rattle.bike_fields.specs.declared.name_kind.NameKind.{NameKind}
use Rattle.bike_texts.specs.declared.ends.OrderEnd.{OrderEnd}
use Rattle.bike_texts.specs.declared.ends.OrderEnd.TheVariants as end
use Rattle.bike_texts.specs.declared.ends.Side.{Side}
use Rattle.bike_texts.specs.declared.ends.Side.TheVariants.{From, To}
use Rattle.bike_commands.specs.declared.command.Command.{Command}
use Rattle.bike_commands.specs.declared.command.Command.TheVariants as command
use Rattle.bike_operator.specs.declared.limits.TheConstants.{MOST_PLANS, MOST_TYPES, MOST_REGIONS, MOST_STATIONS}
use Rattle.bike_operator.specs.declared.limits.TheConstants.{MOST_BIKES, MOST_TRUCKS, MOST_RIDERS, MOST_ENTRIES}
use Rattle.bike_operator.specs.declared.records.Place.{Place}
use Rattle.bike_operator.specs.declared.records.Place.TheVariants as place
use Rattle.bike_operator.specs.declared.records.Bike.{Bike}
use Rattle.bike_operator.specs.declared.records.Rental.{Rental}
use Rattle.bike_operator.specs.declared.records.Order.{Order}
use Rattle.bike_operator.specs.declared.view.StationView.{StationView}
use Rattle.bike_operator.specs.declared.view.DockedBike.{DockedBike}
use Rattle.bike_operator.specs.declared.view.RentalView.{RentalView}
use Rattle.bike_operator.specs.declared.view.RiderView.{RiderView}
use Rattle.bike_operator.specs.declared.view.TruckView.{TruckView}
use Rattle.bike_operator.specs.declared.view.View.{View}
use Rattle.bike_operator.specs.Operator.{Operator, Station, Truck, Rider, item_numbered, last_number}
use Rattle.bike_operator.specs.Names.{is_own_language, has_named, has_language, has_all_names}
use Rattle.bike_operator.specs.Counts.{docked_at, is_broken, truck_load, order_load, open_rentals, is_riding}

-- ---- limits

-- as many as there may be are there
abbrev pub is_at_limit : {K X : Type 0} {R : K → K → Ordering} → ℕ → map.FinMap R X → Bool
is_at_limit most m = nat_le most (map.len m)

-- entries and open rentals are as many as there may be
abbrev pub has_full_ledger : Operator → Bool
has_full_ledger s = nat_le MOST_ENTRIES (last_number s.entries + open_rentals s)

-- ---- records, there or absent

abbrev pub station_view : Option Station → Option StationView
station_view None = None
station_view (Some x) =
    Some (record {
      docks = x.row.docks;
      is_installed = x.is_installed;
      is_renting = x.is_renting;
      is_returning = x.is_returning;
    })

abbrev pub station_at : Operator → List ℕ → Option StationView
station_at s station = station_view (map.get s.stations station)

-- the balance of the rider by the entries that were archived
abbrev pub before_of : Option Rider → ℤ
before_of None = pos 0
before_of (Some r) = r.before

-- the rider's balance: a sum over all entries, archived ones included
abbrev pub rider_balance : Operator → ℕ → ℤ
rider_balance s rider = before_of (map.get s.riders rider) +ℤ balance_of rider s.entries.items

abbrev pub rider_view : Operator → ℕ → Option Rider → Option RiderView
rider_view s rider None = None
rider_view s rider (Some r) =
    Some (record {
      is_blocked = r.is_blocked;
      plan = r.plan;
      balance = r.before +ℤ balance_of rider s.entries.items;
    })

abbrev pub rider_at : Operator → ℕ → Option RiderView
rider_at s rider = rider_view s rider (map.get s.riders rider)

abbrev pub truck_view : Option Truck → Option TruckView
truck_view None = None
truck_view (Some t) = Some (record { capacity = t.capacity })

abbrev pub truck_at : Operator → ℕ → Option TruckView
truck_at s truck = truck_view (map.get s.trucks truck)

-- the bicycle in a dock, with the plan of its type
abbrev pub typed_bike : ℕ × Bike → Option TypeRow → Option DockedBike
typed_bike b None = None
typed_bike b (Some t) = Some (record { bike = b.0; type_id = b.1.type_id; state = b.1.state; plan = t.plan_id })

abbrev pub docked_view : Operator → Option (ℕ × Bike) → Option DockedBike
docked_view s None = None
docked_view s (Some b) = typed_bike b (map.get s.types b.1.type_id)

-- a rental, with its plan
abbrev pub planned_rental : Operator → ℕ → Rental → Option PlanRow → Option RentalView
planned_rental s number r None = None
planned_rental s number r (Some plan) =
    Some (record {
      number = number;
      rental = r;
      plan = plan;
      refunded = refunded_of number s.entries.items;
      balance = rider_balance s r.rider;
    })

abbrev pub rental_view : Operator → ℕ → Option Rental → Option RentalView
rental_view s number None = None
rental_view s number (Some r) = planned_rental s number r (map.get s.plans r.plan)

abbrev pub rental_at : Operator → ℕ → Option RentalView
rental_at s number = rental_view s number (item_numbered number s.rentals)

-- the rental that holds a bicycle
abbrev pub rental_in : Operator → Place → Option RentalView
rental_in s (place.Dock station dock) = None
rental_in s (place.Rental rental) = rental_view s rental (item_numbered rental s.rentals)
rental_in s (place.Truck truck order) = None
rental_in s place.Depot = None

abbrev pub rental_of : Operator → Option Bike → Option RentalView
rental_of s None = None
rental_of s (Some b) = rental_in s b.place

-- the bicycle of a rental
abbrev pub bike_of : Operator → Option Rental → Option Bike
bike_of s None = None
bike_of s (Some r) = map.get s.bikes r.bike

-- the place is a broken dock
abbrev pub is_broken_dock : Operator → Place → Bool
is_broken_dock s (place.Dock station dock) = is_broken s station dock
is_broken_dock s (place.Rental rental) = false
is_broken_dock s (place.Truck truck order) = false
is_broken_dock s place.Depot = false

-- the bicycle stands in a broken dock
abbrev pub is_in_broken_dock : Operator → Option Bike → Bool
is_in_broken_dock s None = false
is_in_broken_dock s (Some b) = is_broken_dock s b.place

-- the region is there, or none is named
abbrev pub has_region : Operator → Option (List ℕ) → Bool
has_region s None = true
has_region s (Some region) = map.contains_key s.regions region

-- an end of an order that is there: the depot, or a station
abbrev pub has_end : Operator → OrderEnd → Bool
has_end s end.Depot = true
has_end s (end.Station station) = map.contains_key s.stations station

-- the end of an order at a side
abbrev pub end_at : Side → Order → OrderEnd
end_at From o = o.from_end
end_at To o = o.to_end

-- ---- views

-- nothing is there, and nothing is counted
abbrev pub empty_view : View
empty_view = record {
  has_system = false;
  has_plan = false;
  has_type = false;
  has_region = false;
  has_named = false;
  has_language = false;
  is_own_language = false;
  has_from = false;
  has_to = false;
  has_rider = false;
  is_full = false;
  is_ledger_full = false;
  station = None;
  is_dock_broken = false;
  docked = None;
  bike = None;
  rental = None;
  rider = None;
  is_riding = false;
  truck = None;
  loaded = 0;
  order = None;
  on_truck = 0;
  rentals = 0;
  orders = 0;
  entries = 0;
}

-- whether a vehicle type and a plan are there
abbrev pub type_view : Operator → List ℕ → List ℕ → View
type_view s type_id plan =
    record empty_view { has_type = map.contains_key s.types type_id; has_plan = map.contains_key s.plans plan }

-- the bicycle, and the mark of the dock in which it stands
abbrev pub bike_view : Operator → ℕ → View
bike_view s bike =
    record empty_view { bike = map.get s.bikes bike; is_dock_broken = is_in_broken_dock s (map.get s.bikes bike) }

-- the station, the mark of its dock and the bicycle in it
abbrev pub dock_view : Operator → List ℕ → ℕ → View
dock_view s station dock =
    record empty_view {
      station = station_at s station;
      is_dock_broken = is_broken s station dock;
      docked = docked_view s (docked_at s station dock);
    }

-- a dock at an end of an order: the depot has none
abbrev pub end_view : Operator → OrderEnd → ℕ → View
end_view s end.Depot dock = empty_view
end_view s (end.Station station) dock = dock_view s station dock

abbrev pub side_view : Operator → Option Order → Side → ℕ → View
side_view s None side dock = empty_view
side_view s (Some o) side dock = end_view s (end_at side o) dock

-- whether that is there whose name changes or goes, and what name it has in the language
abbrev pub name_view : Operator → NameKind → List ℕ → List ℕ → View
name_view s kind id language = record empty_view {
  has_system = is_some s.system;
  has_named = has_named s kind id;
  has_language = has_language s kind id language;
  is_own_language = is_own_language s.system language;
}

-- THE TABLE: what each command names, and what is counted for it
abbrev pub view_of : Operator → Command → View
view_of s (command.SetSystem x) = record empty_view { has_system = is_some s.system }
view_of s (command.AddPlan p) =
    record empty_view { has_plan = map.contains_key s.plans p.plan_id; is_full = is_at_limit MOST_PLANS s.plans }
view_of s (command.AddType t) = record (type_view s t.type_id t.plan_id) { is_full = is_at_limit MOST_TYPES s.types }
view_of s (command.SetPlan type_id plan) = type_view s type_id plan
view_of s (command.AddStation x) =
    record empty_view { station = station_at s x.station_id; is_full = is_at_limit MOST_STATIONS s.stations }
view_of s (command.SetStation station installed renting returning) =
    record empty_view { station = station_at s station }
view_of s (command.MarkDock station dock broken) = dock_view s station dock
view_of s (command.AddBike bike type_id) =
    record empty_view {
      bike = map.get s.bikes bike;
      has_type = map.contains_key s.types type_id;
      is_full = is_at_limit MOST_BIKES s.bikes;
    }
view_of s (command.MarkBike bike disabled) = bike_view s bike
view_of s (command.RetireBike bike) = record empty_view { bike = map.get s.bikes bike }
view_of s (command.AddTruck truck capacity) =
    record empty_view { truck = truck_at s truck; is_full = is_at_limit MOST_TRUCKS s.trucks }
view_of s (command.AddRider rider) =
    record empty_view { has_rider = map.contains_key s.riders rider; is_full = is_at_limit MOST_RIDERS s.riders }
view_of s (command.SetRider rider blocked) = record empty_view { has_rider = map.contains_key s.riders rider }
view_of s (command.TopUp rider amount) =
    record empty_view { rider = rider_at s rider; is_ledger_full = has_full_ledger s; entries = last_number s.entries }
view_of s (command.Start rider station dock) =
    record (dock_view s station dock) {
      rider = rider_at s rider;
      is_riding = is_riding s rider;
      is_ledger_full = has_full_ledger s;
      rentals = last_number s.rentals;
    }
view_of s (command.End bike station dock) =
    record (dock_view s station dock) {
      bike = map.get s.bikes bike;
      rental = rental_of s (map.get s.bikes bike);
      entries = last_number s.entries;
    }
view_of s (command.Recover rental) =
    record empty_view {
      rental = rental_at s rental;
      bike = bike_of s (item_numbered rental s.rentals);
      entries = last_number s.entries;
    }
view_of s (command.Refund rental amount) =
    record empty_view { rental = rental_at s rental; is_ledger_full = has_full_ledger s; entries = last_number s.entries }
view_of s (command.OpenOrder truck from_end to_end type_id count) =
    record empty_view {
      truck = truck_at s truck;
      has_from = has_end s from_end;
      has_to = has_end s to_end;
      has_type = map.contains_key s.types type_id;
      orders = last_number s.orders;
    }
view_of s (command.Load truck order bike) =
    record (bike_view s bike) {
      truck = truck_at s truck;
      loaded = truck_load s truck;
      order = item_numbered order s.orders;
      on_truck = order_load s order;
    }
view_of s (command.Unload truck order bike side dock) =
    record (side_view s (item_numbered order s.orders) side dock)
    { truck = truck_at s truck; order = item_numbered order s.orders; bike = map.get s.bikes bike }
view_of s (command.CloseOrder order) =
    record empty_view { order = item_numbered order s.orders; on_truck = order_load s order }
view_of s (command.AddRegion r) =
    record empty_view {
      has_region = map.contains_key s.regions r.region_id;
      is_full = is_at_limit MOST_REGIONS s.regions;
    }
view_of s (command.SetRegion station region) =
    record empty_view { station = station_at s station; has_region = has_region s region }
view_of s (command.AddName kind id language name) =
    record empty_view {
      has_system = is_some s.system;
      has_named = has_named s kind id;
      has_language = has_language s kind id language;
      is_full = has_all_names s kind id;
    }
view_of s (command.SetName kind id language name) = name_view s kind id language
view_of s (command.RemoveName kind id language) = name_view s kind id language
view_of s (command.ChangeSystem x) = record empty_view { has_system = is_some s.system }
view_of s (command.MoveStation station p) = record empty_view { station = station_at s station }
view_of s (command.AddDocks station count) = record empty_view { station = station_at s station }
