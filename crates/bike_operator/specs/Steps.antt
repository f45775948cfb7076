-- What a command is refused, what it does, and what it is answered.
use Rattle.std.specs.Prelude.{ℕ, ℤ, ◌+◌, ◌-ℤ◌, nat_le, nat_lt, int_lt, List, [], ◌∷◌, Bool, true, false}
use Rattle.std.specs.Prelude.{not, ◌&&◌, ◌||◌, ◌==◌, Option, Some, None, option_map, is_some, is_none, pos}
use Rattle.std.specs.Prelude.{if◌then◌else◌}
use Rattle.std.specs.Str.{bytes_eq}
use Rattle.std.specs.FinMap as map
use Rattle.std.specs.FinSet as set
use Rattle.std.specs.declared.cmp.Ordering.{Ordering}
use Rattle.bike_catalogue.specs.Rows.{StationRow, SystemRow, moved_to, more_docks, system_with}
use Rattle.bike_fields.specs.declared.numbers.TheConstants.{MOST_DOCKS}
use Rattle.bike_fares.specs.Pricing.{fare_of}
use Rattle.bike_ledger.specs.declared.entry.EntryKind.{EntryKind}
use Rattle.bike_ledger.specs.declared.entry.EntryKind.TheVariants as kind
use Rattle.bike_texts.specs.declared.ends.OrderEnd.{OrderEnd}
use Rattle.bike_texts.specs.declared.ends.OrderEnd.TheVariants as end
use Rattle.bike_fields.specs.declared.name_kind.NameKind.{NameKind}
use Rattle.bike_fields.specs.declared.name_kind.NameKind.TheVariants as named
use Rattle.bike_texts.specs.declared.ends.Side.{Side}
use Rattle.bike_texts.specs.declared.ends.Side.TheVariants.{From, To}
use Rattle.bike_commands.specs.declared.command.Command.{Command}
use Rattle.bike_commands.specs.declared.command.Command.TheVariants as command
use Rattle.bike_commands.specs.declared.reply.Reply.{Reply}
use Rattle.bike_commands.specs.declared.reply.Reply.TheVariants.{Done, Balance, Started, Ended, Ordered}
use Rattle.bike_commands.specs.declared.refusal.Refusal.{Refusal}
use Rattle.bike_commands.specs.declared.refusal.Refusal.TheVariants as refusal
use Rattle.bike_operator.specs.declared.limits.TheConstants.{MOST_ORDERS}
use Rattle.bike_operator.specs.declared.records.BikeState.{BikeState}
use Rattle.bike_operator.specs.declared.records.BikeState.TheVariants.{Fit, Disabled, Retired}
use Rattle.bike_operator.specs.declared.records.Place.{Place}
use Rattle.bike_operator.specs.declared.records.Place.TheVariants as place
use Rattle.bike_operator.specs.declared.records.Bike.{Bike}
use Rattle.bike_operator.specs.declared.records.Rental.{Rental}
use Rattle.bike_operator.specs.declared.records.Order.{Order}
use Rattle.bike_operator.specs.declared.view.StationView.{StationView}
use Rattle.bike_operator.specs.declared.view.DockedBike.{DockedBike}
use Rattle.bike_operator.specs.declared.view.RentalView.{RentalView}
use Rattle.bike_operator.specs.declared.view.View.{View}
use Rattle.bike_operator.specs.Operator.{Operator, Station, Rider, name_key, dock_key, number_changed, item_numbered}
use Rattle.bike_operator.specs.Operator.{last_number, with_item}
use Rattle.bike_operator.specs.Counts.{is_at, is_depot, is_on_truck, is_for_order, is_fit, is_retired, is_open}
use Rattle.bike_operator.specs.Counts.{docked_at}
use Rattle.bike_operator.specs.Names.{is_own_language}
use Rattle.bike_operator.specs.View.{view_of, end_at, docked_view, rental_view, rental_of, rider_balance}

-- ---- tests

-- a test of a row, where it is there
abbrev pub on : {A : Type 0} → Option A → (A → Bool) → Bool
on None test = false
on (Some x) test = test x

-- the first-refusal rule: the refusal of the first test that holds
abbrev pub first : List (Bool × Refusal) → Option Refusal
first [] = None
first (t ∷ ts) = if t.0 then Some t.1 else first ts

-- the station has no dock of this number
abbrev pub has_no_dock : ℕ → Option StationView → Bool
has_no_dock dock station = on station (λ x. nat_lt x.docks dock)

-- the end has no dock of this number: a station's are 1, 2, .., and the depot has 0 in place of one
abbrev pub ends_apart : OrderEnd → Option StationView → ℕ → Bool
ends_apart end.Depot station dock = nat_lt 0 dock
ends_apart (end.Station id) station dock = (dock == 0) || has_no_dock dock station

abbrev pub is_same_end : OrderEnd → OrderEnd → Bool
is_same_end end.Depot end.Depot = true
is_same_end end.Depot (end.Station id) = false
is_same_end (end.Station id) end.Depot = false
is_same_end (end.Station id) (end.Station other) = bytes_eq id other

-- the place lies at the end: in a dock of the station, or in the depot
abbrev pub is_at_end : OrderEnd → Place → Bool
is_at_end end.Depot p = is_depot p
is_at_end (end.Station station) p = is_at station p

abbrev pub type_differs : Option Order → Option Bike → Bool
type_differs order bike = on order (λ o. on bike (λ b. not (bytes_eq b.type_id o.type_id)))

-- the bicycle isn't at the end from which the order takes bicycles
abbrev pub is_elsewhere : Option Order → Option Bike → Bool
is_elsewhere order bike = on order (λ o. on bike (λ b. not (is_at_end o.from_end b.place)))

-- the bicycle isn't on this truck for this order
abbrev pub is_not_loaded : ℕ → ℕ → Option Bike → Bool
is_not_loaded truck order bike = on bike (λ b. not (is_on_truck truck b.place && is_for_order order b.place))

-- the refund rule: the amount is more than the fare less its refunds
abbrev pub is_too_much : ℕ → Option RentalView → Bool
is_too_much amount rental = on rental (λ r. on r.rental.closing (λ c. int_lt (c.fare -ℤ r.refunded) (pos amount)))

-- what was delivered of the order and is on the truck for it is its count
abbrev pub is_filled : Option Order → ℕ → Bool
is_filled order on_truck = on order (λ o. nat_le o.count (o.delivered + on_truck))

abbrev pub is_closed_order : Option Order → Bool
is_closed_order order = on order (λ o. not o.is_open)

abbrev pub is_of_another : ℕ → Option Order → Bool
is_of_another truck order = on order (λ o. not (o.truck == truck))

-- why a name isn't taken where there is nothing of its kind:
-- the system has one identifier, and any other is a bad field
abbrev pub unknown_of : NameKind → Refusal
unknown_of named.System = refusal.BadField
unknown_of named.Station = refusal.UnknownStation
unknown_of named.Type = refusal.UnknownType
unknown_of named.Plan = refusal.UnknownPlan
unknown_of named.Description = refusal.UnknownPlan
unknown_of named.Region = refusal.UnknownRegion

-- THE TABLE: each command's tests, in order.
-- The no-change rule: no mark, and no setting but that of the system, asks whether it changes anything.
-- The crew rule: loading asks neither for flags, nor for a fit
-- bicycle, nor for the dock's mark; unloading for the mark alone.
abbrev pub tests : View → Command → List (Bool × Refusal)
tests v (command.SetSystem x) = (v.has_system, refusal.AlreadyThere) ∷ []
tests v (command.AddPlan p) = (v.has_plan, refusal.AlreadyThere) ∷ (v.is_full, refusal.LimitReached) ∷ []
tests v (command.AddType t) =
    (v.has_type, refusal.AlreadyThere) ∷ (not v.has_plan, refusal.UnknownPlan) ∷ (v.is_full, refusal.LimitReached) ∷ []
tests v (command.SetPlan type_id plan) =
    (not v.has_type, refusal.UnknownType) ∷ (not v.has_plan, refusal.UnknownPlan) ∷ []
tests v (command.AddStation x) = (is_some v.station, refusal.AlreadyThere) ∷ (v.is_full, refusal.LimitReached) ∷ []
tests v (command.SetStation station installed renting returning) = (is_none v.station, refusal.UnknownStation) ∷ []
tests v (command.MarkDock station dock broken) =
    (is_none v.station, refusal.UnknownStation) ∷ (has_no_dock dock v.station, refusal.UnknownDock) ∷ []
tests v (command.AddBike bike type_id) =
    (is_some v.bike, refusal.AlreadyThere) ∷ (not v.has_type, refusal.UnknownType) ∷ (v.is_full, refusal.LimitReached)
    ∷ []
tests v (command.MarkBike bike disabled) =
    (is_none v.bike, refusal.UnknownBike) ∷ (on v.bike (λ b. is_retired b.state), refusal.BikeRetired) ∷ []
tests v (command.RetireBike bike) =
    (is_none v.bike, refusal.UnknownBike) ∷ (on v.bike (λ b. is_retired b.state), refusal.BikeRetired)
    ∷ (on v.bike (λ b. not (is_depot b.place)), refusal.NotInDepot) ∷ []
tests v (command.AddTruck truck capacity) =
    (is_some v.truck, refusal.AlreadyThere) ∷ (v.is_full, refusal.LimitReached) ∷ []
tests v (command.AddRider rider) = (v.has_rider, refusal.AlreadyThere) ∷ (v.is_full, refusal.LimitReached) ∷ []
tests v (command.SetRider rider blocked) = (not v.has_rider, refusal.UnknownRider) ∷ []
tests v (command.TopUp rider amount) =
    (is_none v.rider, refusal.UnknownRider) ∷ (v.is_ledger_full, refusal.LimitReached) ∷ []
tests v (command.Start rider station dock) =
    (is_none v.rider, refusal.UnknownRider) ∷ (on v.rider (λ r. r.is_blocked), refusal.RiderBlocked)
    ∷ (on v.rider (λ r. int_lt r.balance (pos 0)), refusal.BalanceNegative)
    ∷ (v.is_riding, refusal.RiderIsRiding) ∷ (is_none v.station, refusal.UnknownStation)
    ∷ (has_no_dock dock v.station, refusal.UnknownDock)
    ∷ (on v.station (λ x. not (x.is_installed && x.is_renting)), refusal.NotRenting)
    ∷ (v.is_dock_broken, refusal.DockBroken) ∷ (is_none v.docked, refusal.DockEmpty)
    ∷ (on v.docked (λ b. not (is_fit b.state)), refusal.BikeDisabled) ∷ (v.is_ledger_full, refusal.LimitReached) ∷ []
tests v (command.End bike station dock) =
    (is_none v.bike, refusal.UnknownBike) ∷ (is_none v.rental, refusal.NotRented)
    ∷ (is_none v.station, refusal.UnknownStation) ∷ (has_no_dock dock v.station, refusal.UnknownDock)
    ∷ (on v.station (λ x. not (x.is_installed && x.is_returning)), refusal.NotReturning)
    ∷ (v.is_dock_broken, refusal.DockBroken) ∷ (is_some v.docked, refusal.DockFull) ∷ []
tests v (command.Recover rental) =
    (is_none v.rental, refusal.UnknownRental) ∷ (on v.rental (λ r. not (is_open r.rental)), refusal.RentalClosed) ∷ []
tests v (command.Refund rental amount) =
    (is_none v.rental, refusal.UnknownRental) ∷ (on v.rental (λ r. is_open r.rental), refusal.RentalOpen)
    ∷ (is_too_much amount v.rental, refusal.RefundTooLarge)
    ∷ (v.is_ledger_full, refusal.LimitReached) ∷ []
tests v (command.OpenOrder truck from_end to_end type_id count) =
    (is_none v.truck, refusal.UnknownTruck) ∷ (not v.has_from, refusal.UnknownStation)
    ∷ (not v.has_to, refusal.UnknownStation) ∷ (is_same_end from_end to_end, refusal.WrongTruckOrEnds)
    ∷ (not v.has_type, refusal.UnknownType) ∷ (on v.truck (λ t. nat_lt t.capacity count), refusal.TruckTooSmall)
    ∷ (nat_le MOST_ORDERS v.orders, refusal.LimitReached) ∷ []
tests v (command.Load truck order bike) =
    (is_none v.truck, refusal.UnknownTruck) ∷ (is_none v.order, refusal.UnknownOrder)
    ∷ (is_closed_order v.order, refusal.OrderClosed) ∷ (is_of_another truck v.order, refusal.WrongTruckOrEnds)
    ∷ (is_none v.bike, refusal.UnknownBike) ∷ (on v.bike (λ b. is_retired b.state), refusal.BikeRetired)
    ∷ (is_elsewhere v.order v.bike, refusal.WrongPlace)
    ∷ (type_differs v.order v.bike, refusal.WrongType) ∷ (is_filled v.order v.on_truck, refusal.OrderFilled)
    ∷ (on v.truck (λ t. nat_le t.capacity v.loaded), refusal.TruckFull) ∷ []
tests v (command.Unload truck order bike side dock) =
    (is_none v.truck, refusal.UnknownTruck) ∷ (is_none v.order, refusal.UnknownOrder)
    ∷ (is_closed_order v.order, refusal.OrderClosed) ∷ (is_of_another truck v.order, refusal.WrongTruckOrEnds)
    ∷ (is_none v.bike, refusal.UnknownBike) ∷ (is_not_loaded truck order v.bike, refusal.WrongPlace)
    ∷ (on v.order (λ o. ends_apart (end_at side o) v.station dock), refusal.UnknownDock)
    ∷ (v.is_dock_broken, refusal.DockBroken) ∷ (is_some v.docked, refusal.DockFull) ∷ []
tests v (command.CloseOrder order) =
    (is_none v.order, refusal.UnknownOrder) ∷ (is_closed_order v.order, refusal.OrderClosed)
    ∷ (nat_lt 0 v.on_truck, refusal.BikesOnTruck) ∷ []
tests v (command.AddRegion r) = (v.has_region, refusal.AlreadyThere) ∷ (v.is_full, refusal.LimitReached) ∷ []
tests v (command.SetRegion station region) =
    (is_none v.station, refusal.UnknownStation) ∷ (not v.has_region, refusal.UnknownRegion) ∷ []
tests v (command.AddName kind id language name) =
    (not v.has_system, refusal.SystemMissing) ∷ (not v.has_named, unknown_of kind)
    ∷ (v.has_language, refusal.AlreadyThere) ∷ (v.is_full, refusal.LimitReached) ∷ []
tests v (command.SetName kind id language name) =
    (not v.has_system, refusal.SystemMissing) ∷ (not v.has_named, unknown_of kind)
    ∷ (not v.has_language, refusal.UnknownName) ∷ []
tests v (command.RemoveName kind id language) =
    (not v.has_system, refusal.SystemMissing) ∷ (not v.has_named, unknown_of kind)
    ∷ (not v.has_language || v.is_own_language, refusal.UnknownName) ∷ []
tests v (command.ChangeSystem x) = (not v.has_system, refusal.SystemMissing) ∷ []
tests v (command.MoveStation station p) = (is_none v.station, refusal.UnknownStation) ∷ []
tests v (command.AddDocks station count) =
    (is_none v.station, refusal.UnknownStation)
    ∷ (on v.station (λ x. nat_lt MOST_DOCKS (x.docks + count)), refusal.LimitReached) ∷ []

abbrev pub refusal_of : Operator → Command → Option Refusal
refusal_of s c = first (tests (view_of s c) c)

-- ---- effects

-- the record under a key changed, where it is there
abbrev pub found_changed : {K X : Type 0} {R : K → K → Ordering} → map.FinMap R X → K → (X → X) → Option X
    → map.FinMap R X
found_changed m k f None = m
found_changed m k f (Some x) = map.insert m k (f x)

abbrev pub key_changed : {K X : Type 0} {R : K → K → Ordering} → map.FinMap R X → K → (X → X) → map.FinMap R X
key_changed m k f = found_changed m k f (map.get m k)

-- the report rule: a station reports, and its last report is now
abbrev pub with_report : List ℕ → ℕ → Operator → Operator
with_report station now s = record s { stations = key_changed s.stations station (λ x. record x { reported = now }) }

-- the station at which a place is reports
abbrev pub place_reported : Place → ℕ → Operator → Operator
place_reported (place.Dock station dock) now s = with_report station now s
place_reported (place.Rental rental) now s = s
place_reported (place.Truck truck order) now s = s
place_reported place.Depot now s = s

abbrev pub bike_reported : Option Bike → ℕ → Operator → Operator
bike_reported None now s = s
bike_reported (Some b) now s = place_reported b.place now s

-- the system under another name
abbrev pub system_named : List ℕ → SystemRow → SystemRow
system_named name x = record x { name = name }

-- the name of what has this kind and identifier, in the system's language: it stands in its own record
abbrev pub own_name_set : NameKind → List ℕ → List ℕ → Operator → Operator
own_name_set named.System id name s = record s { system = option_map (system_named name) s.system }
own_name_set named.Station id name s =
    record s { stations = key_changed s.stations id (λ x. record x { row = record x.row { name = name } }) }
own_name_set named.Type id name s = record s { types = key_changed s.types id (λ t. record t { name = name }) }
own_name_set named.Plan id name s = record s { plans = key_changed s.plans id (λ p. record p { name = name }) }
own_name_set named.Description id name s =
    record s { plans = key_changed s.plans id (λ p. record p { description = name }) }
own_name_set named.Region id name s = record s { regions = key_changed s.regions id (λ r. record r { name = name }) }

-- a name in a further language
abbrev pub further_name_set : NameKind → List ℕ → List ℕ → List ℕ → Operator → Operator
further_name_set kind id language name s =
    record s { more_names = map.insert s.more_names (name_key kind id language) name }

abbrev pub further_name_removed : NameKind → List ℕ → List ℕ → Operator → Operator
further_name_removed kind id language s = record s { more_names = map.remove s.more_names (name_key kind id language) }

-- the name in the system's language, or in a further one
abbrev pub name_set : NameKind → List ℕ → List ℕ → List ℕ → Operator → Operator
name_set kind id language name s =
    if is_own_language s.system language then own_name_set kind id name s else further_name_set kind id language name s

-- a station is new: it is installed, renting and returning, reports, and stands in no region
abbrev pub new_station : StationRow → ℕ → Station
new_station x now =
    record { row = x; is_installed = true; is_renting = true; is_returning = true; reported = now; region = None }

-- a rider is new: open, with no plan of the rider's own and no entry
abbrev pub new_rider : Rider
new_rider = record { is_blocked = false; plan = None; before = pos 0 }

abbrev pub dock_marked : List ℕ → ℕ → Bool → Operator → Operator
dock_marked station dock broken s =
    record s {
      broken = if broken then set.insert s.broken (dock_key station dock)
          else set.remove s.broken (dock_key station dock);
    }

abbrev pub bike_placed : ℕ → Place → Operator → Operator
bike_placed bike p s = record s { bikes = key_changed s.bikes bike (λ b. record b { place = p }) }

abbrev pub bike_marked : ℕ → BikeState → Operator → Operator
bike_marked bike state s = record s { bikes = key_changed s.bikes bike (λ b. record b { state = state }) }

-- the numbering rule: entries, rentals and orders are numbered on from those that are there
abbrev pub with_entry : EntryKind → ℕ → ℕ → ℤ → ℕ → Operator → Operator
with_entry kind rider rental amount now s =
    record s {
      entries = with_item (record {
        number = last_number s.entries + 1;
        kind = kind;
        rider = rider;
        rental = rental;
        amount = amount;
        at = now;
      }) s.entries;
    }

abbrev pub rental_added : Rental → Operator → Operator
rental_added r s = record s { rentals = with_item r s.rentals }

abbrev pub rental_closed : ℕ → Option (List ℕ) → ℕ → ℤ → Operator → Operator
rental_closed number to_station now fare s =
    record s {
      rentals = number_changed number
          (λ r. record r { closing = Some (record { to_station = to_station; finish = now; fare = fare }) }) s.rentals;
    }

abbrev pub order_added : Order → Operator → Operator
order_added o s = record s { orders = with_item o s.orders }

abbrev pub order_changed : ℕ → (Order → Order) → Operator → Operator
order_changed number f s = record s { orders = number_changed number f s.orders }

-- the fare of a rental that ends now. The rental-plan rule: by the rental's own plan. `fare_of` decides the fare rule,
-- with the elapsed-time rule and the charging-minute rule.
abbrev pub fare_now : RentalView → ℕ → ℤ
fare_now r now = fare_of r.plan r.rental.start now

-- the closing rule: a rental that is closed costs its fare, in one entry
abbrev pub with_fare : RentalView → Option (List ℕ) → ℕ → Operator → Operator
with_fare r to_station now s =
    with_entry kind.Fare r.rental.rider r.number (fare_now r now) now
    (rental_closed r.number to_station now (fare_now r now) s)

-- the rental-plan rule: a rental keeps its rider's own plan or, where the rider has none, that of the bicycle's type
abbrev pub plan_for : Option (List ℕ) → List ℕ → List ℕ
plan_for None default = default
plan_for (Some plan) default = plan

abbrev pub own_plan : Option Rider → Option (List ℕ)
own_plan None = None
own_plan (Some r) = r.plan

-- a rental is opened of the bicycle in a dock
abbrev pub after_start : ℕ → List ℕ → ℕ → Option DockedBike → Operator → Operator
after_start rider station now None s = s
after_start rider station now (Some b) s =
    with_report station now (bike_placed b.bike (place.Rental (last_number s.rentals + 1))
    (rental_added (record {
      rider = rider;
      bike = b.bike;
      plan = plan_for (own_plan (map.get s.riders rider)) b.plan;
      from_station = station;
      start = now;
      closing = None;
    }) s))

-- a rental is closed in a dock
abbrev pub after_end : ℕ → List ℕ → ℕ → ℕ → Option RentalView → Operator → Operator
after_end bike station dock now None s = s
after_end bike station dock now (Some r) s =
    with_report station now (bike_placed bike (place.Dock station dock) (with_fare r (Some station) now s))

-- a rental is closed, and its bicycle disabled in the depot
abbrev pub after_recovery : ℕ → Option RentalView → Operator → Operator
after_recovery now None s = s
after_recovery now (Some r) s =
    bike_marked r.rental.bike Disabled (bike_placed r.rental.bike place.Depot (with_fare r None now s))

abbrev pub refunded_by : ℕ → ℕ → Option RentalView → Operator → Operator
refunded_by amount now None s = s
refunded_by amount now (Some r) s = with_entry kind.Refund r.rental.rider r.number (pos amount) now s

-- a bicycle is put at an end of an order
abbrev pub placed_at_end : ℕ → OrderEnd → ℕ → ℕ → Operator → Operator
placed_at_end bike end.Depot dock now s = bike_placed bike place.Depot s
placed_at_end bike (end.Station station) dock now s =
    with_report station now (bike_placed bike (place.Dock station dock) s)

-- a bicycle that is unloaded where the order brings it is delivered
abbrev pub with_delivery : ℕ → Side → Operator → Operator
with_delivery order From s = s
with_delivery order To s = order_changed order (λ o. record o { delivered = o.delivered + 1 }) s

abbrev pub after_unload : ℕ → ℕ → Side → ℕ → ℕ → Option Order → Operator → Operator
after_unload order bike side dock now None s = s
after_unload order bike side dock now (Some o) s =
    with_delivery order side (placed_at_end bike (end_at side o) dock now s)

-- THE TABLE: the operator after each command's record changes
abbrev pub effect : Operator → ℕ → Command → Operator
effect s now (command.SetSystem x) = record s { system = Some x }
effect s now (command.AddPlan p) = record s { plans = map.insert s.plans p.plan_id p }
effect s now (command.AddType t) = record s { types = map.insert s.types t.type_id t }
effect s now (command.SetPlan type_id plan) =
    record s { types = key_changed s.types type_id (λ t. record t { plan_id = plan }) }
effect s now (command.AddStation x) = record s { stations = map.insert s.stations x.station_id (new_station x now) }
effect s now (command.SetStation station installed renting returning) =
    record s {
      stations = key_changed s.stations station
          (λ x. record x { is_installed = installed; is_renting = renting; is_returning = returning; reported = now });
    }
effect s now (command.MarkDock station dock broken) = with_report station now (dock_marked station dock broken s)
effect s now (command.AddBike bike type_id) =
    record s { bikes = map.insert s.bikes bike (record { type_id = type_id; state = Fit; place = place.Depot }) }
effect s now (command.MarkBike bike disabled) =
    bike_reported (map.get s.bikes bike) now (bike_marked bike (if disabled then Disabled else Fit) s)
effect s now (command.RetireBike bike) = bike_marked bike Retired s
effect s now (command.AddTruck truck capacity) =
    record s { trucks = map.insert s.trucks truck (record { capacity = capacity }) }
effect s now (command.AddRider rider) = record s { riders = map.insert s.riders rider new_rider }
effect s now (command.SetRider rider blocked) =
    record s { riders = key_changed s.riders rider (λ r. record r { is_blocked = blocked }) }
effect s now (command.TopUp rider amount) = with_entry kind.TopUp rider 0 (pos amount) now s
effect s now (command.Start rider station dock) =
    after_start rider station now (docked_view s (docked_at s station dock)) s
effect s now (command.End bike station dock) = after_end bike station dock now (rental_of s (map.get s.bikes bike)) s
effect s now (command.Recover rental) = after_recovery now (rental_view s rental (item_numbered rental s.rentals)) s
effect s now (command.Refund rental amount) =
    refunded_by amount now (rental_view s rental (item_numbered rental s.rentals)) s
effect s now (command.OpenOrder truck from_end to_end type_id count) =
    order_added (record {
      truck = truck;
      from_end = from_end;
      to_end = to_end;
      type_id = type_id;
      count = count;
      delivered = 0;
      is_open = true;
    }) s
effect s now (command.Load truck order bike) =
    bike_reported (map.get s.bikes bike) now (bike_placed bike (place.Truck truck order) s)
effect s now (command.Unload truck order bike side dock) =
    after_unload order bike side dock now (item_numbered order s.orders) s
effect s now (command.CloseOrder order) = order_changed order (λ o. record o { is_open = false }) s
effect s now (command.AddRegion r) = record s { regions = map.insert s.regions r.region_id r }
effect s now (command.SetRegion station region) =
    record s { stations = key_changed s.stations station (λ x. record x { region = region }) }
effect s now (command.AddName kind id language name) =
    record s { more_names = map.insert s.more_names (name_key kind id language) name }
effect s now (command.SetName kind id language name) = name_set kind id language name s
effect s now (command.RemoveName kind id language) = further_name_removed kind id language s
effect s now (command.ChangeSystem x) = record s { system = option_map (system_with x) s.system }
effect s now (command.MoveStation station p) =
    record s { stations = key_changed s.stations station (λ x. record x { row = moved_to p x.row }) }
effect s now (command.AddDocks station count) =
    record s { stations = key_changed s.stations station (λ x. record x { row = more_docks count x.row }) }

-- ---- replies

abbrev pub started_reply : Operator → Option DockedBike → Reply
started_reply s None = Done
started_reply s (Some b) = Started (last_number s.rentals + 1) b.bike

-- the fare, and the balance with it taken off
abbrev pub ended_reply : Operator → ℕ → Option RentalView → Operator → Reply
ended_reply s now None next = Done
ended_reply s now (Some r) next = Ended (fare_now r now) (rider_balance next r.rental.rider)

abbrev pub refunded_reply : Option RentalView → Operator → Reply
refunded_reply None next = Done
refunded_reply (Some r) next = Balance (rider_balance next r.rental.rider)

-- THE TABLE: the reply to each command
abbrev pub reply_of : Operator → ℕ → Command → Reply
reply_of s now (command.SetSystem x) = Done
reply_of s now (command.AddPlan p) = Done
reply_of s now (command.AddType t) = Done
reply_of s now (command.SetPlan type_id plan) = Done
reply_of s now (command.AddStation x) = Done
reply_of s now (command.SetStation station installed renting returning) = Done
reply_of s now (command.MarkDock station dock broken) = Done
reply_of s now (command.AddBike bike type_id) = Done
reply_of s now (command.MarkBike bike disabled) = Done
reply_of s now (command.RetireBike bike) = Done
reply_of s now (command.AddTruck truck capacity) = Done
reply_of s now (command.AddRider rider) = Done
reply_of s now (command.SetRider rider blocked) = Done
reply_of s now (command.TopUp rider amount) =
    Balance (rider_balance (effect s now (command.TopUp rider amount)) rider)
reply_of s now (command.Start rider station dock) = started_reply s (docked_view s (docked_at s station dock))
reply_of s now (command.End bike station dock) =
    ended_reply s now (rental_of s (map.get s.bikes bike)) (effect s now (command.End bike station dock))
reply_of s now (command.Recover rental) =
    ended_reply s now (rental_view s rental (item_numbered rental s.rentals)) (effect s now (command.Recover rental))
reply_of s now (command.Refund rental amount) =
    refunded_reply (rental_view s rental (item_numbered rental s.rentals)) (effect s now (command.Refund rental amount))
reply_of s now (command.OpenOrder truck from_end to_end type_id count) = Ordered (last_number s.orders + 1)
reply_of s now (command.Load truck order bike) = Done
reply_of s now (command.Unload truck order bike side dock) = Done
reply_of s now (command.CloseOrder order) = Done
reply_of s now (command.AddRegion r) = Done
reply_of s now (command.SetRegion station region) = Done
reply_of s now (command.AddName kind id language name) = Done
reply_of s now (command.SetName kind id language name) = Done
reply_of s now (command.RemoveName kind id language) = Done
reply_of s now (command.ChangeSystem x) = Done
reply_of s now (command.MoveStation station p) = Done
reply_of s now (command.AddDocks station count) = Done
