-- An accepted command keeps trucks and orders sound.
use Rattle.std.proofs.Common.{◌≡◌, ℕ, ◌+◌, ◌≤◌, ◌<◌, List, Bool, true, false, nat_lt, leb, Option, Some, None, refl, arith, length, if◌then◌else◌}
use Rattle.std.specs.FinMap as map
use Rattle.std.proofs.lemmas.Bool.Decides.{nat_tests}
use Rattle.bike_catalogue.specs.Rows.{TypeRow, moved_to, more_docks}
use Rattle.bike_fields.specs.declared.name_kind.NameKind.{NameKind}
use Rattle.bike_fields.specs.declared.name_kind.NameKind.TheVariants as named
use Rattle.bike_texts.specs.declared.ends.OrderEnd.{OrderEnd}
use Rattle.bike_texts.specs.declared.ends.OrderEnd.TheVariants as end
use Rattle.bike_texts.specs.declared.ends.Side.{Side}
use Rattle.bike_texts.specs.declared.ends.Side.TheVariants.{From, To}
use Rattle.bike_commands.specs.declared.command.Command.{Command}
use Rattle.bike_commands.specs.declared.command.Command.TheVariants as command
use Rattle.bike_operator.specs.declared.records.BikeState.TheVariants.{Fit, Disabled, Retired}
use Rattle.bike_operator.specs.declared.records.Place.{Place}
use Rattle.bike_operator.specs.declared.records.Place.TheVariants as place
use Rattle.bike_operator.specs.declared.records.Bike.{Bike}
use Rattle.bike_operator.specs.declared.records.Order.{Order}
use Rattle.bike_operator.specs.declared.view.DockedBike.{DockedBike}
use Rattle.bike_operator.specs.declared.view.RentalView.{RentalView}
use Rattle.bike_operator.specs.declared.view.TruckView.{TruckView}
use Rattle.bike_operator.specs.Operator.{Operator, Station, AcceptedRequest, item_numbered, last_number, Numbered}
use Rattle.bike_operator.specs.Counts.{docked_at, is_for_order, truck_load, order_load}
use Rattle.bike_operator.specs.Names.{is_own_language}
use Rattle.bike_operator.specs.View.{view_of, truck_view, docked_view, rental_of, rental_view, end_at, has_end}
use Rattle.bike_operator.specs.Steps.{tests, effect, key_changed, with_report, place_reported, bike_reported, bike_marked, bike_placed, after_start, after_end, after_recovery, refunded_by}
use Rattle.bike_operator.specs.Steps.{placed_at_end, with_delivery, own_name_set, further_name_set, new_station, dock_marked}
use Rattle.bike_operator.specs.Sound.{IsOrderAt, AreOrdersSound}
use Rattle.bike_laws.specs.SingleSteps.Accepted.{AcceptedKeeps}
use Rattle.bike_laws.proofs.SingleSteps.Moment.{at_moment, reports}
use Rattle.bike_laws.proofs.SingleSteps.MapLemmas.{text_order, known_added, known_changed}
use Rattle.bike_laws.proofs.SingleSteps.TestLemmas.{none_holds, some_of, truck_of, no_truck, on_row, on_view, holds}
use Rattle.bike_laws.proofs.SingleSteps.UnloadLemmas.{IsUnloaded, unloaded_of}
use Rattle.bike_laws.proofs.SingleSteps.OrderLemmas.{end_stands, order_parts, same_orders, known_orders, bike_placed_orders, bike_marked_orders, bike_added_orders, bike_loaded_orders, one_less}
use Rattle.bike_laws.proofs.SingleSteps.OrderLemmas.{none_loaded, none_on_truck, truck_added_orders, order_added_orders, order_changed_orders}

later_orders : (s : Operator) (now : ℕ) (k : Numbered AcceptedRequest) → AreOrdersSound s → AreOrdersSound (at_moment s now k)
later_orders s now k h = same_orders s (at_moment s now k) refl h

-- ---- stations that report

reported_orders : (s : Operator) (now : ℕ) (k : Numbered AcceptedRequest) (station : List ℕ) → AreOrdersSound (at_moment s now k) → AreOrdersSound (at_moment (with_report station now s) now k)
reported_orders s now k station h =
    known_orders (at_moment s now k) s.types (key_changed s.stations station (reports now)) (λ id known. known) (known_changed text_order s.stations station (reports now)) h

place_reported_orders : (s : Operator) (now : ℕ) (k : Numbered AcceptedRequest) (p : Place) → AreOrdersSound (at_moment s now k) → AreOrdersSound (at_moment (place_reported p now s) now k)
place_reported_orders s now k (place.Dock station dock) h = reported_orders s now k station h
place_reported_orders s now k (place.Rental rental) h = h
place_reported_orders s now k (place.Truck truck order) h = h
place_reported_orders s now k place.Depot h = h

bike_reported_orders : (s : Operator) (now : ℕ) (k : Numbered AcceptedRequest) (o : Option Bike) → AreOrdersSound (at_moment s now k) → AreOrdersSound (at_moment (bike_reported o now s) now k)
bike_reported_orders s now k None h = h
bike_reported_orders s now k (Some b) h = place_reported_orders s now k b.place h

-- ---- rentals: no bicycle comes on a truck

started_orders : (s : Operator) (now : ℕ) (k : Numbered AcceptedRequest) (rider : ℕ) (station : List ℕ) (o : Option DockedBike) → AreOrdersSound (at_moment s now k)
    → AreOrdersSound (at_moment (after_start rider station now o s) now k)
started_orders s now k rider station None h = h
started_orders s now k rider station (Some d) h =
    let at : Operator = at_moment s now k in
    let p : Place = place.Rental (last_number s.rentals + 1) in
    let n : Operator = record (at_moment (after_start rider station now (Some d) s) now k) { stations = s.stations } in
    reported_orders n now k station (same_orders (bike_placed d.bike p at) n refl (bike_placed_orders at d.bike p (λ truck. refl) (λ order. refl) h))

ended_orders : (s : Operator) (now : ℕ) (k : Numbered AcceptedRequest) (bike : ℕ) (station : List ℕ) (dock : ℕ) (o : Option RentalView) → AreOrdersSound (at_moment s now k)
    → AreOrdersSound (at_moment (after_end bike station dock now o s) now k)
ended_orders s now k bike station dock None h = h
ended_orders s now k bike station dock (Some r) h =
    let at : Operator = at_moment s now k in
    let p : Place = place.Dock station dock in
    let n : Operator = record (at_moment (after_end bike station dock now (Some r) s) now k) { stations = s.stations } in
    reported_orders n now k station (same_orders (bike_placed bike p at) n refl (bike_placed_orders at bike p (λ truck. refl) (λ order. refl) h))

recovered_orders : (s : Operator) (now : ℕ) (k : Numbered AcceptedRequest) (o : Option RentalView) → AreOrdersSound (at_moment s now k) → AreOrdersSound (at_moment (after_recovery now o s) now k)
recovered_orders s now k None h = h
recovered_orders s now k (Some r) h =
    let at : Operator = at_moment s now k in
    let bike = r.rental.bike in
    let placed = bike_placed_orders at bike place.Depot (λ truck. refl) (λ order. refl) h in
    same_orders (bike_marked bike Disabled (bike_placed bike place.Depot at)) (at_moment (after_recovery now (Some r) s) now k) refl
    (bike_marked_orders (bike_placed bike place.Depot at) bike Disabled placed)

refunded_orders : (s : Operator) (now : ℕ) (k : Numbered AcceptedRequest) (amount : ℕ) (o : Option RentalView) → AreOrdersSound (at_moment s now k)
    → AreOrdersSound (at_moment (refunded_by amount now o s) now k)
refunded_orders s now k amount None h = h
refunded_orders s now k amount (Some r) h = same_orders (at_moment s now k) (at_moment (refunded_by amount now (Some r) s) now k) refl h

-- ---- orders

-- the same order after one more bicycle is delivered, or closed
delivered_order : (s : Operator) (number : ℕ) (o : Order) → IsOrderAt s number o → o.delivered + 1 + order_load s number ≤ o.count → IsOrderAt s number (record o { delivered = o.delivered + 1 })
delivered_order s number o h filled = record { truck_is = h.truck_is; some = h.some; from_is = h.from_is; to_is = h.to_is; ends = h.ends; type_is = h.type_is; filled = filled }

closed_order : (s : Operator) (number : ℕ) (o : Order) → IsOrderAt s number o → IsOrderAt s number (record o { is_open = false })
closed_order s number o h = record { truck_is = h.truck_is; some = h.some; from_is = h.from_is; to_is = h.to_is; ends = h.ends; type_is = h.type_is; filled = h.filled }

placed_at_end_orders : (s : Operator) (now : ℕ) (k : Numbered AcceptedRequest) (bike : ℕ) (e : OrderEnd) (dock : ℕ) → AreOrdersSound (at_moment s now k)
    → AreOrdersSound (at_moment (placed_at_end bike e dock now s) now k)
placed_at_end_orders s now k bike end.Depot dock h = bike_placed_orders (at_moment s now k) bike place.Depot (λ truck. refl) (λ order. refl) h
placed_at_end_orders s now k bike (end.Station station) dock h =
    reported_orders (bike_placed bike (place.Dock station dock) s) now k station (bike_placed_orders (at_moment s now k) bike (place.Dock station dock) (λ truck. refl) (λ order. refl) h)

-- a bicycle that leaves the truck at the other end is delivered
brought : (s : Operator) (now : ℕ) (k : Numbered AcceptedRequest) (order bike : ℕ) (e : OrderEnd) (dock : ℕ) (b : Bike) → map.get s.bikes bike ≡ Some b → is_for_order order b.place ≡ true
    → AreOrdersSound (at_moment s now k) → AreOrdersSound (at_moment (with_delivery order To (placed_at_end bike e dock now s)) now k)
brought s now k order bike end.Depot dock b found was h =
    let n : Operator = at_moment (placed_at_end bike end.Depot dock now s) now k in
    let placed = placed_at_end_orders s now k bike end.Depot dock h in
    let less : order_load n order + 1 ≡ order_load s order = one_less s bike order place.Depot b found was refl in
    order_changed_orders n order (λ o. record o { delivered = o.delivered + 1 })
    (λ o found. delivered_order n order o (placed.orders order o found) (let old : o.delivered + order_load s order ≤ o.count = (h.orders order o found).filled in omega (arith, less, old))) placed
brought s now k order bike (end.Station station) dock b found was h =
    let n : Operator = at_moment (placed_at_end bike (end.Station station) dock now s) now k in
    let placed = placed_at_end_orders s now k bike (end.Station station) dock h in
    let less : order_load n order + 1 ≡ order_load s order = one_less s bike order (place.Dock station dock) b found was refl in
    order_changed_orders n order (λ o. record o { delivered = o.delivered + 1 })
    (λ o found. delivered_order n order o (placed.orders order o found) (let old : o.delivered + order_load s order ≤ o.count = (h.orders order o found).filled in omega (arith, less, old))) placed

unloaded_orders : (s : Operator) (now : ℕ) (k : Numbered AcceptedRequest) (truck order bike : ℕ) (side : Side) (dock : ℕ) (x : Order) → IsUnloaded s truck order bike side dock x
    → AreOrdersSound (at_moment s now k)
    → AreOrdersSound (at_moment (with_delivery order side (placed_at_end bike (end_at side x) dock now s)) now k)
unloaded_orders s now k truck order bike From dock x can h = placed_at_end_orders s now k bike x.from_end dock h
unloaded_orders s now k truck order bike To dock x can h =
    let b = some_of (map.get s.bikes bike) can.there in
    brought s now k order bike x.to_end dock b.0 b.1 (can.loaded b.0 b.1).1 h

below : (a b : ℕ) → leb a b ≡ false → b < a
below a b e = grind (arith, nat_tests, e)

not_below : (a b : ℕ) → nat_lt a b ≡ false → b ≤ a
not_below a b e = grind (arith, nat_tests, e)

end_later : (s : Operator) (now : ℕ) (k : Numbered AcceptedRequest) (e : OrderEnd) → has_end s e ≡ true → has_end (at_moment s now k) e ≡ true
end_later s now k e h = end_stands s (at_moment s now k) (λ id known. known) e h

-- ---- names

own_named_orders : (s : Operator) (now : ℕ) (k : Numbered AcceptedRequest) (kind : NameKind) (id name : List ℕ) → AreOrdersSound s → AreOrdersSound (at_moment (own_name_set kind id name s) now k)
own_named_orders s now k named.System id name h = same_orders s (at_moment (own_name_set named.System id name s) now k) refl h
own_named_orders s now k named.Station id name h =
    let f : Station → Station = λ x. record x { row = record x.row { name = name } } in
    known_orders (at_moment s now k) s.types (key_changed s.stations id f) (λ id known. known) (known_changed text_order s.stations id f) (later_orders s now k h)
own_named_orders s now k named.Type id name h =
    let f : TypeRow → TypeRow = λ t. record t { name = name } in
    known_orders (at_moment s now k) (key_changed s.types id f) s.stations (known_changed text_order s.types id f) (λ id known. known) (later_orders s now k h)
own_named_orders s now k named.Plan id name h = same_orders s (at_moment (own_name_set named.Plan id name s) now k) refl h
own_named_orders s now k named.Description id name h = same_orders s (at_moment (own_name_set named.Description id name s) now k) refl h
own_named_orders s now k named.Region id name h = same_orders s (at_moment (own_name_set named.Region id name s) now k) refl h

named_orders : (s : Operator) (now : ℕ) (k : Numbered AcceptedRequest) (kind : NameKind) (id language name : List ℕ) (own : Bool) → AreOrdersSound s
    → AreOrdersSound (at_moment (if own then own_name_set kind id name s else further_name_set kind id language name s) now k)
named_orders s now k kind id language name true h = own_named_orders s now k kind id name h
named_orders s now k kind id language name false h = same_orders s (at_moment (further_name_set kind id language name s) now k) refl h

-- ---- all commands

-- a command that leaves trucks and orders alone, and what they need
unchanged : (s : Operator) (now : ℕ) (c : Command) (k : Numbered AcceptedRequest) → order_parts (effect s now c) ≡ order_parts s → AreOrdersSound s → AreOrdersSound (at_moment (effect s now c) now k)
unchanged s now c k same h = same_orders s (at_moment (effect s now c) now k) same h

pub orders_law : AcceptedKeeps AreOrdersSound
orders_law s now (command.AddType t) k order good free late =
    known_orders (at_moment s now k) (map.insert s.types t.type_id t) s.stations (known_added text_order s.types t.type_id t) (λ id known. known) (later_orders s now k order.orders)
orders_law s now (command.SetPlan type_id plan) k order good free late =
    known_orders (at_moment s now k) (key_changed s.types type_id (λ t. record t { plan_id = plan })) s.stations (known_changed text_order s.types type_id (λ t. record t { plan_id = plan }))
    (λ id known. known) (later_orders s now k order.orders)
orders_law s now (command.AddStation x) k order good free late =
    known_orders (at_moment s now k) s.types (map.insert s.stations x.station_id (new_station x now)) (λ id known. known) (known_added text_order s.stations x.station_id (new_station x now))
    (later_orders s now k order.orders)
orders_law s now (command.SetStation station installed renting returning) k order good free late =
    let f : Station → Station = λ x. record x { is_installed = installed; is_renting = renting; is_returning = returning; reported = now } in
    known_orders (at_moment s now k) s.types (key_changed s.stations station f) (λ id known. known) (known_changed text_order s.stations station f) (later_orders s now k order.orders)
orders_law s now (command.MarkDock station dock broken) k order good free late =
    reported_orders (dock_marked station dock broken s) now k station (same_orders s (at_moment (dock_marked station dock broken s) now k) refl order.orders)
orders_law s now (command.AddBike bike type_id) k order good free late =
    bike_added_orders (at_moment s now k) bike (record { type_id = type_id; state = Fit; place = place.Depot }) refl (later_orders s now k order.orders)
orders_law s now (command.MarkBike bike disabled) k order good free late =
    bike_reported_orders (bike_marked bike (if disabled then Disabled else Fit) s) now k (map.get s.bikes bike)
    (bike_marked_orders (at_moment s now k) bike (if disabled then Disabled else Fit) (later_orders s now k order.orders))
orders_law s now (command.RetireBike bike) k order good free late = bike_marked_orders (at_moment s now k) bike Retired (later_orders s now k order.orders)
orders_law s now (command.AddTruck truck capacity) k order good free late =
    let tested = none_holds (tests (view_of s (command.AddTruck truck capacity)) (command.AddTruck truck capacity)) free in
    let absent = no_truck (map.get s.trucks truck) tested.0 in
    let none : truck_load s truck ≡ 0 = none_loaded s truck order.bikes order.orders absent in
    truck_added_orders (at_moment s now k) truck (record { capacity = capacity })
    (record { low = good.0.0; high = good.0.1; some = good.1.0.0; most = good.1.0.1; holds = omega (arith, none) }) absent tested.1.0
    (later_orders s now k order.orders)
orders_law s now (command.Start rider station dock) k order good free late = started_orders s now k rider station (docked_view s (docked_at s station dock)) (later_orders s now k order.orders)
orders_law s now (command.End bike station dock) k order good free late = ended_orders s now k bike station dock (rental_of s (map.get s.bikes bike)) (later_orders s now k order.orders)
orders_law s now (command.Recover rental) k order good free late = recovered_orders s now k (rental_view s rental (item_numbered rental s.rentals)) (later_orders s now k order.orders)
orders_law s now (command.Refund rental amount) k order good free late = refunded_orders s now k amount (rental_view s rental (item_numbered rental s.rentals)) (later_orders s now k order.orders)
orders_law s now (command.OpenOrder truck from_end to_end type_id count) k order good free late =
    let tested = none_holds (tests (view_of s (command.OpenOrder truck from_end to_end type_id count)) (command.OpenOrder truck from_end to_end type_id count)) free in
    let t = truck_of (map.get s.trucks truck) tested.0 in
    let none : order_load s (last_number s.orders + 1) ≡ 0 = none_on_truck s order.bikes in
    let enough : count ≤ t.0.capacity = not_below t.0.capacity count (on_view truck_view (λ (v : TruckView). nat_lt v.capacity count) (map.get s.trucks truck) t.0 t.1 tested.1.1.1.1.1.0) in
    let some : 1 ≤ count = good.1.1.1.1.0.0 in
    let at : Operator = at_moment s now k in
    let o : Order = record { truck = truck; from_end = from_end; to_end = to_end; type_id = type_id; count = count; delivered = 0; is_open = true } in
    let from_is : has_end at from_end ≡ true = end_later s now k from_end (holds (has_end s from_end) tested.1.0) in
    let to_is : has_end at to_end ≡ true = end_later s now k to_end (holds (has_end s to_end) tested.1.1.0) in
    let fine : IsOrderAt at (last_number s.orders + 1) o = record {
      truck_is = record { row = t.0; found = t.1; enough = enough };
      some = some;
      from_is = from_is;
      to_is = to_is;
      ends = tested.1.1.1.0;
      type_is = holds (map.contains_key s.types type_id) tested.1.1.1.1.0;
      filled = omega (arith, none);
    } in
    order_added_orders at o fine tested.1.1.1.1.1.1.0 (later_orders s now k order.orders)
orders_law s now (command.Load truck order bike) k o good free late =
    let tested = none_holds (tests (view_of s (command.Load truck order bike)) (command.Load truck order bike)) free in
    bike_reported_orders (bike_placed bike (place.Truck truck order) s) now k (map.get s.bikes bike)
    (bike_loaded_orders (at_moment s now k) bike truck order
    (λ t found. below t.capacity (truck_load s truck) (on_view truck_view (λ (v : TruckView). leb v.capacity (truck_load s truck)) (map.get s.trucks truck) t found tested.1.1.1.1.1.1.1.1.1.0))
    (λ x found. below x.count (x.delivered + order_load s order) (on_row (λ (o : Order). leb o.count (o.delivered + order_load s order))
    (item_numbered order s.orders) x found tested.1.1.1.1.1.1.1.1.0))
    (later_orders s now k o.orders))
orders_law s now (command.Unload truck order bike side dock) k o good free late =
    let x = unloaded_of s truck order bike side dock o.orders free in
    rw x.1 (unloaded_orders s now k truck order bike side dock x.0 x.2 (later_orders s now k o.orders))
orders_law s now (command.CloseOrder order) k o good free late =
    let h = later_orders s now k o.orders in
    order_changed_orders (at_moment s now k) order (λ x. record x { is_open = false }) (λ x found. closed_order (at_moment s now k) order x (h.orders order x found)) h
orders_law s now (command.SetRegion station region) k order good free late =
    let f : Station → Station = λ x. record x { region = region } in
    known_orders (at_moment s now k) s.types (key_changed s.stations station f) (λ id known. known) (known_changed text_order s.stations station f) (later_orders s now k order.orders)
orders_law s now (command.SetName kind id language name) k order good free late = named_orders s now k kind id language name (is_own_language s.system language) order.orders
orders_law s now (command.MoveStation station p) k order good free late =
    let f : Station → Station = λ x. record x { row = moved_to p x.row } in
    known_orders (at_moment s now k) s.types (key_changed s.stations station f) (λ id known. known) (known_changed text_order s.stations station f) (later_orders s now k order.orders)
orders_law s now (command.AddDocks station count) k order good free late =
    let f : Station → Station = λ x. record x { row = more_docks count x.row } in
    known_orders (at_moment s now k) s.types (key_changed s.stations station f) (λ id known. known) (known_changed text_order s.stations station f) (later_orders s now k order.orders)
orders_law s now c k order good free late = unchanged s now c k refl order.orders
