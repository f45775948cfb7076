-- An accepted command keeps the bicycles sound.
use Rattle.std.proofs.Common.{◌≡◌, ◌≢◌, ℕ, ◌+◌, List, Bool, true, false, not, ◌==◌, nat_lt, Option, Some, None, refl, sym, ap, ◌∙◌, subst, arith, length, T, if◌then◌else◌}
use Rattle.std.specs.Str.{bytes_eq}
use Rattle.std.specs.FinMap as map
use Rattle.std.proofs.lemmas.Bool.Decides.{nat_tests}
use Rattle.std.proofs.Math.Dec.{eqb_refl}
use Rattle.bike_catalogue.specs.Rows.{TypeRow, moved_to, more_docks}
use Rattle.bike_fields.specs.declared.name_kind.NameKind.{NameKind}
use Rattle.bike_fields.specs.declared.name_kind.NameKind.TheVariants as named
use Rattle.bike_texts.specs.declared.ends.OrderEnd.{OrderEnd}
use Rattle.bike_texts.specs.declared.ends.OrderEnd.TheVariants as end
use Rattle.bike_texts.specs.declared.ends.Side.{Side}
use Rattle.bike_texts.specs.declared.ends.Side.TheVariants.{From, To}
use Rattle.bike_commands.specs.declared.command.Command.{Command}
use Rattle.bike_commands.specs.declared.command.Command.TheVariants as command
use Rattle.bike_operator.specs.declared.records.BikeState.{BikeState}
use Rattle.bike_operator.specs.declared.records.BikeState.TheVariants.{Fit, Disabled, Retired}
use Rattle.bike_operator.specs.declared.records.Place.{Place}
use Rattle.bike_operator.specs.declared.records.Place.TheVariants as place
use Rattle.bike_operator.specs.declared.records.Bike.{Bike}
use Rattle.bike_operator.specs.declared.records.Rental.{Rental}
use Rattle.bike_operator.specs.declared.records.Order.{Order}
use Rattle.bike_operator.specs.declared.view.DockedBike.{DockedBike}
use Rattle.bike_operator.specs.declared.view.RentalView.{RentalView}
use Rattle.bike_operator.specs.Operator.{Operator, Station, AcceptedRequest, item_numbered, last_number, Numbered}
use Rattle.bike_operator.specs.Counts.{docked_at, is_fit, is_retired, is_depot, is_on_truck, is_for_order, order_load}
use Rattle.bike_operator.specs.Names.{is_own_language}
use Rattle.bike_operator.specs.View.{view_of, docked_view, rental_of, rental_view, end_at}
use Rattle.bike_operator.specs.Steps.{plan_for, own_plan, on, tests, effect, key_changed, with_report, place_reported, bike_reported, bike_marked, bike_placed, rental_added, rental_closed, with_fare, fare_now}
use Rattle.bike_operator.specs.Steps.{after_start, after_end, after_recovery, refunded_by, placed_at_end, with_delivery, own_name_set, further_name_set, new_station, dock_marked}
use Rattle.bike_operator.specs.Sound.{HasDock, IsRidden, IsPlace, AreBikesSound}
use Rattle.bike_laws.specs.SingleSteps.Accepted.{AcceptedKeeps}
use Rattle.bike_laws.proofs.SingleSteps.Moment.{at_moment, reports}
use Rattle.bike_laws.proofs.SingleSteps.MapLemmas.{text_order, number_order, known_added, known_changed}
use Rattle.bike_laws.proofs.SingleSteps.ItemLemmas.{number_last}
use Rattle.bike_laws.proofs.SingleSteps.CountLemmas.{uncounted}
use Rattle.bike_laws.proofs.SingleSteps.TestLemmas.{none_holds, dock_of, same_some, some_of, on_row, holds, same_bytes, same_number, no_station}
use Rattle.bike_laws.proofs.SingleSteps.FoundLemmas.{docked_of, free_dock, rental_row, ridden_in}
use Rattle.bike_laws.proofs.SingleSteps.UnloadLemmas.{TakesBike, IsUnloaded, unloaded_of}
use Rattle.bike_laws.proofs.SingleSteps.CatalogueLemmas.{docks_changed, docks_added}
use Rattle.bike_laws.proofs.SingleSteps.BikeLemmas.{bike_parts, same_bikes, types_bikes, stations_bikes, rental_added_bikes, rental_closed_bikes, order_added_bikes, order_changed_bikes}
use Rattle.bike_laws.proofs.SingleSteps.BikeLemmas.{order_delivered_bikes, IsFree, free_rental, free_truck, free_depot, bike_added_bikes, IsPlaceable, bike_placed_bikes, rental_left}
use Rattle.bike_laws.proofs.SingleSteps.BikeLemmas.{bike_marked_bikes}

later_bikes : (s : Operator) (now : ℕ) (k : Numbered AcceptedRequest) → AreBikesSound s → AreBikesSound (at_moment s now k)
later_bikes s now k h = same_bikes s (at_moment s now k) refl h

-- ---- stations that report

reported_bikes : (s : Operator) (now : ℕ) (k : Numbered AcceptedRequest) (station : List ℕ) → AreBikesSound (at_moment s now k) → AreBikesSound (at_moment (with_report station now s) now k)
reported_bikes s now k station h =
    stations_bikes (at_moment s now k) (key_changed s.stations station (reports now))
    (docks_changed (at_moment s now k) (at_moment (with_report station now s) now k) station (reports now) (λ x. omega arith) refl) h

place_reported_bikes : (s : Operator) (now : ℕ) (k : Numbered AcceptedRequest) (p : Place) → AreBikesSound (at_moment s now k) → AreBikesSound (at_moment (place_reported p now s) now k)
place_reported_bikes s now k (place.Dock station dock) h = reported_bikes s now k station h
place_reported_bikes s now k (place.Rental rental) h = h
place_reported_bikes s now k (place.Truck truck order) h = h
place_reported_bikes s now k place.Depot h = h

bike_reported_bikes : (s : Operator) (now : ℕ) (k : Numbered AcceptedRequest) (o : Option Bike) → AreBikesSound (at_moment s now k) → AreBikesSound (at_moment (bike_reported o now s) now k)
bike_reported_bikes s now k None h = h
bike_reported_bikes s now k (Some b) h = place_reported_bikes s now k b.place h

-- ---- rentals

fit_bike : (state : BikeState) → not (is_fit state) ≡ false → is_retired state ≡ true → ⊥
fit_bike Fit e f = absurd cc
fit_bike Disabled e f = absurd cc
fit_bike Retired e f = absurd cc

started_bikes : (s : Operator) (now : ℕ) (k : Numbered AcceptedRequest) (rider : ℕ) (station : List ℕ) (dock : ℕ) (o : Option DockedBike) → docked_view s (docked_at s station dock) ≡ o
    → on o (λ b. not (is_fit b.state)) ≡ false → AreBikesSound (at_moment s now k) → AreBikesSound (at_moment (after_start rider station now o s) now k)
started_bikes s now k rider station dock None e fit h = h
started_bikes s now k rider station dock (Some d) e fit h =
    let r : Rental = record { rider = rider; bike = d.bike; plan = plan_for (own_plan (map.get s.riders rider)) d.plan; from_station = station; start = now; closing = None } in
    let n : Operator = rental_added r (at_moment s now k) in
    let p : Place = place.Rental (last_number s.rentals + 1) in
    let x = docked_of s station dock d e in
    let with_rental = rental_added_bikes (at_moment s now k) r h in
    let can : IsPlaceable n d.bike p = record {
      placed = λ b found. record { row = r; found = number_last s.rentals r; not_closed = refl; bike_is = refl };
      retired = λ b found is.
          let rows : b ≡ x.row = same_some b x.row (sym found ∙ x.found) in
          let state : b.state ≡ d.state = ap (λ (z : Bike). z.state) rows ∙ x.state_is in
          absurd (fit_bike d.state fit (subst (λ (z : BikeState). is_retired z ≡ true) state is));
      free = free_rental n (last_number s.rentals + 1);
    } in
    reported_bikes (bike_placed d.bike p (rental_added r s)) now k station (bike_placed_bikes n d.bike p can with_rental)

-- a rental is closed that no bicycle is in any more, at a fare
charged_bikes : (s : Operator) (now : ℕ) (k : Numbered AcceptedRequest) (bike : ℕ) (p : Place) (r : RentalView) (to_station : Option (List ℕ)) → item_numbered r.number s.rentals ≡ Some r.rental
    → r.rental.bike ≡ bike
    → p ≢ place.Rental r.number → IsPlaceable (at_moment s now k) bike p → AreBikesSound (at_moment s now k) → AreBikesSound (at_moment (bike_placed bike p (with_fare r to_station now s)) now k)
charged_bikes s now k bike p r to_station found bike_is other can h =
    let at : Operator = at_moment s now k in
    let left = rental_left at bike p r.number r.rental found bike_is other h in
    let closed = rental_closed_bikes (bike_placed bike p at) r.number to_station now (fare_now r now) left (bike_placed_bikes at bike p can h) in
    same_bikes (rental_closed r.number to_station now (fare_now r now) (bike_placed bike p at)) (at_moment (bike_placed bike p (with_fare r to_station now s)) now k) refl closed

ended_bikes : (s : Operator) (now : ℕ) (k : Numbered AcceptedRequest) (bike : ℕ) (station : List ℕ) (dock : ℕ) (o : Option RentalView) → rental_of s (map.get s.bikes bike) ≡ o
    → HasDock (at_moment s now k) station dock → IsFree (at_moment s now k) (place.Dock station dock) → AreBikesSound (at_moment s now k)
    → AreBikesSound (at_moment (after_end bike station dock now o s) now k)
ended_bikes s now k bike station dock None e has free h = h
ended_bikes s now k bike station dock (Some r) e has free h =
    let x = ridden_in s bike r e in
    let ridden : IsRidden (at_moment s now k) bike r.number = subst (IsPlace (at_moment s now k) bike x.row.type_id) x.placed (h.bikes bike x.row x.found).placed in
    let rows : ridden.row ≡ r.rental = same_some ridden.row r.rental (sym ridden.found ∙ x.rental) in
    let bike_is : r.rental.bike ≡ bike = ap (λ (z : Rental). z.bike) (sym rows) ∙ ridden.bike_is in
    let can : IsPlaceable (at_moment s now k) bike (place.Dock station dock) = record {
      placed = λ b found. has;
      retired = λ b found is.
          let depot = (h.bikes bike b found).retired is in
          let bikes : b ≡ x.row = same_some b x.row (sym found ∙ x.found) in
          let places : place.Depot ≡ place.Rental r.number = sym depot ∙ ap (λ (z : Bike). z.place) bikes ∙ x.placed in
          absurd cc;
      free = free;
    } in
    reported_bikes (bike_placed bike (place.Dock station dock) (with_fare r (Some station) now s)) now k station
    (charged_bikes s now k bike (place.Dock station dock) r (Some station) x.rental bike_is (λ e. absurd cc) can h)

recovered_bikes : (s : Operator) (now : ℕ) (k : Numbered AcceptedRequest) (rental : ℕ) (o : Option RentalView) → rental_view s rental (item_numbered rental s.rentals) ≡ o
    → AreBikesSound (at_moment s now k)
    → AreBikesSound (at_moment (after_recovery now o s) now k)
recovered_bikes s now k rental None e h = h
recovered_bikes s now k rental (Some r) e h =
    let x = rental_row s rental r e in
    let can : IsPlaceable (at_moment s now k) r.rental.bike place.Depot = record { placed = λ b found. tt; retired = λ b found is. refl; free = free_depot (at_moment s now k) } in
    let placed = charged_bikes s now k r.rental.bike place.Depot r None (rw x.number_is x.found) refl (λ e. absurd cc) can h in
    bike_marked_bikes (at_moment (bike_placed r.rental.bike place.Depot (with_fare r None now s)) now k) r.rental.bike Disabled (λ b found e. absurd cc) placed

refunded_bikes : (s : Operator) (now : ℕ) (k : Numbered AcceptedRequest) (amount : ℕ) (o : Option RentalView) → AreBikesSound (at_moment s now k)
    → AreBikesSound (at_moment (refunded_by amount now o s) now k)
refunded_bikes s now k amount None h = h
refunded_bikes s now k amount (Some r) h = same_bikes (at_moment s now k) (at_moment (refunded_by amount now (Some r) s) now k) refl h

-- ---- trucks

truck_depot : (truck : ℕ) (p : Place) → is_on_truck truck p ≡ true → p ≡ place.Depot → ⊥
truck_depot truck p e is = let f : is_on_truck truck place.Depot ≡ true = subst (λ (z : Place). is_on_truck truck z ≡ true) is e in cc

placed_at_end_bikes : (s : Operator) (now : ℕ) (k : Numbered AcceptedRequest) (bike : ℕ) (e : OrderEnd) (dock : ℕ) → TakesBike (at_moment s now k) e dock
    → ((b : Bike) → map.get s.bikes bike ≡ Some b → is_retired b.state ≡ true → ⊥) → AreBikesSound (at_moment s now k) → AreBikesSound (at_moment (placed_at_end bike e dock now s) now k)
placed_at_end_bikes s now k bike end.Depot dock takes fit h =
    bike_placed_bikes (at_moment s now k) bike place.Depot (record { placed = λ b found. tt; retired = λ b found is. refl; free = free_depot (at_moment s now k) }) h
placed_at_end_bikes s now k bike (end.Station station) dock takes fit h =
    reported_bikes (bike_placed bike (place.Dock station dock) s) now k station
    (bike_placed_bikes (at_moment s now k) bike (place.Dock station dock)
    (record { placed = λ b found. takes.0; retired = λ b found is. absurd (fit b found is); free = free_dock (at_moment s now k) station dock h takes.1 }) h)

takes_later : (s : Operator) (now : ℕ) (k : Numbered AcceptedRequest) (e : OrderEnd) (dock : ℕ) → TakesBike s e dock → TakesBike (at_moment s now k) e dock
takes_later s now k end.Depot dock h = tt
takes_later s now k (end.Station station) dock h = (record { row = h.0.row; found = h.0.found; low = h.0.low; high = h.0.high }, h.1)

unloaded_bikes : (s : Operator) (now : ℕ) (k : Numbered AcceptedRequest) (truck order bike : ℕ) (side : Side) (dock : ℕ) (x : Order) → IsUnloaded s truck order bike side dock x
    → AreBikesSound (at_moment s now k)
    → AreBikesSound (at_moment (with_delivery order side (placed_at_end bike (end_at side x) dock now s)) now k)
unloaded_bikes s now k truck order bike side dock x can h = go side placed where
  fit : (b : Bike) → map.get s.bikes bike ≡ Some b → is_retired b.state ≡ true → ⊥
  fit b found is = truck_depot truck b.place (can.loaded b found).0 ((h.bikes bike b found).retired is)

  placed : AreBikesSound (at_moment (placed_at_end bike (end_at side x) dock now s) now k)
  placed = placed_at_end_bikes s now k bike (end_at side x) dock (takes_later s now k (end_at side x) dock can.takes) fit h

  go : (to : Side) → AreBikesSound (at_moment (placed_at_end bike (end_at side x) dock now s) now k)
      → AreBikesSound (at_moment (with_delivery order to (placed_at_end bike (end_at side x) dock now s)) now k)
  go From i = i
  go To i = order_delivered_bikes (at_moment (placed_at_end bike (end_at side x) dock now s) now k) order i

-- ---- names

own_named_bikes : (s : Operator) (now : ℕ) (k : Numbered AcceptedRequest) (kind : NameKind) (id name : List ℕ) → AreBikesSound s → AreBikesSound (at_moment (own_name_set kind id name s) now k)
own_named_bikes s now k named.System id name h = same_bikes s (at_moment (own_name_set named.System id name s) now k) refl h
own_named_bikes s now k named.Station id name h =
    let at : Operator = at_moment s now k in
    let f : Station → Station = λ x. record x { row = record x.row { name = name } } in
    stations_bikes at (key_changed s.stations id f) (docks_changed at (record at { stations = key_changed s.stations id f }) id f (λ x. omega arith) refl) (later_bikes s now k h)
own_named_bikes s now k named.Type id name h =
    let f : TypeRow → TypeRow = λ t. record t { name = name } in
    types_bikes (at_moment s now k) (key_changed s.types id f) (known_changed text_order s.types id f) (later_bikes s now k h)
own_named_bikes s now k named.Plan id name h = same_bikes s (at_moment (own_name_set named.Plan id name s) now k) refl h
own_named_bikes s now k named.Description id name h = same_bikes s (at_moment (own_name_set named.Description id name s) now k) refl h
own_named_bikes s now k named.Region id name h = same_bikes s (at_moment (own_name_set named.Region id name s) now k) refl h

named_bikes : (s : Operator) (now : ℕ) (k : Numbered AcceptedRequest) (kind : NameKind) (id language name : List ℕ) (own : Bool) → AreBikesSound s
    → AreBikesSound (at_moment (if own then own_name_set kind id name s else further_name_set kind id language name s) now k)
named_bikes s now k kind id language name true h = own_named_bikes s now k kind id name h
named_bikes s now k kind id language name false h = same_bikes s (at_moment (further_name_set kind id language name s) now k) refl h

-- ---- all commands

-- a command that leaves the bicycles alone, and what they need
unchanged : (s : Operator) (now : ℕ) (c : Command) (k : Numbered AcceptedRequest) → bike_parts (effect s now c) ≡ bike_parts s → AreBikesSound s → AreBikesSound (at_moment (effect s now c) now k)
unchanged s now c k same h = same_bikes s (at_moment (effect s now c) now k) same h

depot_of : (p : Place) → is_depot p ≡ true → p ≡ place.Depot
depot_of (place.Dock station dock) e = absurd cc
depot_of (place.Rental rental) e = absurd cc
depot_of (place.Truck truck order) e = absurd cc
depot_of place.Depot e = refl

never_retired : (disabled : Bool) → is_retired (if disabled then Disabled else Fit) ≡ true → ⊥
never_retired true e = absurd cc
never_retired false e = absurd cc

no_more : (n : ℕ) → nat_lt 0 n ≡ false → n ≡ 0
no_more n e = grind (arith, nat_tests, e)

for_order : (order truck : ℕ) (p : Place) → p ≡ place.Truck truck order → is_for_order order p ≡ false → ⊥
for_order order truck p is e =
    let f : (order == order) ≡ false = subst (λ (z : Place). is_for_order order z ≡ false) is e in
    let itself = eqb_refl order in
    subst T f itself

pub bikes_law : AcceptedKeeps AreBikesSound
bikes_law s now (command.AddType t) k order good free late =
    types_bikes (at_moment s now k) (map.insert s.types t.type_id t) (known_added text_order s.types t.type_id t) (later_bikes s now k order.bikes)
bikes_law s now (command.SetPlan type_id plan) k order good free late =
    types_bikes (at_moment s now k) (key_changed s.types type_id (λ t. record t { plan_id = plan })) (known_changed text_order s.types type_id (λ t. record t { plan_id = plan }))
    (later_bikes s now k order.bikes)
bikes_law s now (command.AddStation x) k order good free late =
    let tested = none_holds (tests (view_of s (command.AddStation x)) (command.AddStation x)) free in
    let at : Operator = at_moment s now k in
    stations_bikes at (map.insert s.stations x.station_id (new_station x now))
    (docks_added at (record at { stations = map.insert s.stations x.station_id (new_station x now) }) x.station_id (new_station x now) (no_station (map.get s.stations x.station_id) tested.0) refl)
    (later_bikes s now k order.bikes)
bikes_law s now (command.SetStation station installed renting returning) k order good free late =
    let at : Operator = at_moment s now k in
    let f : Station → Station = λ x. record x { is_installed = installed; is_renting = renting; is_returning = returning; reported = now } in
    stations_bikes at (key_changed s.stations station f) (docks_changed at (record at { stations = key_changed s.stations station f }) station f (λ x. omega arith) refl)
    (later_bikes s now k order.bikes)
bikes_law s now (command.MarkDock station dock broken) k order good free late =
    reported_bikes (dock_marked station dock broken s) now k station (same_bikes s (at_moment (dock_marked station dock broken s) now k) refl order.bikes)
bikes_law s now (command.AddBike bike type_id) k order good free late =
    let tested = none_holds (tests (view_of s (command.AddBike bike type_id)) (command.AddBike bike type_id)) free in
    bike_added_bikes (at_moment s now k) bike type_id (holds (map.contains_key s.types type_id) tested.1.0) good.0.0 good.0.1 tested.1.1.0 (later_bikes s now k order.bikes)
bikes_law s now (command.MarkBike bike disabled) k order good free late =
    bike_reported_bikes (bike_marked bike (if disabled then Disabled else Fit) s) now k (map.get s.bikes bike)
    (bike_marked_bikes (at_moment s now k) bike (if disabled then Disabled else Fit) (λ b found e. absurd (never_retired disabled e)) (later_bikes s now k order.bikes))
bikes_law s now (command.RetireBike bike) k order good free late =
    let tested = none_holds (tests (view_of s (command.RetireBike bike)) (command.RetireBike bike)) free in
    bike_marked_bikes (at_moment s now k) bike Retired
    (λ b found e. depot_of b.place (holds (is_depot b.place) (on_row (λ (b : Bike). not (is_depot b.place)) (map.get s.bikes bike) b found tested.1.1.0))) (later_bikes s now k order.bikes)
bikes_law s now (command.Start rider station dock) k order good free late =
    let tested = none_holds (tests (view_of s (command.Start rider station dock)) (command.Start rider station dock)) free in
    started_bikes s now k rider station dock (docked_view s (docked_at s station dock)) refl tested.1.1.1.1.1.1.1.1.1.0 (later_bikes s now k order.bikes)
bikes_law s now (command.End bike station dock) k order good free late =
    let tested = none_holds (tests (view_of s (command.End bike station dock)) (command.End bike station dock)) free in
    let at : Operator = at_moment s now k in
    let h = later_bikes s now k order.bikes in
    ended_bikes s now k bike station dock (rental_of s (map.get s.bikes bike)) refl (dock_of at station dock (map.get s.stations station) refl tested.1.1.0 tested.1.1.1.0 good.1.1.0.0)
    (free_dock at station dock h tested.1.1.1.1.1.1.0) h
bikes_law s now (command.Recover rental) k order good free late = recovered_bikes s now k rental (rental_view s rental (item_numbered rental s.rentals)) refl (later_bikes s now k order.bikes)
bikes_law s now (command.Refund rental amount) k order good free late = refunded_bikes s now k amount (rental_view s rental (item_numbered rental s.rentals)) (later_bikes s now k order.bikes)
bikes_law s now (command.OpenOrder truck from_end to_end type_id count) k order good free late =
    order_added_bikes (at_moment s now k) (record { truck = truck; from_end = from_end; to_end = to_end; type_id = type_id; count = count; delivered = 0; is_open = true })
    (later_bikes s now k order.bikes)
bikes_law s now (command.Load truck order bike) k o good free late =
    let tested = none_holds (tests (view_of s (command.Load truck order bike)) (command.Load truck order bike)) free in
    let x = some_of (item_numbered order s.orders) tested.1.0 in
    let at : Operator = at_moment s now k in
    let can : IsPlaceable at bike (place.Truck truck order) = record {
      placed = λ b found. record {
        row = x.0;
        found = x.1;
        not_closed = holds x.0.is_open (on_row (λ (o : Order). not o.is_open) (item_numbered order s.orders) x.0 x.1 tested.1.1.0);
        truck_is = same_number x.0.truck truck (holds (x.0.truck == truck) (on_row (λ (o : Order). not (o.truck == truck)) (item_numbered order s.orders) x.0 x.1 tested.1.1.1.0));
        type_is = sym (same_bytes b.type_id x.0.type_id (holds (bytes_eq b.type_id x.0.type_id) (on_row (λ (b : Bike). not (bytes_eq b.type_id x.0.type_id)) (map.get s.bikes bike) b found
            (on_row (λ (o : Order). on (map.get s.bikes bike) (λ b. not (bytes_eq b.type_id o.type_id))) (item_numbered order s.orders) x.0 x.1 tested.1.1.1.1.1.1.1.0))));
      };
      retired = λ b found is. let fit = on_row (λ (b : Bike). is_retired b.state) (map.get s.bikes bike) b found tested.1.1.1.1.1.0 in absurd cc;
      free = free_truck at truck order;
    } in
    bike_reported_bikes (bike_placed bike (place.Truck truck order) s) now k (map.get s.bikes bike) (bike_placed_bikes at bike (place.Truck truck order) can (later_bikes s now k o.bikes))
bikes_law s now (command.Unload truck order bike side dock) k o good free late =
    let x = unloaded_of s truck order bike side dock o.orders free in
    rw x.1 (unloaded_bikes s now k truck order bike side dock x.0 x.2 (later_bikes s now k o.bikes))
bikes_law s now (command.CloseOrder order) k o good free late =
    let tested = none_holds (tests (view_of s (command.CloseOrder order)) (command.CloseOrder order)) free in
    let x = some_of (item_numbered order s.orders) tested.0 in
    let none = no_more (order_load s order) tested.1.1.0 in
    order_changed_bikes (at_moment s now k) order (λ o. record o { is_open = false })
    (λ bike b truck found is. for_order order truck b.place is (uncounted number_order (λ (y : Bike). is_for_order order y.place) s.bikes bike b none found))
    (later_bikes s now k o.bikes)
bikes_law s now (command.SetRegion station region) k order good free late =
    let at : Operator = at_moment s now k in
    let f : Station → Station = λ x. record x { region = region } in
    stations_bikes at (key_changed s.stations station f) (docks_changed at (record at { stations = key_changed s.stations station f }) station f (λ x. omega arith) refl)
    (later_bikes s now k order.bikes)
bikes_law s now (command.SetName kind id language name) k order good free late = named_bikes s now k kind id language name (is_own_language s.system language) order.bikes
bikes_law s now (command.MoveStation station p) k order good free late =
    let at : Operator = at_moment s now k in
    let f : Station → Station = λ x. record x { row = moved_to p x.row } in
    stations_bikes at (key_changed s.stations station f) (docks_changed at (record at { stations = key_changed s.stations station f }) station f (λ x. omega arith) refl)
    (later_bikes s now k order.bikes)
bikes_law s now (command.AddDocks station count) k order good free late =
    let at : Operator = at_moment s now k in
    let f : Station → Station = λ x. record x { row = more_docks count x.row } in
    stations_bikes at (key_changed s.stations station f) (docks_changed at (record at { stations = key_changed s.stations station f }) station f (λ x. omega arith) refl)
    (later_bikes s now k order.bikes)
bikes_law s now c k order good free late = unchanged s now c k refl order.bikes
