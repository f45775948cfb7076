-- Each kind of command that touches neither rentals nor entries.
use Rattle.std.proofs.Common.{◌≡◌, ℕ, List, Bool, true, false, cond, Option, Some, None, refl, ◌∙◌}
use Rattle.std.specs.FinMap as finmap
use Rattle.std.specs.Cmp.{nat_cmp_total}
use Rattle.std.specs.Cmp.Lexicographic.{nat_list_cmp_total}
use Rattle.bike_catalogue.specs.Rows.{moved_to, more_docks}
use Rattle.bike_fields.specs.declared.name_kind.NameKind.{NameKind}
use Rattle.bike_fields.specs.declared.name_kind.NameKind.TheVariants as named
use Rattle.bike_texts.specs.declared.ends.OrderEnd.{OrderEnd}
use Rattle.bike_texts.specs.declared.ends.OrderEnd.TheVariants as end
use Rattle.bike_texts.specs.declared.ends.Side.{Side}
use Rattle.bike_texts.specs.declared.ends.Side.TheVariants.{From, To}
use Rattle.bike_commands.specs.declared.command.Command.{Command}
use Rattle.bike_commands.specs.declared.command.Command.TheVariants as command
use Rattle.bike_operator.specs.declared.records.BikeState.TheVariants.{Fit, Disabled, Retired}
use Rattle.bike_operator.specs.declared.records.Place.{Place}
use Rattle.bike_operator.specs.declared.records.Place.TheVariants as place
use Rattle.bike_operator.specs.declared.records.Bike.{Bike}
use Rattle.bike_operator.specs.declared.records.Order.{Order}
use Rattle.bike_operator.specs.Operator.{Operator, item_numbered}
use Rattle.bike_operator.specs.Names.{is_own_language}
use Rattle.bike_operator.specs.View.{end_at, view_of}
use Rattle.bike_operator.specs.Steps.{new_station, dock_marked, tests, refusal_of, place_reported, bike_reported, bike_placed, bike_marked, placed_at_end, with_delivery, after_unload, own_name_set}
use Rattle.bike_operator.specs.Steps.{further_name_set, new_rider, effect}
use Rattle.bike_laws.proofs.SingleSteps.TestLemmas.{none_holds, none_of}
use Rattle.bike_laws.proofs.NameLemmas.{insert_keeps, changed_keeps}
use Rattle.bike_laws.proofs.QuietLemmas.{IsQuiet, quiet_fields, quiet_station, quiet_name, quiet_reported, quiet_bike_reported, quiet_marked, quiet_placed, quiet_added, elsewhere_in, loaded_in}
use Rattle.bike_laws.proofs.QuietLemmas.{quiet_unloaded}

-- commands that touch rentals or entries
abbrev pub moves_money : Command → Bool
moves_money (command.TopUp rider amount) = true
moves_money (command.Start rider station dock) = true
moves_money (command.End bike station dock) = true
moves_money (command.Recover rental) = true
moves_money (command.Refund rental amount) = true
moves_money c = false

pub quiet_kind : (s : Operator) (now : ℕ) (c : Command) → moves_money c ≡ false → refusal_of s c ≡ None → IsQuiet s (effect s now c)
quiet_kind s now (command.TopUp rider amount) free none = absurd cc
quiet_kind s now (command.Start rider station dock) free none = absurd cc
quiet_kind s now (command.End bike station dock) free none = absurd cc
quiet_kind s now (command.Recover rental) free none = absurd cc
quiet_kind s now (command.Refund rental amount) free none = absurd cc
quiet_kind s now (command.AddPlan p) free none = record {
  rentals = refl;
  entries = refl;
  past = refl;
  riders = λ id h. h;
  bikes = λ id h. h;
  stations = λ id h. h;
  plans = λ id h. insert_keeps nat_list_cmp_total s.plans p.plan_id p id h;
  out = λ number bike o. record { row = o.row; found = o.found; place_is = o.place_is };
}
quiet_kind s now (command.AddStation x) free none = record {
  rentals = refl;
  entries = refl;
  past = refl;
  riders = λ id h. h;
  bikes = λ id h. h;
  plans = λ id h. h;
  stations = λ id h. insert_keeps nat_list_cmp_total s.stations x.station_id (new_station x now) id h;
  out = λ number bike o. record { row = o.row; found = o.found; place_is = o.place_is };
}
quiet_kind s now (command.SetStation station installed renting returning) free none =
    quiet_station s station (λ x. record x { is_installed = installed; is_renting = renting; is_returning = returning; reported = now })
quiet_kind s now (command.MarkDock station dock broken) free none =
    quiet_reported s (dock_marked station dock broken s) station now (quiet_fields s (dock_marked station dock broken s) refl refl refl refl refl refl refl)
quiet_kind s now (command.AddBike bike type_id) free none =
    let tests_free = none_holds (tests (view_of s (command.AddBike bike type_id)) (command.AddBike bike type_id)) none in
    quiet_added s bike (record { type_id = type_id; state = Fit; place = place.Depot }) (none_of (finmap.get s.bikes bike) tests_free.0)
quiet_kind s now (command.MarkBike bike disabled) free none =
    quiet_bike_reported s (bike_marked bike (cond disabled Disabled Fit) s) (finmap.get s.bikes bike) now (quiet_marked s bike (cond disabled Disabled Fit))
quiet_kind s now (command.RetireBike bike) free none = quiet_marked s bike Retired
quiet_kind s now (command.AddRider rider) free none = record {
  rentals = refl;
  entries = refl;
  past = refl;
  bikes = λ id h. h;
  plans = λ id h. h;
  stations = λ id h. h;
  riders = λ id h. insert_keeps nat_cmp_total s.riders rider new_rider id h;
  out = λ number bike o. record { row = o.row; found = o.found; place_is = o.place_is };
}
quiet_kind s now (command.SetRider rider blocked) free none = record {
  rentals = refl;
  entries = refl;
  past = refl;
  bikes = λ id h. h;
  plans = λ id h. h;
  stations = λ id h. h;
  riders = λ id h. changed_keeps nat_cmp_total s.riders rider (λ r. record r { is_blocked = blocked }) id h;
  out = λ number bike o. record { row = o.row; found = o.found; place_is = o.place_is };
}
quiet_kind s now (command.Load truck order bike) free none =
    let tests_free = none_holds (tests (view_of s (command.Load truck order bike)) (command.Load truck order bike)) none in
    quiet_bike_reported s (bike_placed bike (place.Truck truck order) s) (finmap.get s.bikes bike) now
    (quiet_placed s bike (place.Truck truck order) (elsewhere_in s bike (item_numbered order s.orders) tests_free.1.0 tests_free.1.1.1.1.1.1.0))
quiet_kind s now (command.Unload truck order bike side dock) free none =
    let tests_free = none_holds (tests (view_of s (command.Unload truck order bike side dock)) (command.Unload truck order bike side dock)) none in
    quiet_unloaded s order bike side dock now (item_numbered order s.orders) (loaded_in s truck order bike tests_free.1.1.1.1.1.0)
quiet_kind s now (command.SetRegion station region) free none = quiet_station s station (λ x. record x { region = region })
quiet_kind s now (command.SetName kind id language name) free none = quiet_name s kind id language name (is_own_language s.system language)
quiet_kind s now (command.MoveStation station p) free none = quiet_station s station (λ x. record x { row = moved_to p x.row })
quiet_kind s now (command.AddDocks station count) free none = quiet_station s station (λ x. record x { row = more_docks count x.row })
quiet_kind s now c free none = quiet_fields s (effect s now c) refl refl refl refl refl refl refl

-- ---- riders

reported_riders : (x : Operator) (p : Place) (now : ℕ) → (place_reported p now x).riders ≡ x.riders
reported_riders x (place.Dock station dock) now = refl
reported_riders x (place.Rental rental) now = refl
reported_riders x (place.Truck truck order) now = refl
reported_riders x place.Depot now = refl

bike_riders : (x : Operator) (o : Option Bike) (now : ℕ) → (bike_reported o now x).riders ≡ x.riders
bike_riders x None now = refl
bike_riders x (Some b) now = reported_riders x b.place now

end_riders : (s : Operator) (bike : ℕ) (e : OrderEnd) (dock now : ℕ) → (placed_at_end bike e dock now s).riders ≡ s.riders
end_riders s bike end.Depot dock now = refl
end_riders s bike (end.Station station) dock now = refl

delivered_riders : (x : Operator) (order : ℕ) (side : Side) → (with_delivery order side x).riders ≡ x.riders
delivered_riders x order From = refl
delivered_riders x order To = refl

unloaded_riders : (s : Operator) (order bike : ℕ) (side : Side) (dock now : ℕ) (o : Option Order) → (after_unload order bike side dock now o s).riders ≡ s.riders
unloaded_riders s order bike side dock now None = refl
unloaded_riders s order bike side dock now (Some o) = delivered_riders (placed_at_end bike (end_at side o) dock now s) order side ∙ end_riders s bike (end_at side o) dock now

own_name_riders : (s : Operator) (kind : NameKind) (id name : List ℕ) → (own_name_set kind id name s).riders ≡ s.riders
own_name_riders s named.System id name = refl
own_name_riders s named.Station id name = refl
own_name_riders s named.Type id name = refl
own_name_riders s named.Plan id name = refl
own_name_riders s named.Description id name = refl
own_name_riders s named.Region id name = refl

name_riders : (s : Operator) (kind : NameKind) (id language name : List ℕ) (own : Bool) → (cond own (own_name_set kind id name s) (further_name_set kind id language name s)).riders ≡ s.riders
name_riders s kind id language name true = own_name_riders s kind id name
name_riders s kind id language name false = refl

-- commands that touch riders, rentals or entries
abbrev pub names_rider : Command → Bool
names_rider (command.AddRider rider) = true
names_rider (command.SetRider rider blocked) = true
names_rider c = moves_money c

pub same_riders : (s : Operator) (now : ℕ) (c : Command) → names_rider c ≡ false → (effect s now c).riders ≡ s.riders
same_riders s now (command.AddRider rider) free = absurd cc
same_riders s now (command.SetRider rider blocked) free = absurd cc
same_riders s now (command.TopUp rider amount) free = absurd cc
same_riders s now (command.Start rider station dock) free = absurd cc
same_riders s now (command.End bike station dock) free = absurd cc
same_riders s now (command.Recover rental) free = absurd cc
same_riders s now (command.Refund rental amount) free = absurd cc
same_riders s now (command.MarkBike bike disabled) free = bike_riders (bike_marked bike (cond disabled Disabled Fit) s) (finmap.get s.bikes bike) now
same_riders s now (command.Load truck order bike) free = bike_riders (bike_placed bike (place.Truck truck order) s) (finmap.get s.bikes bike) now
same_riders s now (command.Unload truck order bike side dock) free = unloaded_riders s order bike side dock now (item_numbered order s.orders)
same_riders s now (command.SetName kind id language name) free = name_riders s kind id language name (is_own_language s.system language)
same_riders s now c free = refl
