-- An accepted command keeps the catalogue sound.
use Rattle.std.proofs.Common.{◌≡◌, ℕ, ◌≤◌, List, Bool, true, false, ltb, Option, Some, None, refl, subst, arith, if◌then◌else◌}
use Rattle.std.specs.Prelude.{option_map, nat_lt, ◌+◌}
use Rattle.std.proofs.lemmas.Bool.Decides.{nat_tests}
use Rattle.std.specs.Ordering.{nat_cmp}
use Rattle.std.specs.FinMap as map
use Rattle.std.specs.FinMap.{FinMap}
use Rattle.bike_fields.specs.Bytes.{is_name}
use Rattle.bike_catalogue.specs.Rows.{IsSettings, moved_to, more_docks, system_with}
use Rattle.bike_fields.specs.declared.name_kind.NameKind.{NameKind}
use Rattle.bike_fields.specs.declared.name_kind.NameKind.TheVariants as named
use Rattle.bike_texts.specs.declared.ends.OrderEnd.{OrderEnd}
use Rattle.bike_texts.specs.declared.ends.OrderEnd.TheVariants as end
use Rattle.bike_texts.specs.declared.ends.Side.{Side}
use Rattle.bike_texts.specs.declared.ends.Side.TheVariants.{From, To}
use Rattle.bike_commands.specs.declared.command.Command.{Command}
use Rattle.bike_commands.specs.declared.command.Command.TheVariants as command
use Rattle.bike_operator.specs.declared.records.BikeState.TheVariants.{Fit, Disabled}
use Rattle.bike_operator.specs.declared.records.Place.{Place}
use Rattle.bike_operator.specs.declared.records.Place.TheVariants as place
use Rattle.bike_operator.specs.declared.records.Bike.{Bike}
use Rattle.bike_operator.specs.declared.records.Order.{Order}
use Rattle.bike_operator.specs.declared.view.DockedBike.{DockedBike}
use Rattle.bike_operator.specs.declared.view.RentalView.{RentalView}
use Rattle.bike_fields.specs.declared.numbers.TheConstants.{MOST_DOCKS}
use Rattle.bike_operator.specs.Operator.{Operator, Station, AcceptedRequest, item_numbered, Numbered}
use Rattle.bike_operator.specs.Counts.{docked_at}
use Rattle.bike_operator.specs.Names.{is_own_language}
use Rattle.bike_operator.specs.View.{view_of, station_view, docked_view, rental_of, rental_view, has_region}
use Rattle.bike_operator.specs.Steps.{on, tests, effect, key_changed, place_reported, bike_reported, bike_marked, bike_placed, after_start, after_end, after_recovery, refunded_by, placed_at_end}
use Rattle.bike_operator.specs.Steps.{after_unload, system_named, own_name_set, further_name_set, new_station, dock_marked}
use Rattle.bike_operator.specs.Sound.{IsCatalogueSound}
use Rattle.bike_laws.specs.SingleSteps.Accepted.{AcceptedKeeps}
use Rattle.bike_laws.proofs.SingleSteps.Moment.{at_moment, reports}
use Rattle.bike_laws.proofs.SingleSteps.TestLemmas.{none_holds, dock_of, no_station, holds}
use Rattle.bike_laws.proofs.SingleSteps.CatalogueLemmas.{region_stands, catalogue_of, same_catalogue, system_set, system_changed, settings_kept, plan_added, plan_changed, type_added, type_changed}
use Rattle.bike_laws.proofs.SingleSteps.CatalogueLemmas.{region_added, region_changed, station_added, station_changed, station_reported, dock_marked_catalogue}

later_catalogue : (s : Operator) (now : ℕ) (k : Numbered AcceptedRequest) → s.now ≤ now → IsCatalogueSound s → IsCatalogueSound (at_moment s now k)
later_catalogue s now k late h = same_catalogue s (at_moment s now k) late refl h

-- the catalogue is the same, but for a station that reports
then_reported : (s n : Operator) (station : List ℕ) → s.now ≤ n.now → catalogue_of (record n { stations = s.stations }) ≡ catalogue_of s → IsCatalogueSound s
    → IsCatalogueSound (record n { stations = key_changed s.stations station (reports n.now) })
then_reported s n station late same h = station_reported (record n { stations = s.stations }) station n.now (omega arith) (same_catalogue s (record n { stations = s.stations }) late same h)

-- ---- the commands that name a record which may be absent

module _ (s : Operator) (now : ℕ) (k : Numbered AcceptedRequest) (h : IsCatalogueSound (at_moment s now k)) where
  started_catalogue : (rider : ℕ) (station : List ℕ) (o : Option DockedBike) → IsCatalogueSound (at_moment (after_start rider station now o s) now k)
  started_catalogue rider station None = h
  started_catalogue rider station (Some b) = then_reported (at_moment s now k) (at_moment (after_start rider station now (Some b) s) now k) station (omega arith) refl h

  ended_catalogue : (bike : ℕ) (station : List ℕ) (dock : ℕ) (o : Option RentalView) → IsCatalogueSound (at_moment (after_end bike station dock now o s) now k)
  ended_catalogue bike station dock None = h
  ended_catalogue bike station dock (Some r) = then_reported (at_moment s now k) (at_moment (after_end bike station dock now (Some r) s) now k) station (omega arith) refl h

  recovered_catalogue : (o : Option RentalView) → IsCatalogueSound (at_moment (after_recovery now o s) now k)
  recovered_catalogue None = h
  recovered_catalogue (Some r) = same_catalogue (at_moment s now k) (at_moment (after_recovery now (Some r) s) now k) (omega arith) refl h

  refunded_catalogue : (amount : ℕ) (o : Option RentalView) → IsCatalogueSound (at_moment (refunded_by amount now o s) now k)
  refunded_catalogue amount None = h
  refunded_catalogue amount (Some r) = same_catalogue (at_moment s now k) (at_moment (refunded_by amount now (Some r) s) now k) (omega arith) refl h

  place_reported_catalogue : (bikes : FinMap nat_cmp Bike) (p : Place) → IsCatalogueSound (at_moment (place_reported p now (record s { bikes = bikes })) now k)
  place_reported_catalogue bikes (place.Dock station dock) =
      then_reported (at_moment s now k) (at_moment (place_reported (place.Dock station dock) now (record s { bikes = bikes })) now k) station (omega arith) refl h
  place_reported_catalogue bikes (place.Rental rental) = same_catalogue (at_moment s now k) (at_moment (record s { bikes = bikes }) now k) (omega arith) refl h
  place_reported_catalogue bikes (place.Truck truck order) = same_catalogue (at_moment s now k) (at_moment (record s { bikes = bikes }) now k) (omega arith) refl h
  place_reported_catalogue bikes place.Depot = same_catalogue (at_moment s now k) (at_moment (record s { bikes = bikes }) now k) (omega arith) refl h

  bike_reported_catalogue : (bikes : FinMap nat_cmp Bike) (o : Option Bike) → IsCatalogueSound (at_moment (bike_reported o now (record s { bikes = bikes })) now k)
  bike_reported_catalogue bikes None = same_catalogue (at_moment s now k) (at_moment (record s { bikes = bikes }) now k) (omega arith) refl h
  bike_reported_catalogue bikes (Some b) = place_reported_catalogue bikes b.place

  placed_catalogue : (bike : ℕ) (e : OrderEnd) (dock : ℕ) (orders : Numbered Order) → IsCatalogueSound (at_moment (record (placed_at_end bike e dock now s) { orders = orders }) now k)
  placed_catalogue bike end.Depot dock orders = same_catalogue (at_moment s now k) (at_moment (record (placed_at_end bike end.Depot dock now s) { orders = orders }) now k) (omega arith) refl h
  placed_catalogue bike (end.Station station) dock orders =
      then_reported (at_moment s now k) (at_moment (record (placed_at_end bike (end.Station station) dock now s) { orders = orders }) now k) station (omega arith) refl h

  unloaded_catalogue : (order bike : ℕ) (side : Side) (dock : ℕ) (o : Option Order) → IsCatalogueSound (at_moment (after_unload order bike side dock now o s) now k)
  unloaded_catalogue order bike side dock None = h
  unloaded_catalogue order bike From dock (Some o) = placed_catalogue bike o.from_end dock (after_unload order bike From dock now (Some o) s).orders
  unloaded_catalogue order bike To dock (Some o) = placed_catalogue bike o.to_end dock (after_unload order bike To dock now (Some o) s).orders

-- ---- names

-- a name within its bounds, in the system's language
module _ (s : Operator) (now : ℕ) (k : Numbered AcceptedRequest) (id name : List ℕ) (good : is_name name ≡ true) (h : IsCatalogueSound (at_moment s now k)) where
  own_named_catalogue : (kind : NameKind) → IsCatalogueSound (at_moment (own_name_set kind id name s) now k)
  own_named_catalogue named.System =
      system_set (at_moment s now k) (option_map (system_named name) s.system)
      (system_changed (system_named name)
      (λ x old. record {
        system_id = old.system_id;
        language = old.language;
        name = good;
        opening_hours = old.opening_hours;
        feed_contact_email = old.feed_contact_email;
        timezone = old.timezone;
        currency = old.currency;
        base_url = old.base_url;
        ttl = old.ttl;
      }) s.system h.system) h
  own_named_catalogue named.Station =
      station_changed (at_moment s now k) id (λ x. record x { row = record x.row { name = name } })
      (record {
        id = λ x. refl;
        docks = λ x. omega arith;
        good = λ x found old. record { station_id = old.station_id; name = good; lat = old.lat; lon = old.lon; some_docks = old.some_docks; few_docks = old.few_docks };
        by_now = λ x old. old;
        region = λ x known. known;
      }) h
  own_named_catalogue named.Type =
      type_changed (at_moment s now k) id (λ t. record t { name = name })
      (record { id = λ t. refl; good = λ t old. record { type_id = old.type_id; name = good; max_range = old.max_range; plan_id = old.plan_id }; plan = λ t known. known }) h
  own_named_catalogue named.Plan =
      plan_changed (at_moment s now k) id (λ p. record p { name = name })
      (record { id = λ p. refl; good = λ p old. record { plan_id = old.plan_id; name = good; price = old.price; description = old.description; segments = old.segments }; segments = λ p. refl }) h
  own_named_catalogue named.Description =
      plan_changed (at_moment s now k) id (λ p. record p { description = name })
      (record { id = λ p. refl; good = λ p old. record { plan_id = old.plan_id; name = old.name; price = old.price; description = good; segments = old.segments }; segments = λ p. refl }) h
  own_named_catalogue named.Region =
      region_changed (at_moment s now k) id (λ r. record r { name = name }) (record { id = λ r. refl; good = λ r old. record { region_id = old.region_id; name = good } }) h

  named_catalogue : (kind : NameKind) (language : List ℕ) (own : Bool) → IsCatalogueSound (at_moment (if own then own_name_set kind id name s else further_name_set kind id language name s) now k)
  named_catalogue kind language true = own_named_catalogue kind
  named_catalogue kind language false = same_catalogue (at_moment s now k) (at_moment (further_name_set kind id language name s) now k) (omega arith) refl h

-- a number that isn't above the most there may be
not_above : (n most : ℕ) → ltb most n ≡ false → n ≤ most
not_above n most few = grind (arith, nat_tests, few)

-- ---- all commands

-- a command that leaves the catalogue alone
unchanged : (s : Operator) (now : ℕ) (c : Command) (k : Numbered AcceptedRequest) → s.now ≤ now → catalogue_of (effect s now c) ≡ catalogue_of s → IsCatalogueSound s
    → IsCatalogueSound (at_moment (effect s now c) now k)
unchanged s now c k late same h = same_catalogue s (at_moment (effect s now c) now k) late same h

pub catalogue_law : AcceptedKeeps IsCatalogueSound
catalogue_law s now (command.SetSystem x) k order good free late =
    system_set (at_moment s now k) (Some x) (record {
      system_id = good.0;
      language = good.1.0;
      name = good.1.1.0;
      opening_hours = good.1.1.1.0;
      feed_contact_email = good.1.1.1.1.0;
      timezone = good.1.1.1.1.1.0;
      currency = good.1.1.1.1.1.1.0;
      base_url = good.1.1.1.1.1.1.1.0;
      ttl = good.1.1.1.1.1.1.1.1.0.1;
    }) (later_catalogue s now k late order.catalogue)
catalogue_law s now (command.AddPlan p) k order good free late =
    let no = none_holds (tests (view_of s (command.AddPlan p)) (command.AddPlan p)) free in
    plan_added (at_moment s now k) p (record {
      id_is = refl;
      good = record { plan_id = good.0; name = good.1.0; price = good.1.1.0.1; description = good.1.1.1.1.0; segments = good.1.1.1.1.1.0.1 };
      segments = good.1.1.1.1.1.0.0;
    }) no.1.0 (later_catalogue s now k late order.catalogue)
catalogue_law s now (command.AddType t) k order good free late =
    let no = none_holds (tests (view_of s (command.AddType t)) (command.AddType t)) free in
    type_added (at_moment s now k) t (record {
      id_is = refl;
      good = record { type_id = good.0; name = good.1.0; max_range = good.1.1.1.1.0; plan_id = good.1.1.1.1.1.0 };
      plan = holds _ no.1.0;
    }) no.1.1.0 (later_catalogue s now k late order.catalogue)
catalogue_law s now (command.SetPlan type_id plan) k order good free late =
    let no = none_holds (tests (view_of s (command.SetPlan type_id plan)) (command.SetPlan type_id plan)) free in
    type_changed (at_moment s now k) type_id (λ t. record t { plan_id = plan })
    (record {
      id = λ t. refl;
      good = λ t old. record { type_id = old.type_id; name = old.name; max_range = old.max_range; plan_id = good.1.0 };
      plan = λ t known. holds (map.contains_key s.plans plan) no.1.0;
    }) (later_catalogue s now k late order.catalogue)
catalogue_law s now (command.AddStation x) k order good free late =
    let no = none_holds (tests (view_of s (command.AddStation x)) (command.AddStation x)) free in
    station_added (at_moment s now k) (new_station x now) (record {
      id_is = refl;
      good = record { station_id = good.0; name = good.1.0; lat = (good.1.1.0.0, good.1.1.0.1); lon = (good.1.1.1.0.0, good.1.1.1.0.1); some_docks = good.1.1.1.1.0.0; few_docks = good.1.1.1.1.0.1 };
      by_now = omega arith;
      region = refl;
    }) (no_station (map.get s.stations x.station_id) no.0) no.1.0 (later_catalogue s now k late order.catalogue)
catalogue_law s now (command.SetStation station installed renting returning) k order good free late =
    station_changed (at_moment s now k) station (λ x. record x { is_installed = installed; is_renting = renting; is_returning = returning; reported = now })
    (record { id = λ x. refl; docks = λ x. omega arith; good = λ x found good. good; by_now = λ x old. omega arith; region = λ x known. known }) (later_catalogue s now k late order.catalogue)
catalogue_law s now (command.MarkDock station dock broken) k order good free late =
    let no = none_holds (tests (view_of s (command.MarkDock station dock broken)) (command.MarkDock station dock broken)) free in
    let has = dock_of (at_moment s now k) station dock (map.get s.stations station) refl no.0 no.1.0 good.1.0.0 in
    station_reported (at_moment (dock_marked station dock broken s) now k) station now (omega arith)
    (dock_marked_catalogue (at_moment s now k) station dock broken has (later_catalogue s now k late order.catalogue))
catalogue_law s now (command.MarkBike bike disabled) k order good free late =
    bike_reported_catalogue s now k (later_catalogue s now k late order.catalogue) (bike_marked bike (if disabled then Disabled else Fit) s).bikes (map.get s.bikes bike)
catalogue_law s now (command.Start rider station dock) k order good free late =
    started_catalogue s now k (later_catalogue s now k late order.catalogue) rider station (docked_view s (docked_at s station dock))
catalogue_law s now (command.End bike station dock) k order good free late =
    ended_catalogue s now k (later_catalogue s now k late order.catalogue) bike station dock (rental_of s (map.get s.bikes bike))
catalogue_law s now (command.Recover rental) k order good free late = recovered_catalogue s now k (later_catalogue s now k late order.catalogue) (rental_view s rental (item_numbered rental s.rentals))
catalogue_law s now (command.Refund rental amount) k order good free late =
    refunded_catalogue s now k (later_catalogue s now k late order.catalogue) amount (rental_view s rental (item_numbered rental s.rentals))
catalogue_law s now (command.Load truck order bike) k o good free late =
    bike_reported_catalogue s now k (later_catalogue s now k late o.catalogue) (bike_placed bike (place.Truck truck order) s).bikes (map.get s.bikes bike)
catalogue_law s now (command.Unload truck order bike side dock) k o good free late =
    unloaded_catalogue s now k (later_catalogue s now k late o.catalogue) order bike side dock (item_numbered order s.orders)
catalogue_law s now (command.AddRegion r) k order good free late =
    let no = none_holds (tests (view_of s (command.AddRegion r)) (command.AddRegion r)) free in
    region_added (at_moment s now k) r (record { id_is = refl; good = record { region_id = good.0; name = good.1.0 } }) no.1.0 (later_catalogue s now k late order.catalogue)
catalogue_law s now (command.SetRegion station region) k order good free late =
    let no = none_holds (tests (view_of s (command.SetRegion station region)) (command.SetRegion station region)) free in
    let there : has_region (at_moment s now k) region ≡ true = region_stands s (at_moment s now k) (λ id known. known) region (holds (has_region s region) no.1.0) in
    station_changed (at_moment s now k) station (λ x. record x { region = region })
    (record { id = λ x. refl; docks = λ x. omega arith; good = λ x found good. good; by_now = λ x old. old; region = λ x known. there }) (later_catalogue s now k late order.catalogue)
catalogue_law s now (command.SetName kind id language name) k order good free late =
    named_catalogue s now k id name good.1.1.1.0 (later_catalogue s now k late order.catalogue) kind language (is_own_language s.system language)
catalogue_law s now (command.ChangeSystem x) k order good free late =
    let settings : IsSettings x = record {
      name = good.0;
      opening_hours = good.1.0;
      feed_contact_email = good.1.1.0;
      timezone = good.1.1.1.0;
      base_url = good.1.1.1.1.0;
      ttl = good.1.1.1.1.1.0.1;
    } in
    system_set (at_moment s now k) (option_map (system_with x) s.system) (system_changed (system_with x) (settings_kept x settings) s.system order.catalogue.system)
    (later_catalogue s now k late order.catalogue)
catalogue_law s now (command.MoveStation station p) k order good free late =
    station_changed (at_moment s now k) station (λ x. record x { row = moved_to p x.row })
    (record {
      id = λ x. refl;
      docks = λ x. omega arith;
      good = λ x found old. record {
        station_id = old.station_id;
        name = old.name;
        lat = (good.1.0.0, good.1.0.1);
        lon = (good.1.1.0.0, good.1.1.0.1);
        some_docks = old.some_docks;
        few_docks = old.few_docks;
      };
      by_now = λ x old. old;
      region = λ x known. known;
    }) (later_catalogue s now k late order.catalogue)
catalogue_law s now (command.AddDocks station count) k order good free late =
    let no = none_holds (tests (view_of s (command.AddDocks station count)) (command.AddDocks station count)) free in
    station_changed (at_moment s now k) station (λ x. record x { row = more_docks count x.row })
    (record {
      id = λ x. refl;
      docks = λ x. omega arith;
      good = λ x found old.
          let few : x.row.docks + count ≤ MOST_DOCKS = not_above (x.row.docks + count) MOST_DOCKS (subst (λ (o : Option Station). on (station_view o) (λ y. nat_lt MOST_DOCKS (y.docks + count)) ≡ false) found no.1.0) in
          let some = old.some_docks in
          record { station_id = old.station_id; name = old.name; lat = old.lat; lon = old.lon; some_docks = omega (arith, some); few_docks = few };
      by_now = λ x old. old;
      region = λ x known. known;
    }) (later_catalogue s now k late order.catalogue)
catalogue_law s now c k order good free late = unchanged s now c k late refl order.catalogue
