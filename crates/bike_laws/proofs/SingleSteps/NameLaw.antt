-- An accepted command keeps names in further languages sound.
use Rattle.std.proofs.Common.{◌≡◌, ℕ, ◌+◌, ◌<◌, List, length, Bool, true, false, not, ◌||◌, leb, Option, Some, None, is_some, refl, arith, if◌then◌else◌}
use Rattle.std.specs.FinMap as map
use Rattle.std.specs.FinMap.{FinMap}
use Rattle.std.proofs.lemmas.Bool.Decides.{nat_tests}
use Rattle.bike_fields.specs.Bytes.{is_name}
use Rattle.bike_catalogue.specs.Rows.{PlanRow, TypeRow, RegionRow, moved_to, more_docks, system_with}
use Rattle.bike_fields.specs.declared.name_kind.NameKind.{NameKind}
use Rattle.bike_fields.specs.declared.name_kind.NameKind.TheVariants as named
use Rattle.bike_texts.specs.declared.ends.OrderEnd.{OrderEnd}
use Rattle.bike_texts.specs.declared.ends.OrderEnd.TheVariants as end
use Rattle.bike_texts.specs.declared.ends.Side.{Side}
use Rattle.bike_texts.specs.declared.ends.Side.TheVariants.{From, To}
use Rattle.bike_commands.specs.declared.command.Command.{Command}
use Rattle.bike_commands.specs.declared.command.Command.TheVariants as command
use Rattle.bike_operator.specs.declared.limits.TheConstants.{MOST_FURTHER_NAMES}
use Rattle.bike_operator.specs.declared.records.BikeState.TheVariants.{Fit, Disabled}
use Rattle.bike_operator.specs.declared.records.Place.{Place}
use Rattle.bike_operator.specs.declared.records.Place.TheVariants as place
use Rattle.bike_operator.specs.declared.records.Bike.{Bike}
use Rattle.bike_operator.specs.declared.records.Order.{Order}
use Rattle.bike_operator.specs.declared.view.DockedBike.{DockedBike}
use Rattle.bike_operator.specs.declared.view.RentalView.{RentalView}
use Rattle.bike_operator.specs.Operator.{Operator, Station, AcceptedRequest, text_cmp, name_key, item_numbered, last_number, Numbered}
use Rattle.bike_operator.specs.Counts.{docked_at}
use Rattle.bike_operator.specs.Names.{is_own_language, has_named, has_language, further_names}
use Rattle.bike_operator.specs.View.{view_of, end_at, docked_view, rental_of, rental_view}
use Rattle.bike_operator.specs.Steps.{plan_for, own_plan, tests, effect, key_changed, with_report, place_reported, bike_reported, bike_marked, bike_placed, rental_added, with_fare, after_start, after_end, after_recovery}
use Rattle.bike_operator.specs.Steps.{refunded_by, with_delivery, placed_at_end, after_unload, system_named, own_name_set, further_name_set, further_name_removed, new_station, dock_marked}
use Rattle.bike_operator.specs.Sound.{AreNamesSound}
use Rattle.bike_laws.specs.SingleSteps.Accepted.{AcceptedKeeps}
use Rattle.bike_laws.proofs.SingleSteps.Moment.{at_moment, reports}
use Rattle.bike_laws.proofs.SingleSteps.MapLemmas.{there_of, text_order, known_added, known_changed}
use Rattle.bike_laws.proofs.SingleSteps.TestLemmas.{none_holds, none_of, holds, neither}
use Rattle.bike_laws.proofs.SingleSteps.NameLemmas.{KeepsNamed, named_parts, same_named, names_kept, system_set_names, system_changed_names, name_added, name_changed, name_removed}

-- the further names are the same, and what has them goes on being there
record KeepsNames (s n : Operator) : Type 0 where
  names : n.more_names ≡ s.more_names
  named : KeepsNamed s n

-- other records change
others : (s n : Operator) → n.more_names ≡ s.more_names → named_parts n ≡ named_parts s → KeepsNames s n
others s n names parts = record { names = names; named = same_named s n parts }

-- ---- one of the maps of what has names is another

module _ (s : Operator) where
  with_plans : (plans : FinMap text_cmp PlanRow) → ((id : List ℕ) → map.contains_key s.plans id ≡ true → map.contains_key plans id ≡ true) → KeepsNames s (record s { plans = plans })
  with_plans plans known = record { names = refl; named = record { system = refl; plans = known; types = λ id there. there; regions = λ id there. there; stations = λ id there. there } }

  with_types : (types : FinMap text_cmp TypeRow) → ((id : List ℕ) → map.contains_key s.types id ≡ true → map.contains_key types id ≡ true) → KeepsNames s (record s { types = types })
  with_types types known = record { names = refl; named = record { system = refl; plans = λ id there. there; types = known; regions = λ id there. there; stations = λ id there. there } }

  with_regions : (regions : FinMap text_cmp RegionRow) → ((id : List ℕ) → map.contains_key s.regions id ≡ true → map.contains_key regions id ≡ true) → KeepsNames s (record s { regions = regions })
  with_regions regions known = record { names = refl; named = record { system = refl; plans = λ id there. there; types = λ id there. there; regions = known; stations = λ id there. there } }

  with_stations : (stations : FinMap text_cmp Station) → ((id : List ℕ) → map.contains_key s.stations id ≡ true → map.contains_key stations id ≡ true) → KeepsNames s (record s { stations = stations })
  with_stations stations known = record { names = refl; named = record { system = refl; plans = λ id there. there; types = λ id there. there; regions = λ id there. there; stations = known } }

-- ---- stations that report

module _ (s : Operator) (now : ℕ) where
  reported : (n : Operator) (station : List ℕ) → KeepsNames s n → KeepsNames s (with_report station now n)
  reported n station h = record {
    names = h.names;
    named = record {
      system = h.named.system;
      plans = h.named.plans;
      types = h.named.types;
      regions = h.named.regions;
      stations = λ id there. known_changed text_order n.stations station (reports now) id (h.named.stations id there);
    };
  }

  place_reports : (n : Operator) (p : Place) → KeepsNames s n → KeepsNames s (place_reported p now n)
  place_reports n (place.Dock station dock) h = reported n station h
  place_reports n (place.Rental rental) h = h
  place_reports n (place.Truck truck order) h = h
  place_reports n place.Depot h = h

  bike_reports : (n : Operator) (o : Option Bike) → KeepsNames s n → KeepsNames s (bike_reported o now n)
  bike_reports n None h = h
  bike_reports n (Some b) h = place_reports n b.place h

  -- ---- the commands that name a record which may be absent

  started : (rider : ℕ) (station : List ℕ) (o : Option DockedBike) → KeepsNames s (after_start rider station now o s)
  started rider station None = others s s refl refl
  started rider station (Some b) =
      let rides : Operator = rental_added (record { rider = rider; bike = b.bike; plan = plan_for (own_plan (map.get s.riders rider)) b.plan; from_station = station; start = now; closing = None }) s in
      let n : Operator = bike_placed b.bike (place.Rental (last_number s.rentals + 1)) rides in
      reported n station (others s n refl refl)

  ended : (bike : ℕ) (station : List ℕ) (dock : ℕ) (o : Option RentalView) → KeepsNames s (after_end bike station dock now o s)
  ended bike station dock None = others s s refl refl
  ended bike station dock (Some r) =
      let n : Operator = bike_placed bike (place.Dock station dock) (with_fare r (Some station) now s) in
      reported n station (others s n refl refl)

  recovered : (o : Option RentalView) → KeepsNames s (after_recovery now o s)
  recovered None = others s s refl refl
  recovered (Some r) = others s (after_recovery now (Some r) s) refl refl

  refunded : (amount : ℕ) (o : Option RentalView) → KeepsNames s (refunded_by amount now o s)
  refunded amount None = others s s refl refl
  refunded amount (Some r) = others s (refunded_by amount now (Some r) s) refl refl

  put_at_end : (bike : ℕ) (e : OrderEnd) (dock : ℕ) → KeepsNames s (placed_at_end bike e dock now s)
  put_at_end bike end.Depot dock = others s (bike_placed bike place.Depot s) refl refl
  put_at_end bike (end.Station station) dock =
      let n : Operator = bike_placed bike (place.Dock station dock) s in
      reported n station (others s n refl refl)

  delivered : (n : Operator) (order : ℕ) (side : Side) → KeepsNames s n → KeepsNames s (with_delivery order side n)
  delivered n order From h = h
  delivered n order To h = record {
    names = h.names;
    named = record { system = h.named.system; plans = h.named.plans; types = h.named.types; regions = h.named.regions; stations = h.named.stations };
  }

  unloaded : (order bike : ℕ) (side : Side) (dock : ℕ) (o : Option Order) → KeepsNames s (after_unload order bike side dock now o s)
  unloaded order bike side dock None = others s s refl refl
  unloaded order bike side dock (Some o) = delivered (placed_at_end bike (end_at side o) dock now s) order side (put_at_end bike (end_at side o) dock)

-- ---- all commands

-- the further names after a command that leaves them alone
kept_names : (s n : Operator) (now : ℕ) (k : Numbered AcceptedRequest) → KeepsNames s n → AreNamesSound s → AreNamesSound (at_moment n now k)
kept_names s n now k keeps h = names_kept s (at_moment n now k) keeps.names
    (record { system = keeps.named.system; plans = keeps.named.plans; types = keeps.named.types; regions = keeps.named.regions; stations = keeps.named.stations }) h

-- a command that leaves alone what has names, too
unchanged : (s : Operator) (now : ℕ) (c : Command) (k : Numbered AcceptedRequest) → (effect s now c).more_names ≡ s.more_names → named_parts (effect s now c) ≡ named_parts s → AreNamesSound s
    → AreNamesSound (at_moment (effect s now c) now k)
unchanged s now c k names parts h = kept_names s (effect s now c) now k (others s (effect s now c) names parts) h

-- ---- names that change

-- the name in the system's language: the further names stay
module _ (s : Operator) (now : ℕ) (k : Numbered AcceptedRequest) (id name : List ℕ) (h : AreNamesSound s) where
  own_named_names : (kind : NameKind) → AreNamesSound (at_moment (own_name_set kind id name s) now k)
  own_named_names named.System =
      let n : Operator = own_name_set named.System id name s in
      kept_names n n now k (others n n refl refl) (system_changed_names (system_named name) (record { id = λ x. refl; language = λ x. refl }) s h)
  own_named_names named.Station =
      let f : Station → Station = λ x. record x { row = record x.row { name = name } } in
      kept_names s (own_name_set named.Station id name s) now k (with_stations s (key_changed s.stations id f) (known_changed text_order s.stations id f)) h
  own_named_names named.Type =
      let f : TypeRow → TypeRow = λ t. record t { name = name } in
      kept_names s (own_name_set named.Type id name s) now k (with_types s (key_changed s.types id f) (known_changed text_order s.types id f)) h
  own_named_names named.Plan =
      let f : PlanRow → PlanRow = λ p. record p { name = name } in
      kept_names s (own_name_set named.Plan id name s) now k (with_plans s (key_changed s.plans id f) (known_changed text_order s.plans id f)) h
  own_named_names named.Description =
      let f : PlanRow → PlanRow = λ p. record p { description = name } in
      kept_names s (own_name_set named.Description id name s) now k (with_plans s (key_changed s.plans id f) (known_changed text_order s.plans id f)) h
  own_named_names named.Region =
      let f : RegionRow → RegionRow = λ r. record r { name = name } in
      kept_names s (own_name_set named.Region id name s) now k (with_regions s (key_changed s.regions id f) (known_changed text_order s.regions id f)) h

-- a language in which there is a name, and which isn't the system's
further_there : (own there : Bool) → not (own || there) ≡ false → own ≡ false → there ≡ true
further_there true there has further = absurd cc
further_there false true has further = refl
further_there false false has further = absurd cc

module _ (s : Operator) (now : ℕ) (k : Numbered AcceptedRequest) (kind : NameKind) (id language : List ℕ) (has : not (has_language s kind id language) ≡ false) (h : AreNamesSound s) where
  old_name : is_own_language s.system language ≡ false → (old : List ℕ) × (map.get s.more_names (name_key kind id language) ≡ Some old)
  old_name further =
      there_of (map.get s.more_names (name_key kind id language)) (further_there (is_own_language s.system language) (map.contains_key s.more_names (name_key kind id language)) has further)

  named_names : (name : List ℕ) → is_name name ≡ true → (own : Bool) → is_own_language s.system language ≡ own
      → AreNamesSound (at_moment (if own then own_name_set kind id name s else further_name_set kind id language name s) now k)
  named_names name good true is = own_named_names s now k id name h kind
  named_names name good false is =
      let old = old_name is in
      let n : Operator = further_name_set kind id language name s in
      kept_names n n now k (others n n refl refl) (name_changed s (name_key kind id language) name old.0 old.1 good h)

  unnamed_names : is_own_language s.system language ≡ false → AreNamesSound (at_moment (further_name_removed kind id language s) now k)
  unnamed_names further =
      let old = old_name further in
      let n : Operator = further_name_removed kind id language s in
      kept_names n n now k (others n n refl refl) (name_removed s (name_key kind id language) old.0 old.1 h)

room_left : (n most : ℕ) → leb most n ≡ false → n < most
room_left n most full = grind (arith, nat_tests, full)

pub names_law : AcceptedKeeps AreNamesSound
names_law s now (command.SetSystem x) k order good free late =
    let no = none_holds (tests (view_of s (command.SetSystem x)) (command.SetSystem x)) free in
    let n : Operator = effect s now (command.SetSystem x) in
    kept_names n n now k (others n n refl refl) (system_set_names s x no.0 order.names)
names_law s now (command.AddPlan p) k order good free late =
    kept_names s (effect s now (command.AddPlan p)) now k (with_plans s (map.insert s.plans p.plan_id p) (known_added text_order s.plans p.plan_id p)) order.names
names_law s now (command.AddType t) k order good free late =
    kept_names s (effect s now (command.AddType t)) now k (with_types s (map.insert s.types t.type_id t) (known_added text_order s.types t.type_id t)) order.names
names_law s now (command.SetPlan type_id plan) k order good free late =
    let f : TypeRow → TypeRow = λ t. record t { plan_id = plan } in
    kept_names s (effect s now (command.SetPlan type_id plan)) now k (with_types s (key_changed s.types type_id f) (known_changed text_order s.types type_id f)) order.names
names_law s now (command.AddStation x) k order good free late =
    let new = new_station x now in
    kept_names s (effect s now (command.AddStation x)) now k (with_stations s (map.insert s.stations x.station_id new) (known_added text_order s.stations x.station_id new)) order.names
names_law s now (command.SetStation station installed renting returning) k order good free late =
    let f : Station → Station = λ x. record x { is_installed = installed; is_renting = renting; is_returning = returning; reported = now } in
    kept_names s (effect s now (command.SetStation station installed renting returning)) now k
    (with_stations s (key_changed s.stations station f) (known_changed text_order s.stations station f)) order.names
names_law s now (command.MarkDock station dock broken) k order good free late =
    kept_names s (effect s now (command.MarkDock station dock broken)) now k
    (reported s now (dock_marked station dock broken s) station (others s (dock_marked station dock broken s) refl refl)) order.names
names_law s now (command.MarkBike bike disabled) k order good free late =
    let n : Operator = bike_marked bike (if disabled then Disabled else Fit) s in
    kept_names s (effect s now (command.MarkBike bike disabled)) now k (bike_reports s now n (map.get s.bikes bike) (others s n refl refl)) order.names
names_law s now (command.Start rider station dock) k order good free late =
    kept_names s (effect s now (command.Start rider station dock)) now k (started s now rider station (docked_view s (docked_at s station dock))) order.names
names_law s now (command.End bike station dock) k order good free late =
    kept_names s (effect s now (command.End bike station dock)) now k (ended s now bike station dock (rental_of s (map.get s.bikes bike))) order.names
names_law s now (command.Recover rental) k order good free late =
    kept_names s (effect s now (command.Recover rental)) now k (recovered s now (rental_view s rental (item_numbered rental s.rentals))) order.names
names_law s now (command.Refund rental amount) k order good free late =
    kept_names s (effect s now (command.Refund rental amount)) now k (refunded s now amount (rental_view s rental (item_numbered rental s.rentals))) order.names
names_law s now (command.Load truck order bike) k o good free late =
    let n : Operator = bike_placed bike (place.Truck truck order) s in
    kept_names s (effect s now (command.Load truck order bike)) now k (bike_reports s now n (map.get s.bikes bike) (others s n refl refl)) o.names
names_law s now (command.Unload truck order bike side dock) k o good free late =
    kept_names s (effect s now (command.Unload truck order bike side dock)) now k (unloaded s now order bike side dock (item_numbered order s.orders)) o.names
names_law s now (command.AddRegion r) k order good free late =
    kept_names s (effect s now (command.AddRegion r)) now k (with_regions s (map.insert s.regions r.region_id r) (known_added text_order s.regions r.region_id r)) order.names
names_law s now (command.SetRegion station region) k order good free late =
    let f : Station → Station = λ x. record x { region = region } in
    kept_names s (effect s now (command.SetRegion station region)) now k (with_stations s (key_changed s.stations station f) (known_changed text_order s.stations station f)) order.names
names_law s now (command.AddName kind id language name) k order good free late =
    let no = none_holds (tests (view_of s (command.AddName kind id language name)) (command.AddName kind id language name)) free in
    let new = neither (is_own_language s.system language) (map.contains_key s.more_names (name_key kind id language)) no.1.1.0 in
    let n : Operator = effect s now (command.AddName kind id language name) in
    kept_names n n now k (others n n refl refl)
    (name_added s kind id language name (record {
      kind = kind;
      id = id;
      language = language;
      key_is = refl;
      good_id = good.1.0;
      good = record { language = good.1.1.0; name = good.1.1.1.0 };
      set = holds (is_some s.system) no.0;
      named = holds (has_named s kind id) no.1.0;
      further = new.0;
    }) (none_of (map.get s.more_names (name_key kind id language)) new.1) (room_left (length (further_names s kind id)) MOST_FURTHER_NAMES no.1.1.1.0) order.names)
names_law s now (command.SetName kind id language name) k order good free late =
    let no = none_holds (tests (view_of s (command.SetName kind id language name)) (command.SetName kind id language name)) free in
    named_names s now k kind id language no.1.1.0 order.names name good.1.1.1.0 (is_own_language s.system language) refl
names_law s now (command.RemoveName kind id language) k order good free late =
    let no = none_holds (tests (view_of s (command.RemoveName kind id language)) (command.RemoveName kind id language)) free in
    let has = neither (not (has_language s kind id language)) (is_own_language s.system language) no.1.1.0 in
    unnamed_names s now k kind id language has.0 order.names has.1
names_law s now (command.ChangeSystem x) k order good free late =
    let n : Operator = effect s now (command.ChangeSystem x) in
    kept_names n n now k (others n n refl refl) (system_changed_names (system_with x) (record { id = λ y. refl; language = λ y. refl }) s order.names)
names_law s now (command.MoveStation station p) k order good free late =
    let f : Station → Station = λ x. record x { row = moved_to p x.row } in
    kept_names s (effect s now (command.MoveStation station p)) now k (with_stations s (key_changed s.stations station f) (known_changed text_order s.stations station f)) order.names
names_law s now (command.AddDocks station count) k order good free late =
    let f : Station → Station = λ x. record x { row = more_docks count x.row } in
    kept_names s (effect s now (command.AddDocks station count)) now k (with_stations s (key_changed s.stations station f) (known_changed text_order s.stations station f)) order.names
names_law s now c k order good free late = unchanged s now c k refl refl order.names
