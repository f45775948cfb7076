-- The operator is what is read off its tables.
use Rattle.std.proofs.Common.{◌≡◌, ℕ, ℤ, ◌+◌, ◌+ℤ◌, ◌==◌, ◌≤◌, max, pos, List, [], ◌∷◌, Bool, true, false, cond, Option, Some, None, is_some, refl, sym, ap, ◌∙◌, subst, arith}
use Rattle.std.specs.Prelude.{map, option_map, unwrap_or}
use Rattle.std.proofs.lemmas.Bool.{eqb-true}
use Rattle.std.specs.List.{filter_map, cons_option}
use Rattle.std.specs.FinMap as fin
use Rattle.std.specs.FinSet as set
use native.Mathlib.Nat.{le-max_left}
use Rattle.bike_fields.specs.declared.name_kind.NameKind.{NameKind}
use Rattle.bike_fields.specs.Values.{SegmentRow}
use Rattle.bike_catalogue.specs.Rows.{PlanRow, TypeRow, RegionRow, MoreNameRow, SystemRow, IsPlan}
use Rattle.bike_ledger.specs.Entries.{Entry}
use Rattle.bike_ledger.specs.Ledger.{balance_of, refunded_of}
use Rattle.bike_operator.specs.declared.records.Bike.{Bike}
use Rattle.bike_operator.specs.declared.records.Rental.{Rental}
use Rattle.bike_operator.specs.declared.records.Order.{Order}
use Rattle.bike_operator.specs.Operator.{Operator, Station, Truck, Rider, AcceptedRequest, NameKey, DockKey, dock_key, name_key, item_numbered}
use Rattle.bike_operator.specs.Counts.{docks_available, docks_broken}
use Rattle.bike_operator.specs.Sound.{IsSound, IsSetSystem, HasDock, IsNameAt}
use Rattle.bike_laws.specs.History.{last_moment_of}
use Rattle.bike_book.specs.declared.version.TheConstants.{NEWEST}
use Rattle.bike_book.specs.ByType.{types_at, by_type_text}
use Rattle.bike_book.specs.Stored.{Listed, IsListing, tables_for, meta_rows, books_rows, system_rows, plans_segments, stored_plan, stored_type, stored_region, stored_station, stored_dock, stored_bike}
use Rattle.bike_book.specs.Stored.{stored_truck, stored_rider, stored_rental, stored_order, stored_entry, stored_request, stored_name, with_numbers}
use Rattle.bike_book.proofs.Keys.{numbers, texts, triples, docks}
use Rattle.bike_readings.specs.Readings.{meta_read, system_read, plan_read, type_read, region_read, station_read, dock_read, bike_read, truck_read, rider_read, rental_read, order_read, entry_read}
use Rattle.bike_readings.specs.Readings.{request_read, name_read}
use Rattle.bike_readings.specs.Bounds.{IsStoredSegment, IsStoredBooks}
use Rattle.bike_readings.proofs.CatalogueRows.{meta_reading, plan_reading, type_reading, region_reading, station_reading, dock_reading, name_reading, system_reading}
use Rattle.bike_readings.proofs.FleetRows.{bike_reading, truck_reading, order_reading}
use Rattle.bike_readings.proofs.LedgerRows.{rider_reading, rental_reading, entry_reading, books_reading}
use Rattle.bike_readings.proofs.RequestRows.{request_reading}
use Rattle.bike_readings.specs.ReadOff.{first, since_of, sums_in, past_of, archived_of, last_moment_in, moment_of, with_segments, plan_in, station_in, rider_in, rental_in, entry_in, name_in, dock_in}
use Rattle.bike_readings.specs.ReadOff.{segments_of, operator_of, listed_of, first_of, misplaced_bike, bike_in}
use Rattle.bike_readings.proofs.ReadBack.{map_back, numbered_back}
use Rattle.bike_readings.proofs.Segments.{segments_back}
use Rattle.bike_readings.proofs.Broken.{broken_back}
use Rattle.bike_readings.proofs.Moments.{last_back}
use Rattle.bike_readings.proofs.SoundBounds.{meta_stored, segment_stored, dock_stored, type_stored, region_stored, station_stored, bike_stored, truck_stored, rider_stored, rental_stored, order_stored}
use Rattle.bike_readings.proofs.SoundBounds.{entry_stored, request_stored, books_stored}
use Rattle.bike_book.specs.Rows.{meta_row, books_row}

module _ (s : Operator) (m : Listed) (sound : IsSound s) (listing : IsListing s m) where
  -- ---- what the rows of each table spell

  pub meta_is : meta_read (meta_row NEWEST m.since s.past.cash s.past.revenue) ≡ Some (NEWEST, m.since, s.past.cash, s.past.revenue)
  meta_is =
      let now = listing.now_is in
      meta_reading.full (NEWEST, m.since, s.past.cash, s.past.revenue) (meta_stored s sound m.since (subst (λ (n : ℕ). m.since ≤ n) (sym now) (le-max_left m.since (last_moment_of 0 s.history.items))))

  abbrev bare : PlanRow → PlanRow
  bare p = record p { segments = [] }

  pub plan_is : (id : List ℕ) (p : PlanRow) → fin.get s.plans id ≡ Some p → plan_read (stored_plan (id, p)) ≡ Some (id, record p { segments = [] })
  plan_is id p found =
      let it = sound.catalogue.plans id p found in
      let plain : IsPlan (bare p) = record { plan_id = it.good.plan_id; name = it.good.name; price = it.good.price; description = it.good.description; segments = omega arith } in
      plan_reading.full (id, bare p) (record { id_is = it.id_is; good = plain }, refl)

  segments_are : (id : List ℕ) (p : PlanRow) → fin.get s.plans id ≡ Some p → segments_of (plans_segments (fin.entries s.plans)) id ≡ p.segments
  segments_are id p found =
      let it = sound.catalogue.plans id p found in
      let few = it.good.segments in
      segments_back s.plans id p found few (λ i g is. let number : i + 1 ≡ 1 + i = omega arith in subst (λ (n : ℕ). IsStoredSegment id n g) number (segment_stored s sound id p found i g is))

  plan_back : (id : List ℕ) (p : PlanRow) → fin.get s.plans id ≡ Some p → plan_in (plans_segments (fin.entries s.plans)) (stored_plan (id, p)) ≡ Some (id, p)
  plan_back id p found =
      ap (option_map (with_segments (plans_segments (fin.entries s.plans)))) (plan_is id p found)
      ∙ ap (λ (gs : List SegmentRow). Some (id, record p { segments = gs })) (segments_are id p found)

  pub type_is : (id : List ℕ) (x : TypeRow) → fin.get s.types id ≡ Some x → type_read (stored_type (id, x)) ≡ Some (id, x)
  type_is id x found = type_reading.full (id, x) (type_stored s sound id x found)

  pub region_is : (id : List ℕ) (x : RegionRow) → fin.get s.regions id ≡ Some x → region_read (stored_region (id, x)) ≡ Some (id, x)
  region_is id x found = region_reading.full (id, x) (region_stored s sound id x found)

  pub station_is : (id : List ℕ) (x : Station) → fin.get s.stations id ≡ Some x
      → station_read (stored_station s (id, x)) ≡ Some (id, x, pos (docks_available s id x.row.docks), docks_broken s id x.row.docks, by_type_text (types_at s id))
  station_is id x found =
      station_reading.full (id, x, pos (docks_available s id x.row.docks), docks_broken s id x.row.docks, by_type_text (types_at s id)) (station_stored s sound id x found)

  pub dock_is : (station : List ℕ) (dock : ℕ) (key : DockKey) → fin.contains_key m.docks key ≡ true → key ≡ dock_key station dock → HasDock s station dock
      → dock_read (stored_dock s.broken (key, tt)) ≡ Some (station, dock, set.contains s.broken key)
  dock_is station dock key known is has =
      subst (λ (q : DockKey). dock_read (stored_dock s.broken (q, tt)) ≡ Some (station, dock, set.contains s.broken q)) (sym is)
      (dock_reading.full (station, dock, set.contains s.broken (dock_key station dock)) (dock_stored s sound station dock has))

  pub bike_is : (n : ℕ) (b : Bike) → fin.get s.bikes n ≡ Some b → bike_read (stored_bike (n, b)) ≡ Some (n, b)
  bike_is n b found = bike_reading.full (n, b) (bike_stored s sound n b found)

  bike_back : (n : ℕ) (b : Bike) → fin.get s.bikes n ≡ Some b → bike_in (stored_bike (n, b)) ≡ Some (n, b)
  bike_back n b found = ap (λ (o : Option (ℕ × Bike)). first_of o (misplaced_bike (stored_bike (n, b)))) (bike_is n b found)

  pub truck_is : (n : ℕ) (x : Truck) → fin.get s.trucks n ≡ Some x → truck_read (stored_truck (n, x)) ≡ Some (n, x)
  truck_is n x found = truck_reading.full (n, x) (truck_stored s sound n x found)

  pub rider_is : (n : ℕ) (r : Rider) → fin.get s.riders n ≡ Some r → rider_read (stored_rider s.entries.items (n, r)) ≡ Some (n, r, r.before +ℤ balance_of n s.entries.items)
  rider_is n r found = rider_reading.full (n, r, r.before +ℤ balance_of n s.entries.items) (rider_stored s sound n r found)

  pub rental_is : (n : ℕ) (r : Rental) → item_numbered n s.rentals ≡ Some r → rental_read (stored_rental s.entries.items (n, r)) ≡ Some (n, r, refunded_of n s.entries.items)
  rental_is n r found = rental_reading.full (n, r, refunded_of n s.entries.items) (rental_stored s sound n r found)

  pub order_is : (n : ℕ) (o : Order) → item_numbered n s.orders ≡ Some o → order_read (stored_order (n, o)) ≡ Some (n, o)
  order_is n o found = order_reading.full (n, o) (order_stored s sound n o found)

  pub entry_is : (n : ℕ) (e : Entry) → item_numbered n s.entries ≡ Some e → entry_read (stored_entry (n, e)) ≡ Some e
  entry_is n e found =
      let number = (sound.ledger.entries n e found).number_is in
      ap (λ (k : ℕ). entry_read (stored_entry (k, e))) (sym number) ∙ entry_reading.full e (entry_stored s sound n e found)

  pub request_is : (n : ℕ) (a : AcceptedRequest) → item_numbered n s.history ≡ Some a → request_read (stored_request (n, a)) ≡ Some (n, a)
  request_is n a found = request_reading.full (n, a) (request_stored s sound n a found)

  pub name_is : (key : NameKey) (name : List ℕ) (it : IsNameAt s key name) → name_read (stored_name (key, name)) ≡ Some (it.kind, it.id, record { language = it.language; name = name })
  name_is key name it =
      ap (λ (k : NameKey). name_read (stored_name (k, name))) it.key_is
      ∙ name_reading.full (it.kind, it.id, record { language = it.language; name = name }) (record { good_id = it.good_id; good = it.good })

  name_back : (key : NameKey) (name : List ℕ) → fin.get s.more_names key ≡ Some name → name_in (stored_name (key, name)) ≡ Some (key, name)
  name_back key name found =
      let it = sound.names.names key name found in
      ap (option_map (λ (e : NameKind × List ℕ × MoreNameRow). (name_key e.0 e.1 e.2.language, e.2.name))) (name_is key name it) ∙ ap (λ (k : NameKey). Some (k, name)) (sym it.key_is)

  -- ---- the whole

  system_back : (o : Option SystemRow) → IsSetSystem o → first (filter_map system_read (system_rows o)) ≡ o
  system_back None good = refl
  system_back (Some x) good = ap (λ (o : Option SystemRow). first (cons_option o [])) (system_reading.full x good)

  since_back : since_of (meta_rows m.since s.past) ≡ m.since
  since_back = ap (λ (o : _). unwrap_or (option_map (λ (e : _). e.1) (first (cons_option o []))) 0) meta_is

  past_back : past_of (meta_rows m.since s.past) ≡ s.past
  past_back =
      ap (λ (o : Option (ℕ × ℕ × ℤ × ℤ)). unwrap_or (option_map sums_in (first (cons_option o []))) (record { cash = pos 0; revenue = pos 0 })) meta_is

  archived_back : (requests entries rentals : ℕ) → IsStoredBooks entries rentals → archived_of (books_rows requests entries rentals) ≡ (requests, entries, rentals)
  archived_back requests entries rentals good = go (requests + entries + rentals == 0) refl where
    go : (b : Bool) → (requests + entries + rentals == 0) ≡ b → archived_of (cond b [] (books_row requests entries rentals ∷ [])) ≡ (requests, entries, rentals)
    go true none =
        let all = eqb-true (requests + entries + rentals) 0 none in
        let a : 0 ≡ requests = omega (arith, all) in
        let b : 0 ≡ entries = omega (arith, all) in
        let c : 0 ≡ rentals = omega (arith, all) in
        λ i. (a i, b i, c i)
    go false some = ap (λ (o : Option (ℕ × ℕ × ℕ)). unwrap_or (first (cons_option o [])) (0, 0, 0)) (books_reading.full (requests, entries, rentals) good)

  moment_back : moment_of (tables_for s m) ≡ s.now
  moment_back =
      let last : last_moment_in (map stored_request (with_numbers s.history)) ≡ last_moment_of 0 s.history.items = last_back s.history (λ n a found. (request_stored s sound n a found).moment) in
      (λ i. max (since_back i) (last i)) ∙ sym listing.now_is

  dock_back : (key : DockKey) → fin.contains_key m.docks key ≡ true → (station : List ℕ) × (dock : ℕ) × (key ≡ dock_key station dock)
      × (dock_read (stored_dock s.broken (key, tt)) ≡ Some (station, dock, set.contains s.broken key))
  dock_back key known = let k = listing.docks key known in (k.station, k.dock, k.key_is, dock_is k.station k.dock key known k.key_is k.has)

  listed_dock_back : (key : DockKey) (v : Unit {0}) → fin.get m.docks key ≡ Some v → dock_in (stored_dock s.broken (key, v)) ≡ Some (key, v)
  listed_dock_back key v found =
      let k = dock_back key (ap is_some found) in
      ap (option_map (λ (e : List ℕ × ℕ × Bool). (dock_key e.0 e.1, tt))) k.3 ∙ ap (λ (q : DockKey). Some (q, tt)) (sym k.2)

  pub operator_back : operator_of (tables_for s m) ≡ s
  operator_back =
      let system = system_back s.system sound.catalogue.system in
      let plans = map_back texts (plan_in (plans_segments (fin.entries s.plans))) stored_plan s.plans plan_back in
      let types = map_back texts type_read stored_type s.types type_is in
      let regions = map_back texts region_read stored_region s.regions region_is in
      let stations = map_back texts station_in (stored_station s) s.stations (λ id x found. ap (option_map (λ (e : _). (e.0, e.1))) (station_is id x found)) in
      let broken = broken_back s.broken m.docks listing.marked dock_back in
      let bikes = map_back numbers bike_in stored_bike s.bikes bike_back in
      let trucks = map_back numbers truck_read stored_truck s.trucks truck_is in
      let riders = map_back numbers rider_in (stored_rider s.entries.items) s.riders (λ n r found. ap (option_map (λ (e : _). (e.0, e.1))) (rider_is n r found)) in
      let rentals = numbered_back rental_in (stored_rental s.entries.items) s.rentals (λ n r found. ap (option_map (λ (e : _). (e.0, e.1))) (rental_is n r found)) in
      let orders = numbered_back order_read stored_order s.orders order_is in
      let entries =
      numbered_back entry_in stored_entry s.entries
      (λ n e found. ap (option_map (λ (x : Entry). (x.number, x))) (entry_is n e found) ∙ ap (λ (k : ℕ). Some (k, e)) (sound.ledger.entries n e found).number_is) in
      let history = numbered_back request_read stored_request s.history request_is in
      let more_names = map_back triples name_in stored_name s.more_names name_back in
      let now = moment_back in
      let archived = archived_back s.history.archived s.entries.archived s.rentals.archived (books_stored s sound) in
      let all_orders = sound.orders.all_orders in
      let past = past_back in
      λ i. record {
        system = system i;
        plans = plans i;
        types = types i;
        regions = regions i;
        stations = stations i;
        broken = broken i;
        bikes = bikes i;
        trucks = trucks i;
        riders = riders i;
        rentals = record { archived = (archived i).2; items = rentals i };
        orders = record { archived = sym all_orders i; items = orders i };
        entries = record { archived = (archived i).1; items = entries i };
        history = record { archived = (archived i).0; items = history i };
        past = past i;
        more_names = more_names i;
        now = now i;
      }

  pub listed_back : listed_of (tables_for s m) ≡ m
  listed_back =
      let listed_docks = map_back docks dock_in (stored_dock s.broken) m.docks listed_dock_back in
      let since = since_back in
      λ i. record { docks = listed_docks i; since = since i }
