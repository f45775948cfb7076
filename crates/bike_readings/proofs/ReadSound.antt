-- The operator that is read off tables whose keys are all good is sound, and its docks are listed right.
use Rattle.std.proofs.Common.{◌≡◌, ◌⊎◌, inl, inr, ℕ, ℤ, pos, max, ◌+◌, ◌+ℤ◌, ◌-◌, ◌<◌, ◌≤◌, List, [], ◌∷◌, length, Bool, true, false, Option, Some, None, is_some, refl, sym, ap, ◌∙◌, subst, arith}
use Rattle.std.specs.Prelude.{option_map, take}
use Rattle.std.specs.Ordering.{nat_cmp}
use Rattle.std.specs.declared.cmp.Ordering.{Ordering}
use Rattle.std.specs.declared.cmp.Ordering.TheVariants.{Less, Equal, Greater}
use Rattle.std.specs.Cmp.{ranked}
use Rattle.std.proofs.lemmas.Int.{ints}
use Rattle.std.proofs.lemmas.Option.{same_Some}
use Rattle.std.specs.FinMap as fin
use Rattle.std.specs.FinSet as set
use Rattle.sqlite_value.specs.Order.{Row}
use Rattle.sqlite_rules.specs.Lists.{Has}
use Rattle.bike_fields.specs.Bytes.{is_name}
use Rattle.bike_fields.specs.declared.name_kind.NameKind.{NameKind}
use Rattle.bike_fields.specs.NameKinds.{kind_text}
use Rattle.bike_catalogue.specs.Rows.{TypeRow, RegionRow, MoreNameRow}
use Rattle.bike_ledger.specs.Entries.{Entry}
use Rattle.bike_ledger.specs.declared.entry.EntryKind.{EntryKind}
use Rattle.bike_ledger.specs.declared.entry.EntryKind.TheVariants.{TopUp, Fare, Refund, Withdrawal, Charge, Credit}
use Rattle.bike_operator.specs.declared.limits.TheConstants.{MOST_PLANS, MOST_TYPES, MOST_REGIONS, MOST_FURTHER_NAMES, MOST_STATIONS, MOST_BIKES, MOST_TRUCKS, MOST_RIDERS, MOST_ORDERS, MOST_ENTRIES}
use Rattle.bike_operator.specs.declared.records.Place.{Place}
use Rattle.bike_operator.specs.declared.records.Place.TheVariants as place
use Rattle.bike_operator.specs.declared.records.Bike.{Bike}
use Rattle.bike_operator.specs.declared.records.Rental.{Rental}
use Rattle.bike_operator.specs.declared.records.Closing.{Closing}
use Rattle.bike_operator.specs.declared.records.Order.{Order}
use Rattle.bike_operator.specs.Operator.{Operator, Station, Truck, Rider, AcceptedRequest, NameKey, DockKey, dock_key, name_key, item_numbered, last_number}
use Rattle.bike_operator.specs.Counts.{is_open, open_rentals}
use Rattle.bike_operator.specs.Names.{part_at}
use Rattle.bike_operator.specs.Sound.{IsSound, IsCatalogueSound, AreNamesSound, IsNameAt, AreBikesSound, AreOrdersSound, AreRentalsSound, IsLedgerSound, IsTypeAt, IsRegionAt, IsStationAt, HasDock}
use Rattle.bike_operator.specs.Sound.{IsBrokenDock, IsBikeAt, IsPlace, IsTruckAt, IsOrderAt, IsRentalAt, IsRiderAt, IsArchived, IsSumOf, IsPast, IsEntryAt, IsAccepted, IsHistory, befores}
use Rattle.bike_operator.specs.Sound.{fares_of, fares_in}
use Rattle.bike_laws.specs.History.{last_moment_of}
use Rattle.bike_laws.proofs.SingleSteps.ItemLemmas.{number_behind}
use Rattle.bike_laws.proofs.SingleSteps.MapLemmas.{there_of}
use Rattle.bike_book.specs.Tables.{TableName, Tables, keys_of, Meta, Plans, Types, Regions, Stations, Docks, Bikes, Trucks, Riders, Rentals, Orders, Entries, History, MoreNames}
use Rattle.bike_book.specs.Rows.{number_value}
use Rattle.bike_book.specs.Stored.{IsListing, IsDockKey, tables_for, stored_plan, stored_type, stored_region, stored_station, stored_bike, stored_truck, stored_rider, stored_rental}
use Rattle.bike_book.specs.Stored.{stored_order}
use Rattle.bike_book.proofs.MapRows.{has_get}
use Rattle.bike_book.proofs.Keys.{numbers, texts, docks, IsTriple}
use Rattle.bike_readings.specs.Readings.{type_read, region_read, station_read, dock_read, bike_read, truck_read, rider_read, rental_read, order_read, entry_read, request_read, name_read}
use Rattle.bike_readings.specs.Readings.{plan_read}
use Rattle.bike_readings.proofs.CatalogueRows.{region_reading, name_reading}
use Rattle.bike_readings.proofs.LedgerRows.{rental_reading}
use Rattle.bike_readings.proofs.RequestRows.{request_reading}
use Rattle.bike_readings.proofs.Histories.{IsNext, history_of}
use Rattle.bike_readings.specs.ReadOff.{plan_in, station_in, rider_in, rental_in, dock_in, since_of, archived_of, last_moment_in, operator_of, listed_of, first_of, misplaced_bike, bike_in}
use Rattle.bike_readings.specs.Demands.{IsGoodPlan, IsGoodType, IsGoodRegion, IsGoodStation, IsGoodDock, IsGoodPlace, IsGoodBike, IsGoodTruck, IsGoodRider, IsGoodRental, IsGoodOrder, IsGoodEntry}
use Rattle.bike_readings.specs.Demands.{IsGoodRequest, IsGoodName, IsGoodBooks, names_before, IsRiding, HasFare, IsFareOf, IsFirstFare, IsOneFare}
use Rattle.bike_readings.specs.Rules.{AreInOrder, rows_below, AreOf}
use Rattle.bike_readings.proofs.ReadLists.{has_read}
use Rattle.bike_readings.proofs.ByNumber.{at_number}
use Rattle.bike_readings.proofs.Places.{within}
use Rattle.bike_readings.proofs.Broken.{broken_has}
use Rattle.bike_readings.proofs.FurtherNames.{same_kind, name_parts, IsNameIn, few_names}
use Rattle.bike_readings.proofs.Fares.{counted, is_fare_of, fare_parts, no_fares, one_fare, rentals_few}
use Rattle.bike_readings.proofs.RowRules.{some_with, some_is, AreGoodRows, LacksNone}
use Rattle.bike_readings.proofs.ReadRows.{mapped, few_in, IsMeta, meta_are}
use Rattle.bike_readings.proofs.Moments.{last_back, moment_by_last}
use Rattle.bike_readings.proofs.TablesRead.{system_table, plans_table, plan_read_off, segments_table, types_table, regions_table, stations_table, docks_table, bikes_table, trucks_table}
use Rattle.bike_readings.proofs.TablesRead.{riders_table, names_table, rentals_table, orders_table, entries_table, requests_table, books_table}

-- no entries come to no sum
none_of : {n : ℕ} {sum : ℤ} → n ≡ 0 → IsSumOf n sum → sum ≡ pos 0
none_of none it = let low = it.low in let high = it.high in omega (arith, ints, none, low, high)

none_had : (es : List (ℕ × Rider)) → ((e : ℕ × Rider) → Has es e → e.1.before ≡ pos 0) → befores es ≡ pos 0
none_had [] each = refl
none_had (e ∷ es) each =
    let here = each e (inl refl) in
    let rest = none_had es (λ x has. each x (inr has)) in
    omega (arith, ints, here, rest)

module _ (t : Tables) (up : AreInOrder t) (rows : AreGoodRows (operator_of t) t) where
  abbrev s : Operator
  s = operator_of t

  abbrev below_of : TableName → Row → ℕ
  below_of name r = rows_below t name (take (keys_of name) r)

  -- ---- what is demanded of each record

  type_fact : (id : List ℕ) (x : TypeRow) → fin.get s.types id ≡ Some x → IsTypeAt s id x
  type_fact id x found =
      let at = (types_table t up rows).found id x found in
      (some_is (IsGoodType s (below_of Types at.item)) (type_read at.item) (id, x) (rows Types at.item at.has) at.read_is).good

  region_fact : (id : List ℕ) (x : RegionRow) → fin.get s.regions id ≡ Some x → IsRegionAt id x
  region_fact id x found =
      let at = (regions_table t up rows).found id x found in
      let law = (region_reading.sound at.item (id, x) at.read_is).1 in
      record { id_is = law.id_is; good = law.good }

  station_fact : (id : List ℕ) (x : Station) → fin.get s.stations id ≡ Some x → IsStationAt s id x
  station_fact id x found =
      let at = (stations_table t up rows).found id x found in
      let it = mapped (λ (e : List ℕ × Station × ℤ × ℕ × List ℕ). (e.0, e.1)) (station_read at.item) (id, x) at.read_is in
      let fact = some_is (IsGoodStation s (below_of Stations at.item)) (station_read at.item) it.value (rows Stations at.item at.has) it.value_is in
      subst (λ (e : List ℕ × Station). IsStationAt s e.0 e.1) it.part_is fact.good

  dock_fact : (r : Row) (station : List ℕ) (dock : ℕ) (b : Bool) → Has t.docks r → dock_read r ≡ Some (station, dock, b) → HasDock s station dock
  dock_fact r station dock b has is = some_is (IsGoodDock s (below_of Docks r)) (dock_read r) (station, dock, b) (rows Docks r has) is

  bike_fact : (n : ℕ) (b : Bike) → fin.get s.bikes n ≡ Some b → (below : ℕ) × IsGoodBike t s below (n, b)
  bike_fact n b found =
      let at = (bikes_table t up rows).found n b found in
      let below = below_of Bikes at.item in
      let it = some_with (IsGoodBike t s below) (bike_read at.item) (rows Bikes at.item at.has) in
      let read : bike_in at.item ≡ Some it.value = ap (λ (o : Option (ℕ × Bike)). first_of o (misplaced_bike at.item)) it.value_is in
      (below, subst (IsGoodBike t s below) (same_Some it.value (n, b) (sym read ∙ at.read_is)) it.fact)

  truck_fact : (n : ℕ) (x : Truck) → fin.get s.trucks n ≡ Some x → IsTruckAt s n x
  truck_fact n x found =
      let at = (trucks_table t up rows).found n x found in
      (some_is (IsGoodTruck s (below_of Trucks at.item)) (truck_read at.item) (n, x) (rows Trucks at.item at.has) at.read_is).good

  -- what is demanded of a rider, and that at most one rental of the rider is open
  record IsRider (n : ℕ) (r : Rider) : Type 0 where
    good : IsRiderAt s n r
    riding_once : (a b : ℕ) → IsRiding s n a → IsRiding s n b → a ≡ b

  rider_fact : (n : ℕ) (r : Rider) → fin.get s.riders n ≡ Some r → IsRider n r
  rider_fact n r found =
      let at = (riders_table t up rows).found n r found in
      let it = mapped (λ (e : ℕ × Rider × ℤ). (e.0, e.1)) (rider_read at.item) (n, r) at.read_is in
      let fact = some_is (IsGoodRider s (below_of Riders at.item)) (rider_read at.item) it.value (rows Riders at.item at.has) it.value_is in
      let here : IsRider it.value.0 it.value.1 = record { good = fact.good; riding_once = fact.riding_once } in
      subst (λ (e : ℕ × Rider). IsRider e.0 e.1) it.part_is here

  -- what is demanded of a rental, whatever number is stored beside it
  abbrev IsRentalFact : ℕ × Rental → Type 0
  IsRentalFact e = (below : ℕ) × (refunded : ℤ) × IsGoodRental s below (e.0, e.1, refunded)

  rental_fact : (n : ℕ) (r : Rental) → item_numbered n s.rentals ≡ Some r → IsRentalFact (n, r)
  rental_fact n r found =
      let at = (rentals_table t up rows).found n r found in
      let it = mapped (λ (e : ℕ × Rental × ℤ). (e.0, e.1)) (rental_read at.item) (n, r) at.read_is in
      let fact = some_is (IsGoodRental s (below_of Rentals at.item)) (rental_read at.item) it.value (rows Rentals at.item at.has) it.value_is in
      subst IsRentalFact it.part_is (below_of Rentals at.item, it.value.2, fact)

  order_fact : (n : ℕ) (o : Order) → item_numbered n s.orders ≡ Some o → IsOrderAt s n o
  order_fact n o found =
      let at = (orders_table t up rows).found n o found in
      (some_is (IsGoodOrder s (below_of Orders at.item)) (order_read at.item) (n, o) (rows Orders at.item at.has) at.read_is).good

  abbrev IsEntryFact : ℕ × Entry → Type 0
  IsEntryFact e = IsEntryAt s e.0 e.1 × IsOneFare s e.1 e.1.kind

  entry_fact : (n : ℕ) (e : Entry) → item_numbered n s.entries ≡ Some e → IsEntryFact (n, e)
  entry_fact n e found =
      let at = (entries_table t up rows).found n e found in
      let it = mapped (λ (x : Entry). (x.number, x)) (entry_read at.item) (n, e) at.read_is in
      let fact = some_is (IsGoodEntry s (below_of Entries at.item)) (entry_read at.item) it.value (rows Entries at.item at.has) it.value_is in
      subst IsEntryFact it.part_is (fact.good, fact.fare)

  request_fact : (n : ℕ) (a : AcceptedRequest) → item_numbered n s.history ≡ Some a → IsAccepted s.now a × IsNext s.history n a
  request_fact n a found =
      let at = (requests_table t up rows).found n a found in
      let law = (request_reading.sound at.item (n, a) at.read_is).1 in
      let fact = some_is (IsGoodRequest s (below_of History at.item)) (request_read at.item) (n, a) (rows History at.item at.has) at.read_is in (
        record { request = law.request; reply = law.reply; accepted = law.accepted; by_now = fact.by_now },
        record { below = below_of History at.item; number_is = fact.number_is; in_order = fact.in_order; anew = fact.anew },
      )

  history_sound : IsHistory s.now s.history
  history_sound = history_of s.history (λ n a found. (request_fact n a found).1) s.now (λ n a found. (request_fact n a found).0)

  -- a further name of what is there, and that it is within the limit
  record IsWithinLimit (key : NameKey) (name : List ℕ) : Type 0 where
    at : IsNameAt s key name
    room : length (names_before s at.kind at.id at.language) < MOST_FURTHER_NAMES

  name_fact : (key : NameKey) (name : List ℕ) → fin.get s.more_names key ≡ Some name → IsWithinLimit key name
  name_fact key name found =
      let row = (names_table t up rows).found key name found in
      let it = mapped (λ (e : NameKind × List ℕ × MoreNameRow). (name_key e.0 e.1 e.2.language, e.2.name)) (name_read row.item) (key, name) row.read_is in
      let law = (name_reading.sound row.item it.value it.value_is).1 in
      let fact = some_is (IsGoodName s (below_of MoreNames row.item)) (name_read row.item) it.value (rows MoreNames row.item row.has) it.value_is in
      let name_is : name ≡ it.value.2.name = ap (λ (e : NameKey × List ℕ). e.1) (sym it.part_is) in
      record {
        at = record {
          kind = it.value.0;
          id = it.value.1;
          language = it.value.2.language;
          key_is = ap (λ (e : NameKey × List ℕ). e.0) (sym it.part_is);
          good_id = law.good_id;
          good = record { language = law.good.language; name = ap is_name name_is ∙ law.good.name };
          set = fact.set;
          named = fact.named;
          further = fact.further;
        };
        room = fact.room;
      }

  abbrev key_triple : (key : NameKey) (name : List ℕ) → IsNameAt s key name → IsTriple key
  key_triple key name at = record { first = kind_text at.kind; second = at.id; third = at.language; is = at.key_is }

  -- each further name of a thing has room among them
  name_room : (kind : NameKind) (id : List ℕ) (m : MoreNameRow) → IsNameIn s kind id m → length (names_before s kind id m.language) < MOST_FURTHER_NAMES
  name_room kind id m it =
      let fact = name_fact it.key m.name it.found in
      let parts = name_parts kind id it.key (key_triple it.key m.name fact.at) it.named in
      let kind_is = same_kind fact.at.kind kind parts.0 in
      let id_is = parts.1 in
      let language_is : fact.at.language ≡ m.language = ap (λ (k : NameKey). part_at k 2) (sym fact.at.key_is) ∙ sym it.language_is in
      let same : length (names_before s fact.at.kind fact.at.id fact.at.language) ≡ length (names_before s kind id m.language) = λ i. length (names_before s (kind_is i) (id_is i) (language_is i)) in
      let room = fact.room in
      omega (arith, same, room)

  pub names_sound : AreNamesSound s
  names_sound = record {
    names = λ key name found. (name_fact key name found).at;
    few = λ kind id. few_names s kind id (λ key name found. key_triple key name (name_fact key name found).at) MOST_FURTHER_NAMES (name_room kind id);
  }

  -- ---- the catalogue and the fleet

  broken_fact : (key : DockKey) → set.contains s.broken key ≡ true → IsBrokenDock s key
  broken_fact key marked =
      let at = broken_has t.docks (up Docks) key marked in
      record { station = at.1; dock = at.2; key_is = at.5; has = dock_fact at.0 at.1 at.2 true at.3 at.4 }

  pub catalogue_sound : IsCatalogueSound s
  catalogue_sound =
      let plans = few_in texts stored_plan (λ e. refl) (plan_in t.segments) t.plans s.plans (plans_table t up rows) in
      let types = few_in texts stored_type (λ e. refl) type_read t.types s.types (types_table t up rows) in
      let regions = few_in texts stored_region (λ e. refl) region_read t.regions s.regions (regions_table t up rows) in
      let stations = few_in texts (stored_station s) (λ e. refl) station_in t.stations s.stations (stations_table t up rows) in
      let most_plans = within 1 t.plans MOST_PLANS (up Plans) (λ r has. (some_with (IsGoodPlan s (below_of Plans r)) (plan_read r) (rows Plans r has)).fact.room) in
      let most_types = within 1 t.types MOST_TYPES (up Types) (λ r has. (some_with (IsGoodType s (below_of Types r)) (type_read r) (rows Types r has)).fact.room) in
      let most_regions = within 1 t.regions MOST_REGIONS (up Regions) (λ r has. (some_with (IsGoodRegion s (below_of Regions r)) (region_read r) (rows Regions r has)).fact.room) in
      let most_stations = within 1 t.stations MOST_STATIONS (up Stations) (λ r has. (some_with (IsGoodStation s (below_of Stations r)) (station_read r) (rows Stations r has)).fact.room) in
      record {
        system = (system_table t up rows).good;
        plans = λ id p found. (plan_read_off t up rows id p found).0;
        types = type_fact;
        regions = region_fact;
        stations = station_fact;
        broken = broken_fact;
        few_plans = omega (arith, plans, most_plans);
        few_types = omega (arith, types, most_types);
        few_regions = omega (arith, regions, most_regions);
        few_stations = omega (arith, stations, most_stations);
      }

  -- two bicycles in one dock are one: neither has the lesser number
  one_bike : (a b : ℕ) (x y : Bike) (station : List ℕ) (dock : ℕ) → fin.get s.bikes a ≡ Some x → fin.get s.bikes b ≡ Some y → x.place ≡ place.Dock station dock → y.place ≡ place.Dock station dock
      → a ≡ b
  one_bike a b x y station dock fx fy px py = go (nat_cmp a b) refl where
    go : (o : Ordering) → o ≡ nat_cmp a b → a ≡ b
    go Less e = absurd ((bike_fact b y fy).1.alone a x station dock (ranked a b Less e) fx px py)
    go Equal e = ranked a b Equal e
    go Greater e = absurd ((bike_fact a x fx).1.alone b y station dock (ranked a b Greater e) fy py px)

  -- where a bicycle is, by the lists of rentals and orders
  placed_at : (bike : ℕ) (type_id : List ℕ) (p : Place) → IsGoodPlace t s bike type_id p → IsPlace s bike type_id p
  placed_at bike type_id (place.Dock station dock) it = it
  placed_at bike type_id (place.Rental rental) it =
      let rentals = rentals_table t up rows in
      let same = at_number (stored_rental s.entries.items) (λ e. refl) rental_in t.rentals s.rentals rentals.rows_are rentals.back rental in
      record { row = it.row; found = sym same ∙ it.found; not_closed = it.not_closed; bike_is = it.bike_is }
  placed_at bike type_id (place.Truck truck order) it =
      let orders = orders_table t up rows in
      let same = at_number stored_order (λ e. refl) order_read t.orders s.orders orders.rows_are orders.back order in
      record { row = it.row; found = sym same ∙ it.found; not_closed = it.not_closed; truck_is = it.truck_is; type_is = it.type_is }
  placed_at bike type_id place.Depot it = tt

  bike_at : (n : ℕ) (b : Bike) → fin.get s.bikes n ≡ Some b → IsBikeAt s n b
  bike_at n b found =
      let it = (bike_fact n b found).1 in
      record { low = it.low; high = it.high; type_is = it.type_is; placed = placed_at n b.type_id b.place it.placed; retired = it.retired }

  pub bikes_sound : AreBikesSound s
  bikes_sound =
      let bikes = few_in numbers stored_bike (λ e. refl) bike_in t.bikes s.bikes (bikes_table t up rows) in
      let most = within 1 t.bikes MOST_BIKES (up Bikes) (λ r has. (some_with (IsGoodBike t s (below_of Bikes r)) (bike_read r) (rows Bikes r has)).fact.room) in
      record { bikes = bike_at; apart = one_bike; few = omega (arith, bikes, most) }

  pub orders_sound : AreOrdersSound s
  orders_sound =
      let trucks = few_in numbers stored_truck (λ e. refl) truck_read t.trucks s.trucks (trucks_table t up rows) in
      let most_trucks = within 1 t.trucks MOST_TRUCKS (up Trucks) (λ r has. (some_with (IsGoodTruck s (below_of Trucks r)) (truck_read r) (rows Trucks r has)).fact.room) in
      let orders = (orders_table t up rows).length_is in
      let most_orders = within 1 t.orders MOST_ORDERS (up Orders) (λ r has. (some_with (IsGoodOrder s (below_of Orders r)) (order_read r) (rows Orders r has)).fact.room) in
      record { trucks = truck_fact; orders = order_fact; few_trucks = omega (arith, trucks, most_trucks); few_orders = omega (arith, orders, most_orders); all_orders = refl }

  -- ---- rentals

  -- a Fare entry is of a rental that was archived, or of one closed at its amount
  fare_of_rental : (e : Entry) (k : EntryKind) → e.kind ≡ k → k ≡ Fare → IsOneFare s e k → IsArchived e.rental s.rentals ⊎ (IsFareOf s e.rental e.amount × IsFirstFare s e.number e.rental)
  fare_of_rental e TopUp is fare it = absurd cc
  fare_of_rental e Fare is fare it = it
  fare_of_rental e Refund is fare it = absurd cc
  fare_of_rental e Withdrawal is fare it = absurd cc
  fare_of_rental e Charge is fare it = absurd cc
  fare_of_rental e Credit is fare it = absurd cc

  -- .. and of the latter where the rental is there
  fare_fact : (rental : ℕ) (r : Rental) → item_numbered rental s.rentals ≡ Some r → (n : ℕ) (e : Entry) → item_numbered n s.entries ≡ Some e → is_fare_of rental e ≡ true
      → IsFareOf s rental e.amount × IsFirstFare s n rental
  fare_fact rental r there n e found passes = go (fare_of_rental e e.kind refl parts.0 fact.1) where
    parts : (e.kind ≡ Fare) × (e.rental ≡ rental)
    parts = fare_parts rental e passes

    fact : IsEntryFact (n, e)
    fact = entry_fact n e found

    go : IsArchived e.rental s.rentals ⊎ (IsFareOf s e.rental e.amount × IsFirstFare s e.number e.rental) → IsFareOf s rental e.amount × IsFirstFare s n rental
    go (inl archived) =
        let behind = number_behind rental s.rentals r there in
        let high = archived.high in
        let same = parts.1 in
        absurd (omega (arith, behind, high, same))
    go (inr it) =
        (subst (λ (k : ℕ). IsFareOf s k e.amount) parts.1 it.0, subst (λ (k : ℕ). IsFirstFare s k rental) fact.0.number_is (subst (λ (k : ℕ). IsFirstFare s e.number k) parts.1 it.1))

  rental_booked : (n : ℕ) (r : Rental) → item_numbered n s.rentals ≡ Some r → (c : Option Closing) → r.closing ≡ c → HasFare s n c → fares_of n s.entries.items ≡ fares_in c
  rental_booked n r found None is booked = no_fares n s.entries (λ i e there. go i e there (is_fare_of n e) refl) where
    go : (i : ℕ) (e : Entry) → item_numbered i s.entries ≡ Some e → (b : Bool) → is_fare_of n e ≡ b → is_fare_of n e ≡ false
    go i e there false fails = fails
    go i e there true passes =
        let it = (fare_fact n r found i e there passes).0 in
        let same : ◌≡◌ {A = Option Rental} (Some it.row) (Some r) = sym it.found ∙ found in
        let row : it.row ≡ r = cc in
        let closed : ◌≡◌ {A = Option Closing} (Some it.closing) None = sym it.closed ∙ ap (λ (x : Rental). x.closing) row ∙ is in
        absurd cc
  rental_booked n r found (Some c) is booked = one_fare n c.fare s.entries booked each once where
    each : (i : ℕ) (e : Entry) → item_numbered i s.entries ≡ Some e → is_fare_of n e ≡ true → e.amount ≡ c.fare
    each i e there passes =
        let it = (fare_fact n r found i e there passes).0 in
        let same : ◌≡◌ {A = Option Rental} (Some it.row) (Some r) = sym it.found ∙ found in
        let row : it.row ≡ r = cc in
        let closed : ◌≡◌ {A = Option Closing} (Some it.closing) (Some c) = sym it.closed ∙ ap (λ (x : Rental). x.closing) row ∙ is in
        let closing : it.closing ≡ c = cc in
        it.fare_is ∙ ap (λ (x : Closing). x.fare) closing

    once : (a b : ℕ) (x y : Entry) → a < b → item_numbered a s.entries ≡ Some x → item_numbered b s.entries ≡ Some y → is_fare_of n x ≡ true → is_fare_of n y ≡ true → ⊥
    once a b x y less fx fy px py = let kind = fare_parts n x px in (fare_fact n r found b y fy py).1 a x less fx kind.0 kind.1

  pub rental_sound : (n : ℕ) (r : Rental) → item_numbered n s.rentals ≡ Some r → IsRentalAt s n r
  rental_sound n r found =
      let it = (rental_fact n r found).2 in
      record {
        rider_is = it.rider_is;
        bike_is = it.bike_is;
        plan_is = it.plan_is;
        from_is = it.from_is;
        by_now = it.by_now;
        closing = it.closing;
        booked = rental_booked n r found r.closing refl it.booked;
        refunded = it.refunded;
      }

  riding : (a b : ℕ) (q r : Rental) → item_numbered a s.rentals ≡ Some q → item_numbered b s.rentals ≡ Some r → is_open q ≡ true → is_open r ≡ true → q.rider ≡ r.rider → a ≡ b
  riding a b q r fq fr oq or same =
      let rider = there_of (fin.get s.riders r.rider) (rental_sound b r fr).rider_is in
      (rider_fact r.rider rider.0 rider.1).riding_once a b (record { row = q; found = fq; not_closed = oq; rider_is = same }) (record { row = r; found = fr; not_closed = or; rider_is = refl })

  -- each rental that is there is open or has an entry; of those that were archived the row of books tells
  few_rentals : (archived_of t.books ≡ (0, 0, 0)) ⊎ IsGoodBooks s (archived_of t.books) → last_number s.rentals ≤ last_number s.entries + open_rentals s
  few_rentals (inl none) =
      let archived : s.rentals.archived ≡ 0 = ap (λ (e : ℕ × ℕ × ℕ). e.2) none in
      let few = rentals_few s.rentals s.entries.items (λ n r found. (rental_sound n r found).booked) in
      omega (arith, archived, few)
  few_rentals (inr good) = good.few_rentals

  pub rentals_sound : AreRentalsSound s
  rentals_sound = record { rentals = rental_sound; riding = riding; few_rentals = few_rentals (books_table t up rows).good }

  -- ---- riders and entries

  -- there are no more rentals than numbers for them
  rentals_within : length s.rentals.items ≤ MOST_ENTRIES
  rentals_within =
      let all = (rentals_table t up rows).length_is in
      let most =
      within 1 t.rentals MOST_ENTRIES (up Rentals) (λ r has.
      let it = some_with (IsGoodRental s (below_of Rentals r)) (rental_read r) (rows Rentals r has) in
      let number = it.fact.number_is in
      let serial = (rental_reading.sound r it.value it.value_is).1.good_number.1 in
      omega (arith, number, serial)) in
      omega (arith, all, most)

  entries_within : (rs : List Row) → t.entries ≡ rs → length s.entries.items + open_rentals s ≤ MOST_ENTRIES
  entries_within [] none =
      let all = (entries_table t up rows).length_is in
      let empty : length t.entries ≡ 0 = ap (λ (xs : List Row). length xs) none in
      let some = counted is_open s.rentals.items in
      let most = rentals_within in
      omega (arith, all, empty, some, most)
  entries_within (r ∷ rs) is =
      let room : (x : Row) → Has t.entries x → below_of Entries x + open_rentals s < MOST_ENTRIES =
      λ x has. let behind = (some_with (IsGoodEntry s (below_of Entries x)) (entry_read x) (rows Entries x has)).fact.room in omega (arith, behind) in
      let first = room r (subst (λ (xs : List Row). Has xs r) (sym is) (inl refl)) in
      let most = within 1 t.entries (MOST_ENTRIES - open_rentals s) (up Entries) (λ x has. let low = room x has in omega (arith, low)) in
      let all = (entries_table t up rows).length_is in
      omega (arith, first, most, all)

  few_entries : (archived_of t.books ≡ (0, 0, 0)) ⊎ IsGoodBooks s (archived_of t.books) → last_number s.entries + open_rentals s ≤ MOST_ENTRIES
  few_entries (inl none) =
      let archived : s.entries.archived ≡ 0 = ap (λ (e : ℕ × ℕ × ℕ). e.1) none in
      let few = entries_within t.entries refl in
      omega (arith, archived, few)
  few_entries (inr good) = good.few_entries

  -- where nothing was archived, nothing was had, earned and paid in by it
  conserved : (archived_of t.books ≡ (0, 0, 0)) ⊎ IsGoodBooks s (archived_of t.books) → IsSumOf s.entries.archived s.past.cash → IsSumOf s.entries.archived s.past.revenue
      → befores (fin.entries s.riders) +ℤ s.past.revenue ≡ s.past.cash
  conserved (inl none) cash revenue =
      let archived : s.entries.archived ≡ 0 = ap (λ (e : ℕ × ℕ × ℕ). e.1) none in
      let had = none_had (fin.entries s.riders) (λ e has. none_of archived (rider_fact e.0 e.1 (has_get numbers.total s.riders e has)).good.before) in
      let paid = none_of archived cash in
      let earned = none_of archived revenue in
      omega (arith, ints, had, paid, earned)
  conserved (inr good) cash revenue = good.conserved

  pub ledger_sound : IsPast s → IsLedgerSound s
  ledger_sound past =
      let riders = few_in numbers (stored_rider s.entries.items) (λ e. refl) rider_in t.riders s.riders (riders_table t up rows) in
      let most = within 1 t.riders MOST_RIDERS (up Riders) (λ r has. (some_with (IsGoodRider s (below_of Riders r)) (rider_read r) (rows Riders r has)).fact.room) in
      record {
        riders = λ n r found. (rider_fact n r found).good;
        entries = λ n e found. (entry_fact n e found).0;
        past = past;
        few_riders = omega (arith, riders, most);
        few_entries = few_entries (books_table t up rows).good;
      }

  -- ---- docks that are listed

  dock_listed : (key : DockKey) → fin.contains_key (listed_of t).docks key ≡ true → IsDockKey s key
  dock_listed key known =
      let there = there_of (fin.get (listed_of t).docks key) known in
      let at = (docks_table t up rows).found key there.0 there.1 in
      let it = mapped (λ (x : List ℕ × ℕ × Bool). (dock_key x.0 x.1, tt)) (dock_read at.item) (key, there.0) at.read_is in
      record {
        station = it.value.0;
        dock = it.value.1;
        key_is = ap (λ (x : DockKey × Unit {0}). x.0) (sym it.part_is);
        has = dock_fact at.item it.value.0 it.value.1 it.value.2 at.has it.value_is;
      }

  broken_listed : (key : DockKey) → set.contains s.broken key ≡ true → fin.contains_key (listed_of t).docks key ≡ true
  broken_listed key marked =
      let at = broken_has t.docks (up Docks) key marked in
      let read : dock_in at.0 ≡ Some (key, tt) = ap (option_map (λ (x : List ℕ × ℕ × Bool). (dock_key x.0 x.1, tt))) at.4 ∙ ap (λ (k : DockKey). Some (k, tt)) (sym at.5) in
      let has = has_read dock_in t.docks at.0 (key, tt) at.3 read in
      let listed = (docks_table t up rows).entries_are in
      ap is_some (has_get docks.total (listed_of t).docks (key, tt) (subst (λ (es : List (DockKey × Unit {0})). Has es (key, tt)) (sym listed) has))

  module _ (lacks : LacksNone t) where
    -- the last row of the history has the moment of the last request
    last_read : last_moment_in t.history ≡ last_moment_of 0 s.history.items
    last_read =
        ap last_moment_in (requests_table t up rows).rows_are
        ∙ last_back s.history (λ n a found. let at = (requests_table t up rows).found n a found in (request_reading.sound at.item (n, a) at.read_is).1.moment)

    listing : IsListing s (listed_of t)
    listing = record { docks = dock_listed; marked = broken_listed; now_is = ap (max (since_of t.meta)) last_read }

    meta : IsMeta s t.meta
    meta = meta_are s t.meta (up Meta) (λ r has. (below_of Meta r, rows Meta r has)) (λ none. lacks Meta (number_value 1 ∷ []) none refl)

    past : IsPast s
    past = record { cash = meta.cash; revenue = meta.revenue; conserved = conserved (books_table t up rows).good meta.cash meta.revenue }

    sound : IsSound s
    sound =
        record {
          catalogue = catalogue_sound;
          bikes = bikes_sound;
          orders = orders_sound;
          rentals = rentals_sound;
          ledger = ledger_sound past;
          history = history_sound;
          names = names_sound;
          now = moment_by_last t meta.by_last;
        }

    tables : t ≡ tables_for s (listed_of t)
    tables =
        let meta_rows = meta.rows_are in
        let system = (system_table t up rows).rows_are in
        let plans = (plans_table t up rows).rows_are in
        let segments = segments_table t up rows in
        let types = (types_table t up rows).rows_are in
        let regions = (regions_table t up rows).rows_are in
        let stations = (stations_table t up rows).rows_are in
        let dock_rows = (docks_table t up rows).rows_are in
        let bikes = (bikes_table t up rows).rows_are in
        let trucks = (trucks_table t up rows).rows_are in
        let riders = (riders_table t up rows).rows_are in
        let rentals = (rentals_table t up rows).rows_are in
        let orders = (orders_table t up rows).rows_are in
        let entries = (entries_table t up rows).rows_are in
        let history = (requests_table t up rows).rows_are in
        let more_names = (names_table t up rows).rows_are in
        let books = (books_table t up rows).rows_are in
        λ i. record {
          meta = meta_rows i;
          system = system i;
          plans = plans i;
          segments = segments i;
          types = types i;
          regions = regions i;
          stations = stations i;
          docks = dock_rows i;
          bikes = bikes i;
          trucks = trucks i;
          riders = riders i;
          rentals = rentals i;
          orders = orders i;
          entries = entries i;
          history = history i;
          more_names = more_names i;
          books = books i;
        }

    pub are_of : AreOf t s (listed_of t)
    are_of = record { sound = sound; listing = listing; tables = tables }
