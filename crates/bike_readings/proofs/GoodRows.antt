-- All rows of the tables of an operator are good, and none is missing.
use Rattle.std.proofs.Common.{◌≡◌, inl, inr, ℕ, ℤ, suc, ◌+◌, ◌-◌, ◌+ℤ◌, ◌==◌, ◌<◌, ◌≤◌, pos, List, [], ◌∷◌, length, map, Option, Some, None, is_some, Bool, true, false, cond}
use Rattle.std.proofs.Common.{refl, sym, ap, ◌∙◌, subst, arith}
use Rattle.std.specs.Prelude.{take, option_map}
use Rattle.std.specs.Option.{IsSomeAnd}
use Rattle.std.proofs.lemmas.Bool.Decides.{nat_tests}
use Rattle.std.specs.declared.cmp.Ordering.{Ordering}
use Rattle.std.specs.FinMap as fin
use Rattle.std.specs.FinMap.{FinMap}
use Rattle.std.specs.FinSet as set
use Rattle.sqlite_value.specs.Order.{Row}
use Rattle.sqlite_rules.specs.Lists.{Has}
use Rattle.bike_sql.specs.View.{row_with}
use Rattle.bike_sql.proofs.RowListLemmas.{map_has}
use Rattle.bike_catalogue.specs.Rows.{SystemRow}
use Rattle.bike_ledger.specs.Entries.{Entry}
use Rattle.bike_ledger.specs.declared.entry.EntryKind.{EntryKind}
use Rattle.bike_ledger.specs.declared.entry.EntryKind.TheVariants.{TopUp, Fare, Refund, Withdrawal, Charge, Credit}
use Rattle.bike_ledger.specs.Ledger.{balance_of, refunded_of}
use Rattle.bike_operator.specs.declared.limits.TheConstants.{MOST_FURTHER_NAMES}
use Rattle.bike_operator.specs.declared.records.Place.{Place}
use Rattle.bike_operator.specs.declared.records.Place.TheVariants as place
use Rattle.bike_operator.specs.declared.records.Rental.{Rental}
use Rattle.bike_operator.specs.declared.records.Closing.{Closing}
use Rattle.bike_operator.specs.Operator.{Operator, AcceptedRequest, Numbered, NameKey, DockKey, key_in, name_key, item_in, item_numbered}
use Rattle.bike_operator.specs.Counts.{docks_available, docks_broken}
use Rattle.bike_operator.specs.Sound.{IsSound, IsPlace, IsOfRental, IsBooking, IsSetSystem, fares_of, fares_in}
use Rattle.bike_laws.proofs.SingleSteps.ItemLemmas.{number_within, number_of_place}
use Rattle.bike_book.specs.declared.version.TheConstants.{NEWEST}
use Rattle.bike_book.specs.Tables.{Meta, System, Plans, Segments, Types, Regions, Stations, Docks, Bikes, Trucks, Riders, Rentals, Orders, Entries, History, MoreNames, Books}
use Rattle.bike_book.specs.ByType.{types_at, by_type_text}
use Rattle.bike_book.specs.Rows.{number_value, meta_row, books_row}
use Rattle.bike_book.specs.Stored.{Listed, IsListing, tables_for, meta_rows, books_rows, system_rows, with_numbers, plans_segments, stored_plan, stored_type, stored_region, stored_station}
use Rattle.bike_book.specs.Stored.{stored_dock, stored_bike, stored_truck, stored_rider, stored_rental, stored_order, stored_entry, stored_request, stored_name}
use Rattle.bike_book.proofs.MapRows.{StoresKeys, BeginsWithKey, has_get}
use Rattle.bike_book.proofs.Keys.{numbers, texts, triples, docks}
use Rattle.bike_book.proofs.FoundNumbers.{same_length}
use Rattle.bike_readings.specs.Readings.{meta_read, system_read, plan_read, segment_read, type_read, region_read, station_read, dock_read, bike_read, truck_read, rider_read, rental_read, order_read}
use Rattle.bike_readings.specs.Readings.{entry_read, request_read, name_read, books_read}
use Rattle.bike_readings.proofs.CatalogueRows.{system_reading, segment_reading}
use Rattle.bike_readings.proofs.LedgerRows.{books_reading}
use Rattle.bike_readings.specs.Bounds.{IsStoredSegment}
use Rattle.bike_readings.proofs.SoundBounds.{segment_stored, books_stored}
use Rattle.bike_readings.specs.Demands.{IsGoodMeta, IsGoodPlan, IsGoodSegment, IsGoodType, IsGoodRegion, IsGoodStation, IsGoodDock, IsGoodPlace, IsGoodBike, IsGoodTruck, IsGoodRider, IsGoodRental}
use Rattle.bike_readings.specs.Demands.{IsGoodOrder, IsGoodEntry, IsGoodRequest, IsGoodName, IsGoodBooks, HasFare, IsOneFare}
use Rattle.bike_readings.specs.ReadOff.{rental_in}
use Rattle.bike_readings.proofs.ByNumber.{at_number}
use Rattle.bike_readings.proofs.Places.{lesser, lesser_fewer, lesser_numbered, has_under}
use Rattle.bike_readings.proofs.ReadBack.{has_numbered}
use Rattle.bike_readings.proofs.Segments.{row_among}
use Rattle.bike_readings.proofs.FurtherNames.{name_room}
use Rattle.bike_readings.proofs.Fares.{fare_passes, fare_among, two_fares}
use Rattle.bike_readings.proofs.ReadOffBack.{meta_is, plan_is, type_is, region_is, station_is, dock_is, bike_is, truck_is, rider_is, rental_is, order_is, entry_is, request_is, name_is}
use Rattle.bike_readings.proofs.Histories.{none_before, if_some}
use Rattle.bike_readings.proofs.RowRules.{some_and, AreGoodRows, LacksNone}

-- ---- rows of maps and of numbered lists

module _ {K X A : Type 0} {R : K → K → Ordering} {keys : ℕ} {key_row : K → Row} {IsGood : K → Type 0} (h : StoresKeys R keys key_row IsGood) (row : K × X → Row) (read : Row → Option A)
    (Fact : ℕ → A → Type 0) where
  -- the row of each record is good, with fewer rows below it than there are
  pub map_good : (m : FinMap R X) → ((k : K) (v : X) (below : ℕ) → fin.get m k ≡ Some v → below < fin.len m → IsSomeAnd (read (row (k, v))) (Fact below))
      → (r : Row) → Has (map row (fin.entries m)) r → IsSomeAnd (read r) (Fact (lesser keys (take keys r) (map row (fin.entries m))))
  map_good m good r has =
      let at = map_has row (fin.entries m) r has in
      let room = lesser_fewer keys (map row (fin.entries m)) r has in
      let all = same_length row (fin.entries m) ∙ sym (fin.len-entries m) in
      let below = lesser keys (take keys r) (map row (fin.entries m)) in
      subst (λ (x : Row). IsSomeAnd (read x) (Fact below)) (sym at.2) (good at.0.0 at.0.1 below (has_get h.total m at.0 at.1) (omega (arith, room, all)))

module _ {X A : Type 0} (row : ℕ × X → Row) (begins : BeginsWithKey numbers row) (read : Row → Option A) (Fact : ℕ → A → Type 0) where
  -- the row of each numbered record is good, with so many rows below it
  pub numbered_good : (l : Numbered X) → ((n : ℕ) (x : X) (below : ℕ) → item_numbered n l ≡ Some x → n ≡ l.archived + below + 1 → IsSomeAnd (read (row (n, x))) (Fact below))
      → (r : Row) → Has (map row (with_numbers l)) r → IsSomeAnd (read r) (Fact (lesser 1 (take 1 r) (map row (with_numbers l))))
  numbered_good l good r has =
      let at = map_has row (with_numbers l) r has in
      let below = lesser 1 (take 1 r) (map row (with_numbers l)) in
      let place : l.archived + below + 1 ≡ at.0.0 = ap (λ (x : Row). l.archived + lesser 1 (take 1 x) (map row (with_numbers l)) + 1) at.2 ∙ lesser_numbered row begins at.0.0 l at.0.1 at.1 in
      subst (λ (x : Row). IsSomeAnd (read x) (Fact below)) (sym at.2) (good at.0.0 at.0.1 below (has_numbered l at.0.0 at.0.1 at.1) (sym place))

module _ (s : Operator) (m : Listed) (sound : IsSound s) (listing : IsListing s m) where
  -- ---- meta, system, segments

  meta_good : (r : Row) (below : ℕ) → Has (meta_rows m.since s.past) r → IsSomeAnd (meta_read r) (IsGoodMeta s below)
  meta_good r below (inl is) =
      some_and (IsGoodMeta s below) (meta_read r) (NEWEST, m.since, s.past.cash, s.past.revenue) (ap meta_read is ∙ meta_is s m sound listing)
      (record { version_is = refl; cash = sound.ledger.past.cash; revenue = sound.ledger.past.revenue })
  meta_good r below (inr none) = elim none [ ]

  system_good : (o : Option SystemRow) → IsSetSystem o → (r : Row) → Has (system_rows o) r → IsSomeAnd (system_read r) (λ x. Unit {0})
  system_good None good r has = elim has [ ]
  system_good (Some x) good r (inl is) = some_and (λ x. Unit {0}) (system_read r) x (ap system_read is ∙ system_reading.full x good) tt
  system_good (Some x) good r (inr none) = elim none [ ]

  segment_good : (r : Row) (below : ℕ) → Has (plans_segments (fin.entries s.plans)) r → IsSomeAnd (segment_read r) (IsGoodSegment s below)
  segment_good r below has =
      let among = row_among (fin.entries s.plans) r has in
      let found = has_get texts.total s.plans among.entry among.has in
      let next : 1 + among.of.at ≡ suc among.of.at = omega arith in
      let place : item_in (1 + among.of.at) among.entry.1.segments ≡ Some among.of.segment = ap (λ (n : ℕ). item_in n among.entry.1.segments) next ∙ among.of.found in
      let number : among.of.at + 1 ≡ 1 + among.of.at = omega arith in
      let good = subst (λ (n : ℕ). IsStoredSegment among.entry.0 n among.of.segment) number (segment_stored s sound among.entry.0 among.entry.1 found among.of.at among.of.segment among.of.found) in
      let read = segment_reading.full (among.entry.0, 1 + among.of.at, among.of.segment) good in
      some_and (IsGoodSegment s below) (segment_read r) (among.entry.0, 1 + among.of.at, among.of.segment) (ap segment_read among.of.row_is ∙ read)
      (record { plan = among.entry.1; found = found; segment_is = place })

  -- ---- rentals and entries

  fare_booked : (number : ℕ) (c : Option Closing) → fares_of number s.entries.items ≡ fares_in c → HasFare s number c
  fare_booked number None booked = tt
  fare_booked number (Some c) booked = let one : length (fares_of number s.entries.items) ≡ 1 = ap (λ (zs : List ℤ). length zs) booked in omega (arith, one)

  rental_good : (n : ℕ) (r : Rental) (below : ℕ) → item_numbered n s.rentals ≡ Some r → n ≡ s.rentals.archived + below + 1
      → IsSomeAnd (rental_read (stored_rental s.entries.items (n, r))) (IsGoodRental s below)
  rental_good n r below found place =
      let it = sound.rentals.rentals n r found in
      some_and (IsGoodRental s below) (rental_read (stored_rental s.entries.items (n, r))) (n, r, refunded_of n s.entries.items) (rental_is s m sound listing n r found) (record {
        number_is = place;
        rider_is = it.rider_is;
        bike_is = it.bike_is;
        plan_is = it.plan_is;
        from_is = it.from_is;
        by_now = it.by_now;
        closing = it.closing;
        booked = fare_booked n r.closing it.booked;
        refunded_is = refl;
        refunded = it.refunded;
      })

  one_only : (amount fare : ℤ) (xs : List ℤ) → xs ≡ fare ∷ [] → Has xs amount → amount ≡ fare
  one_only amount fare xs is has = go (subst (λ (zs : List ℤ). Has zs amount) is has) where
    go : Has (fare ∷ []) amount → amount ≡ fare
    go (inl same) = same
    go (inr none) = elim none [ ]

  fare_good : (n : ℕ) (e : Entry) (below : ℕ) → item_numbered n s.entries ≡ Some e → e.number ≡ n → (k : EntryKind) → e.kind ≡ k → IsBooking s e k → IsOneFare s e k
  fare_good n e below found number TopUp kind b = tt
  fare_good n e below found number Refund kind b = tt
  fare_good n e below found number Withdrawal kind b = tt
  fare_good n e below found number Charge kind b = tt
  fare_good n e below found number Credit kind b = tt
  fare_good n e below found number Fare kind b = go b.0 where
    go : IsOfRental s e → IsOneFare s e Fare
    go (inl archived) = inl archived
    go (inr of) =
        let booked : fares_of e.rental s.entries.items ≡ of.closing.fare ∷ [] = (sound.rentals.rentals e.rental of.row of.found).booked ∙ ap fares_in of.closed in
        let passes = fare_passes e.rental e kind refl in
        inr (
          record {
            row = of.row;
            closing = of.closing;
            found = of.found;
            closed = of.closed;
            fare_is = one_only e.amount of.closing.fare (fares_of e.rental s.entries.items) booked (fare_among e.rental n s.entries e found passes);
          },
          λ other x less there other_kind same.
              let one : length (fares_of e.rental s.entries.items) ≡ 1 = ap (λ (zs : List ℤ). length zs) booked in
              let two = two_fares e.rental other n s.entries x e (omega (arith, less, number)) there found (fare_passes e.rental x other_kind same) passes in
              omega (arith, one, two),
        )

  entry_good : (n : ℕ) (e : Entry) (below : ℕ) → item_numbered n s.entries ≡ Some e → n ≡ s.entries.archived + below + 1
      → IsSomeAnd (entry_read (stored_entry (n, e))) (IsGoodEntry s below)
  entry_good n e below found place =
      let it = sound.ledger.entries n e found in
      let number = it.number_is in
      let few = sound.ledger.few_entries in
      let high = number_within n s.entries e found in
      some_and (IsGoodEntry s below) (entry_read (stored_entry (n, e))) e (entry_is s m sound listing n e found) (record {
        number_is = number ∙ place;
        room = omega (arith, few, high, place);
        good = record { number_is = refl; rider_is = it.rider_is; booking = it.booking; by_now = it.by_now };
        fare = fare_good n e below found number e.kind refl it.booking;
      })

  request_good : (n : ℕ) (a : AcceptedRequest) (below : ℕ) → item_numbered n s.history ≡ Some a → n ≡ s.history.archived + below + 1
      → IsSomeAnd (request_read (stored_request (n, a))) (IsGoodRequest s below)
  request_good n a below found place =
      some_and (IsGoodRequest s below) (request_read (stored_request (n, a))) (n, a) (request_is s m sound listing n a found) (record {
        number_is = place;
        by_now = (sound.history.requests n a found).by_now;
        in_order = if_some (λ (b : AcceptedRequest). b.moment ≤ a.moment) (item_in below s.history.items) (λ b there.
            let at : (s.history.archived + below) - s.history.archived ≡ below = omega arith in
            sound.history.in_order (s.history.archived + below) n b a (ap (λ (k : ℕ). item_in k s.history.items) at ∙ there) found (omega (arith, place)));
        anew = none_before (key_in a.request) s.history.items below (λ i b low there own.
            let same = sound.history.once (s.history.archived + suc i) n b a (number_of_place i s.history b there) found (sym own) in
            omega (arith, same, low, place));
      })

  -- ---- bicycles

  -- where a bicycle is, by the rows of rentals and orders
  place_good : (bike : ℕ) (type_id : List ℕ) (p : Place) → IsPlace s bike type_id p → IsGoodPlace (tables_for s m) s bike type_id p
  place_good bike type_id (place.Dock station dock) it = it
  place_good bike type_id (place.Rental rental) it =
      let back = λ (n : ℕ) (r : Rental) (is : item_numbered n s.rentals ≡ Some r). ap (option_map (λ (e : ℕ × Rental × ℤ). (e.0, e.1))) (rental_is s m sound listing n r is) in
      let same = at_number (stored_rental s.entries.items) (λ e. refl) rental_in (tables_for s m).rentals s.rentals refl back rental in
      record { row = it.row; found = same ∙ it.found; not_closed = it.not_closed; bike_is = it.bike_is }
  place_good bike type_id (place.Truck truck order) it =
      let same = at_number stored_order (λ e. refl) order_read (tables_for s m).orders s.orders refl (order_is s m sound listing) order in
      let truck = (sound.orders.orders order it.row it.found).truck_is in
      let there : fin.contains_key s.trucks it.row.truck ≡ true = ap is_some truck.found in
      record {
        row = it.row;
        found = same ∙ it.found;
        not_closed = it.not_closed;
        truck_is = it.truck_is;
        truck_there = subst (λ (n : ℕ). fin.contains_key s.trucks n ≡ true) it.truck_is there;
        type_is = it.type_is;
      }
  place_good bike type_id place.Depot it = tt

  -- ---- docks

  dock_good : (key : DockKey) (v : Unit {0}) (below : ℕ) → fin.get m.docks key ≡ Some v → IsSomeAnd (dock_read (stored_dock s.broken (key, v))) (IsGoodDock s below)
  dock_good key v below found =
      let k = listing.docks key (ap is_some found) in
      some_and (IsGoodDock s below) (dock_read (stored_dock s.broken (key, v))) (k.station, k.dock, set.contains s.broken key)
      (dock_is s m sound listing k.station k.dock key (ap is_some found) k.key_is k.has) k.has

  -- ---- names in further languages

  name_good : (key : NameKey) (name : List ℕ) (below : ℕ) → fin.get s.more_names key ≡ Some name → IsSomeAnd (name_read (stored_name (key, name))) (IsGoodName s below)
  name_good key name below found =
      let it = sound.names.names key name found in
      let here : fin.get s.more_names (name_key it.kind it.id it.language) ≡ Some name = ap (fin.get s.more_names) (sym it.key_is) ∙ found in
      let few = sound.names.few it.kind it.id in
      some_and (IsGoodName s below) (name_read (stored_name (key, name))) (it.kind, it.id, record { language = it.language; name = name }) (name_is s m sound listing key name it)
      (record { set = it.set; named = it.named; further = it.further; room = name_room s it.kind it.id it.language name MOST_FURTHER_NAMES here few })

  -- ---- what was archived

  books_good : (r : Row) → Has (books_rows s.history.archived s.entries.archived s.rentals.archived) r → IsSomeAnd (books_read r) (IsGoodBooks s)
  books_good r has = go (s.history.archived + s.entries.archived + s.rentals.archived == 0) refl has where
    go : (b : Bool) → (s.history.archived + s.entries.archived + s.rentals.archived == 0) ≡ b
        → Has (cond b [] (books_row s.history.archived s.entries.archived s.rentals.archived ∷ [])) r → IsSomeAnd (books_read r) (IsGoodBooks s)
    go true none there = elim there [ ]
    go false some (inl is) =
        some_and (IsGoodBooks s) (books_read r) (s.history.archived, s.entries.archived, s.rentals.archived)
        (ap books_read is ∙ books_reading.full (s.history.archived, s.entries.archived, s.rentals.archived) (books_stored s sound)) (record {
          some_archived = grind (arith, nat_tests, some);
          few_rentals = sound.rentals.few_rentals;
          few_entries = sound.ledger.few_entries;
          conserved = sound.ledger.past.conserved;
        })
    go false some (inr none) = elim none [ ]

  -- ---- all

  pub all_rows_good : AreGoodRows s (tables_for s m)
  all_rows_good Meta row has = meta_good row _ has
  all_rows_good System row has = system_good s.system sound.catalogue.system row has
  all_rows_good Segments row has = segment_good row _ has
  all_rows_good Plans row has =
      map_good texts stored_plan plan_read (IsGoodPlan s) s.plans (λ k v below found low.
      let few = sound.catalogue.few_plans in
      some_and (IsGoodPlan s below) (plan_read (stored_plan (k, v))) (k, record v { segments = [] }) (plan_is s m sound listing k v found) (record { room = omega (arith, low, few) })) row has
  all_rows_good Types row has =
      map_good texts stored_type type_read (IsGoodType s) s.types (λ k v below found low.
      let few = sound.catalogue.few_types in
      some_and (IsGoodType s below) (type_read (stored_type (k, v))) (k, v) (type_is s m sound listing k v found)
      (record { room = omega (arith, low, few); good = sound.catalogue.types k v found })) row has
  all_rows_good Regions row has =
      map_good texts stored_region region_read (IsGoodRegion s) s.regions (λ k v below found low.
      let few = sound.catalogue.few_regions in
      some_and (IsGoodRegion s below) (region_read (stored_region (k, v))) (k, v) (region_is s m sound listing k v found) (record { room = omega (arith, low, few) })) row has
  all_rows_good Stations row has =
      map_good texts (stored_station s) station_read (IsGoodStation s) s.stations (λ k v below found low.
      let few = sound.catalogue.few_stations in
      some_and (IsGoodStation s below) (station_read (stored_station s (k, v)))
      (k, v, pos (docks_available s k v.row.docks), docks_broken s k v.row.docks, by_type_text (types_at s k)) (station_is s m sound listing k v found)
      (record { room = omega (arith, low, few); good = sound.catalogue.stations k v found; free_is = refl; broken_is = refl; by_type_is = refl })) row has
  all_rows_good Docks row has = map_good docks (stored_dock s.broken) dock_read (IsGoodDock s) m.docks (λ k v below found low. dock_good k v below found) row has
  all_rows_good Bikes row has =
      map_good numbers stored_bike bike_read (IsGoodBike (tables_for s m) s) s.bikes (λ k v below found low.
      let few = sound.bikes.few in
      let it = sound.bikes.bikes k v found in
      some_and (IsGoodBike (tables_for s m) s below) (bike_read (stored_bike (k, v))) (k, v) (bike_is s m sound listing k v found) (record {
        room = omega (arith, low, few);
        low = it.low;
        high = it.high;
        type_is = it.type_is;
        placed = place_good k v.type_id v.place it.placed;
        retired = it.retired;
        alone = λ other x station dock less there p q. let same = sound.bikes.apart other k x v station dock there found p q in omega (arith, less, same);
      })) row has
  all_rows_good Trucks row has =
      map_good numbers stored_truck truck_read (IsGoodTruck s) s.trucks (λ k v below found low.
      let few = sound.orders.few_trucks in
      some_and (IsGoodTruck s below) (truck_read (stored_truck (k, v))) (k, v) (truck_is s m sound listing k v found)
      (record { room = omega (arith, low, few); good = sound.orders.trucks k v found })) row has
  all_rows_good Riders row has =
      map_good numbers (stored_rider s.entries.items) rider_read (IsGoodRider s) s.riders (λ k v below found low.
      let few = sound.ledger.few_riders in
      some_and (IsGoodRider s below) (rider_read (stored_rider s.entries.items (k, v))) (k, v, v.before +ℤ balance_of k s.entries.items) (rider_is s m sound listing k v found) (record {
        room = omega (arith, low, few);
        good = sound.ledger.riders k v found;
        balance_is = refl;
        riding_once = λ a b x y. sound.rentals.riding a b x.row y.row x.found y.found x.not_closed y.not_closed (x.rider_is ∙ sym y.rider_is);
      })) row has
  all_rows_good Rentals row has = numbered_good (stored_rental s.entries.items) (λ e. refl) rental_read (IsGoodRental s) s.rentals rental_good row has
  all_rows_good Orders row has =
      numbered_good stored_order (λ e. refl) order_read (IsGoodOrder s) s.orders (λ n o below found place.
      let few = sound.orders.few_orders in
      let all = sound.orders.all_orders in
      let high = number_within n s.orders o found in
      some_and (IsGoodOrder s below) (order_read (stored_order (n, o))) (n, o) (order_is s m sound listing n o found)
      (record { number_is = omega (arith, all, place); room = omega (arith, few, high, place); good = sound.orders.orders n o found })) row has
  all_rows_good Entries row has = numbered_good stored_entry (λ e. refl) entry_read (IsGoodEntry s) s.entries entry_good row has
  all_rows_good History row has = numbered_good stored_request (λ e. refl) request_read (IsGoodRequest s) s.history request_good row has
  all_rows_good MoreNames row has = map_good triples stored_name name_read (IsGoodName s) s.more_names (λ k v below found low. name_good k v below found) row has
  all_rows_good Books row has = books_good row has

  -- ---- what is missing

  meta_there : (key : Row) → row_with 1 key (meta_rows m.since s.past) ≡ None → key ≡ number_value 1 ∷ [] → ⊥
  meta_there key none is =
      let there : row_with 1 (number_value 1 ∷ []) (meta_rows m.since s.past) ≡ Some (meta_row NEWEST m.since s.past.cash s.past.revenue) =
      has_under 1 (meta_rows m.since s.past) (meta_row NEWEST m.since s.past.cash s.past.revenue) (tt, tt) (inl refl) in
      let both : ◌≡◌ {A = Option Row} None (Some (meta_row NEWEST m.since s.past.cash s.past.revenue)) = sym none ∙ ap (λ (k : Row). row_with 1 k (meta_rows m.since s.past)) is ∙ there in
      absurd cc

  pub none_lacking : LacksNone (tables_for s m)
  none_lacking Meta key none = meta_there key none
  none_lacking System key none = tt
  none_lacking Plans key none = tt
  none_lacking Segments key none = tt
  none_lacking Types key none = tt
  none_lacking Regions key none = tt
  none_lacking Stations key none = tt
  none_lacking Docks key none = tt
  none_lacking Bikes key none = tt
  none_lacking Trucks key none = tt
  none_lacking Riders key none = tt
  none_lacking Rentals key none = tt
  none_lacking Orders key none = tt
  none_lacking Entries key none = tt
  none_lacking History key none = tt
  none_lacking MoreNames key none = tt
  none_lacking Books key none = tt
