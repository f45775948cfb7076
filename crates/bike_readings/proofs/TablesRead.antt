-- Tables whose rows are all good are those of the operator that is read off them: table by table.
use Rattle.std.proofs.Common.{◌≡◌, ℕ, ℤ, zero, suc, ◌+◌, List, [], ◌∷◌, Bool, Option, Some, refl, sym, ap, ◌∙◌, subst, arith}
use Rattle.std.specs.Prelude.{option_map, take}
use Rattle.std.specs.FinMap as fin
use Rattle.sqlite_value.specs.Order.{Row}
use Rattle.sqlite_rules.specs.Lists.{Has}
use Rattle.bike_fields.specs.declared.name_kind.NameKind.{NameKind}
use Rattle.bike_fields.specs.NameKinds.{kind_text}
use Rattle.bike_fields.specs.Values.{SegmentRow, IsSegment}
use Rattle.bike_catalogue.specs.Rows.{PlanRow, MoreNameRow, IsPlan}
use Rattle.bike_ledger.specs.Entries.{Entry}
use Rattle.bike_texts.specs.Fields.{AreSegments}
use Rattle.bike_operator.specs.declared.records.Bike.{Bike}
use Rattle.bike_operator.specs.declared.records.Rental.{Rental}
use Rattle.bike_operator.specs.Operator.{Operator, NameKey, DockKey, dock_key, name_key, item_at}
use Rattle.bike_operator.specs.Sound.{IsPlanAt}
use Rattle.bike_book.specs.Tables.{Tables, System, Plans, Segments, Types, Regions, Stations, Docks, Bikes, Trucks, Riders, Rentals, Orders, Entries, History, MoreNames, Books, TableName, keys_of}
use Rattle.bike_book.specs.Stored.{plans_segments, stored_plan, stored_type, stored_region, stored_station, stored_dock, stored_bike, stored_truck, stored_rider, stored_rental, stored_order}
use Rattle.bike_book.specs.Stored.{stored_entry, stored_request, stored_name}
use Rattle.bike_book.proofs.Keys.{numbers, texts, triples, docks, IsTriple, IsDockPair}
use Rattle.bike_readings.specs.Readings.{plan_read, segment_read, type_read, region_read, dock_read, truck_read, rental_read, order_read, entry_read, request_read, name_read}
use Rattle.bike_readings.proofs.CatalogueRows.{plan_reading, segment_reading, type_reading, region_reading, station_reading, dock_reading, name_reading}
use Rattle.bike_readings.proofs.LedgerRows.{rider_reading, rental_reading, entry_reading}
use Rattle.bike_readings.proofs.FleetRows.{bike_reading, truck_reading, order_reading}
use Rattle.bike_readings.proofs.RequestRows.{request_reading}
use Rattle.bike_readings.specs.ReadOff.{with_segments, plan_in, station_in, rider_in, rental_in, entry_in, name_in, dock_in, segments_of, most_segments, operator_of, listed_of, first_of}
use Rattle.bike_readings.specs.ReadOff.{misplaced_bike, bike_in}
use Rattle.bike_readings.specs.Demands.{IsGoodPlan, IsGoodSegment, IsGoodType, IsGoodRegion, IsGoodStation, IsGoodDock, IsGoodBike, IsGoodTruck, IsGoodRider, IsGoodRental, IsGoodOrder, IsGoodEntry}
use Rattle.bike_readings.specs.Demands.{IsGoodRequest, IsGoodName}
use Rattle.bike_readings.specs.Rules.{AreInOrder, rows_below}
use Rattle.bike_readings.proofs.ReadLists.{IsStored, AreRowsOf, read_map}
use Rattle.bike_readings.proofs.Segments.{IsOfPlan, segments_are, item_found, segment_found, few_found}
use Rattle.bike_readings.proofs.Broken.{broken_as}
use Rattle.bike_readings.proofs.RowRules.{some_with, AreGoodRows}
use Rattle.bike_readings.proofs.ReadRows.{mapped, stored_plain, stored_part, AreRowsOfList, read_list, IsSystemOf, system_are, IsBooksOf, books_are}
use Rattle.bike_book.specs.Rows.{dock_row, rental_row, rider_row, station_row}

are_segments : (gs : List SegmentRow) → ((i : ℕ) (g : SegmentRow) → item_at i gs ≡ Some g → IsSegment g) → AreSegments gs
are_segments [] each = tt
are_segments (g ∷ gs) each = (each zero g refl, are_segments gs (λ i x is. each (suc i) x is))

module _ (t : Tables) (up : AreInOrder t) (rows : AreGoodRows (operator_of t) t) where
  abbrev s : Operator
  s = operator_of t

  -- so many rows stand below a row
  abbrev below_of : TableName → Row → ℕ
  below_of name r = rows_below t name (take (keys_of name) r)

  -- ---- the system and the catalogue

  pub system_table : IsSystemOf t.system
  system_table = system_are t.system (up System) (λ r has. rows System r has)

  pub plans_table : AreRowsOf texts stored_plan (λ e. refl) (plan_in t.segments) t.plans s.plans
  plans_table =
      read_map texts stored_plan (λ e. refl) (plan_in t.segments) t.plans (up Plans)
      (λ r has. stored_part plan_reading (with_segments t.segments) stored_plan (IsGoodPlan s (below_of Plans r)) r (rows Plans r has) (λ a is fact. refl))
      (λ r e has is. tt)

  -- a plan that is read off has the segments that stand under it
  pub plan_read_off : (id : List ℕ) (p : PlanRow) → fin.get s.plans id ≡ Some p → IsPlanAt id p × (p.segments ≡ segments_of t.segments id)
  plan_read_off id p found =
      let at = plans_table.found id p found in
      let it = mapped (with_segments t.segments) (plan_read at.item) (id, p) at.read_is in
      let law = (plan_reading.sound at.item it.value it.value_is).1 in
      let gs = segments_of t.segments it.value.0 in
      let plain : IsPlan (record it.value.1 { segments = segments_of t.segments it.value.0 }) =
      record { plan_id = law.0.good.plan_id; name = law.0.good.name; price = law.0.good.price; description = law.0.good.description; segments = few_found t.segments it.value.0 1 most_segments } in
      let each = are_segments gs (λ i g is. (segment_found t.segments it.value.0 (1 + i) g (item_found t.segments it.value.0 1 most_segments i g is)).good.good) in
      let here : IsPlanAt it.value.0 (record it.value.1 { segments = segments_of t.segments it.value.0 }) = record { id_is = law.0.id_is; good = plain; segments = each } in (
        subst (λ (e : List ℕ × PlanRow). IsPlanAt e.0 e.1) it.part_is here,
        ap (λ (e : List ℕ × PlanRow). e.1.segments) (sym it.part_is) ∙ ap (λ (e : List ℕ × PlanRow). segments_of t.segments e.0) it.part_is,
      )

  segment_of_plan : (r : Row) → Has t.segments r → IsOfPlan s.plans t.segments (up Segments) r
  segment_of_plan r has =
      let it = some_with (IsGoodSegment s (below_of Segments r)) (segment_read r) (rows Segments r has) in
      record {
        id = it.value.0;
        seq = it.value.1;
        segment = it.value.2;
        plan = it.fact.plan;
        row_is = (segment_reading.sound r it.value it.value_is).0;
        found = it.fact.found;
        segment_is = it.fact.segment_is;
      }

  pub segments_table : t.segments ≡ plans_segments (fin.entries s.plans)
  segments_table = segments_are s.plans t.segments (up Segments) segment_of_plan (λ id p found. (plan_read_off id p found).1)

  pub types_table : AreRowsOf texts stored_type (λ e. refl) type_read t.types s.types
  types_table =
      read_map texts stored_type (λ e. refl) type_read t.types (up Types) (λ r has. stored_plain type_reading (IsGoodType s (below_of Types r)) r (rows Types r has)) (λ r e has is. tt)

  pub regions_table : AreRowsOf texts stored_region (λ e. refl) region_read t.regions s.regions
  regions_table =
      read_map texts stored_region (λ e. refl) region_read t.regions (up Regions) (λ r has. stored_plain region_reading (IsGoodRegion s (below_of Regions r)) r (rows Regions r has)) (λ r e has is. tt)

  pub stations_table : AreRowsOf texts (stored_station s) (λ e. refl) station_in t.stations s.stations
  stations_table =
      read_map texts (stored_station s) (λ e. refl) station_in t.stations (up Stations)
      (λ r has. stored_part station_reading (λ e. (e.0, e.1)) (stored_station s) (IsGoodStation s (below_of Stations r)) r (rows Stations r has)
      (λ a is fact. let free = fact.free_is in let broken = fact.broken_is in let by_type = fact.by_type_is in λ i. station_row a.0 a.1 (free i) (broken i) (by_type i)))
      (λ r e has is. tt)

  -- ---- docks

  dock_pair : (r : Row) (e : DockKey × Unit {0}) → Has t.docks r → dock_in r ≡ Some e → IsDockPair e.0
  dock_pair r e has is =
      let it = mapped (λ (x : List ℕ × ℕ × Bool). (dock_key x.0 x.1, tt)) (dock_read r) e is in
      record { station = it.value.0; dock = it.value.1; is = ap (λ (x : DockKey × Unit {0}). x.0) (sym it.part_is) }

  pub docks_table : AreRowsOf docks (stored_dock s.broken) (λ e. refl) dock_in t.docks (listed_of t).docks
  docks_table =
      read_map docks (stored_dock s.broken) (λ e. refl) dock_in t.docks (up Docks)
      (λ r has. stored_part dock_reading (λ e. (dock_key e.0 e.1, tt)) (stored_dock s.broken) (IsGoodDock s (below_of Docks r)) r (rows Docks r has)
      (λ a is fact. ap (λ (b : Bool). dock_row a.0 a.1 b) (sym (broken_as t.docks (up Docks) r a.0 a.1 a.2 has is))))
      dock_pair

  -- ---- bicycles, trucks, riders

  -- the bicycle of a good row is the one that it spells
  good_bike : (r : Row) → Has t.bikes r → IsStored bike_in stored_bike r
  good_bike r has =
      let it = stored_plain bike_reading (IsGoodBike t s (below_of Bikes r)) r (rows Bikes r has) in
      record { value = it.value; read_is = ap (λ (o : Option (ℕ × Bike)). first_of o (misplaced_bike r)) it.read_is; store_is = it.store_is }

  pub bikes_table : AreRowsOf numbers stored_bike (λ e. refl) bike_in t.bikes s.bikes
  bikes_table = read_map numbers stored_bike (λ e. refl) bike_in t.bikes (up Bikes) good_bike (λ r e has is. tt)

  pub trucks_table : AreRowsOf numbers stored_truck (λ e. refl) truck_read t.trucks s.trucks
  trucks_table =
      read_map numbers stored_truck (λ e. refl) truck_read t.trucks (up Trucks) (λ r has. stored_plain truck_reading (IsGoodTruck s (below_of Trucks r)) r (rows Trucks r has)) (λ r e has is. tt)

  pub riders_table : AreRowsOf numbers (stored_rider s.entries.items) (λ e. refl) rider_in t.riders s.riders
  riders_table =
      read_map numbers (stored_rider s.entries.items) (λ e. refl) rider_in t.riders (up Riders)
      (λ r has. stored_part rider_reading (λ e. (e.0, e.1)) (stored_rider s.entries.items) (IsGoodRider s (below_of Riders r)) r (rows Riders r has)
      (λ a is fact. ap (λ (z : ℤ). rider_row a.0 a.1 z) fact.balance_is))
      (λ r e has is. tt)

  -- ---- names in further languages

  triple_read : (r : Row) (e : NameKey × List ℕ) → Has t.more_names r → name_in r ≡ Some e → IsTriple e.0
  triple_read r e has is =
      let it = mapped (λ (x : NameKind × List ℕ × MoreNameRow). (name_key x.0 x.1 x.2.language, x.2.name)) (name_read r) e is in
      record { first = kind_text it.value.0; second = it.value.1; third = it.value.2.language; is = ap (λ (x : NameKey × List ℕ). x.0) (sym it.part_is) }

  pub names_table : AreRowsOf triples stored_name (λ e. refl) name_in t.more_names s.more_names
  names_table =
      read_map triples stored_name (λ e. refl) name_in t.more_names (up MoreNames)
      (λ r has. stored_part name_reading (λ e. (name_key e.0 e.1 e.2.language, e.2.name)) stored_name (IsGoodName s (below_of MoreNames r)) r (rows MoreNames r has) (λ a is fact. refl))
      triple_read

  -- ---- rentals, orders, entries, requests

  pub rentals_table : AreRowsOfList (stored_rental s.entries.items) rental_in t.rentals s.rentals
  rentals_table =
      read_list (stored_rental s.entries.items) rental_in t.rentals s.rentals.archived (up Rentals)
      (λ r has. stored_part rental_reading (λ e. (e.0, e.1)) (stored_rental s.entries.items) (IsGoodRental s (below_of Rentals r)) r (rows Rentals r has)
      (λ a is fact. ap (λ (z : ℤ). rental_row a.0 a.1 z) fact.refunded_is))
      (λ r has.
      let it = some_with (IsGoodRental s (below_of Rentals r)) (rental_read r) (rows Rentals r has) in
      (it.value.1, ap (option_map (λ (e : ℕ × Rental × ℤ). (e.0, e.1))) it.value_is ∙ ap (λ (n : ℕ). Some (n, it.value.1)) it.fact.number_is))

  pub orders_table : AreRowsOfList stored_order order_read t.orders s.orders
  orders_table =
      read_list stored_order order_read t.orders 0 (up Orders)
      (λ r has. stored_plain order_reading (IsGoodOrder s (below_of Orders r)) r (rows Orders r has))
      (λ r has.
      let it = some_with (IsGoodOrder s (below_of Orders r)) (order_read r) (rows Orders r has) in
      let number = it.fact.number_is in
      let first : it.value.0 ≡ 0 + below_of Orders r + 1 = omega (arith, number) in
      (it.value.1, it.value_is ∙ ap (λ (n : ℕ). Some (n, it.value.1)) first))

  pub entries_table : AreRowsOfList stored_entry entry_in t.entries s.entries
  entries_table =
      read_list stored_entry entry_in t.entries s.entries.archived (up Entries)
      (λ r has. stored_part entry_reading (λ (e : Entry). (e.number, e)) stored_entry (IsGoodEntry s (below_of Entries r)) r (rows Entries r has) (λ a is fact. refl))
      (λ r has.
      let it = some_with (IsGoodEntry s (below_of Entries r)) (entry_read r) (rows Entries r has) in
      (it.value, ap (option_map (λ (e : Entry). (e.number, e))) it.value_is ∙ ap (λ (n : ℕ). Some (n, it.value)) it.fact.number_is))

  pub requests_table : AreRowsOfList stored_request request_read t.history s.history
  requests_table =
      read_list stored_request request_read t.history s.history.archived (up History)
      (λ r has. stored_plain request_reading (IsGoodRequest s (below_of History r)) r (rows History r has))
      (λ r has.
      let it = some_with (IsGoodRequest s (below_of History r)) (request_read r) (rows History r has) in
      (it.value.1, it.value_is ∙ ap (λ (n : ℕ). Some (n, it.value.1)) it.fact.number_is))

  -- ---- what was archived

  pub books_table : IsBooksOf s t.books
  books_table = books_are s t.books (up Books) (λ r has. rows Books r has)
