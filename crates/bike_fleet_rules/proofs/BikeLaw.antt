-- What is demanded of a bicycle's row by itself, by its lines.
use Rattle.std.proofs.Common.{◌≡◌, ℕ, ℤ, ◌==◌, ◌&&◌, ◌||◌, ◌<◌, ◌≤◌, List, [], ◌∷◌, ◌++◌, Bool, true, false, not, Option, Some, None, is_some, refl, sym, ap, ◌∙◌, arith}
use Rattle.std.specs.Prelude.{nat_lt, option_map}
use Rattle.std.specs.Str.{bytes_eq}
use Rattle.std.proofs.lemmas.Bool.{eqb-true}
use Rattle.std.proofs.lemmas.Bool.Decides.{nat_tests}
use Rattle.std.proofs.lemmas.Option.{same_Some}
use Rattle.std.proofs.lemmas.Slice.Eq.{bytes_eq-Decides}
use Rattle.std.specs.FinMap as fin
use Rattle.sqlite_value.specs.Order.{Row, column}
use Rattle.sqlite_rules.specs.Lists.{Has}
use Rattle.bike_sql.specs.View.{partner}
use Rattle.bike_catalogue.specs.Rows.{TypeRow}
use Rattle.bike_operator.specs.declared.limits.TheConstants.{MOST_BIKES}
use Rattle.bike_operator.specs.declared.records.Place.{Place}
use Rattle.bike_operator.specs.declared.records.Place.TheVariants as place
use Rattle.bike_operator.specs.declared.records.Bike.{Bike}
use Rattle.bike_operator.specs.declared.records.Rental.{Rental}
use Rattle.bike_operator.specs.declared.records.Order.{Order}
use Rattle.bike_operator.specs.Operator.{Operator, Station, Truck}
use Rattle.bike_operator.specs.Counts.{is_open, is_retired, is_depot}
use Rattle.bike_operator.specs.Sound.{HasDock}
use Rattle.bike_book.specs.Tables.{Tables, Types, Stations, Bikes, Trucks, Rentals, Orders}
use Rattle.bike_book.specs.declared.columns.types.TheConstants as types
use Rattle.bike_book.specs.declared.columns.stations.TheConstants as stations
use Rattle.bike_book.specs.declared.columns.bikes.TheConstants as bikes
use Rattle.bike_book.specs.declared.columns.trucks.TheConstants as trucks
use Rattle.bike_book.specs.declared.columns.rentals.TheConstants as rentals
use Rattle.bike_book.specs.declared.columns.orders.TheConstants as orders
use Rattle.bike_book.specs.Rows.{number_value}
use Rattle.bike_readings.specs.Readings.{type_read, station_read, bike_read, truck_read, rental_read, order_read}
use Rattle.bike_readings.specs.Bounds.{IsStoredPlace}
use Rattle.bike_readings.proofs.FleetRows.{bike_reading}
use Rattle.bike_readings.specs.ReadOff.{rental_at, order_at, operator_of}
use Rattle.bike_readings.specs.Rules.{AreInOrder}
use Rattle.bike_readings.specs.Demands.{IsInRental, IsForOrder, IsGoodPlace}
use Rattle.bike_judges.specs.Lines.{or_nulls, with_one, with_two}
use Rattle.bike_fleet_rules.specs.Tests.{has_dock, is_dock_there, is_where_retired, is_bike_named, bike_names, is_ridden, is_carried, is_used, is_bike_used, bike_uses, is_truck_there, is_bike_borne}
use Rattle.bike_fleet_rules.specs.Tests.{bike_trucks}
use Rattle.bike_fleet_rules.proofs.Parts.{AreWide, own_part, last_part, or_nulls_wide, first_of_line, second_of_line}
use Rattle.bike_fleet_rules.proofs.Lookups.{partner_read, partner_wide, or_nulls_read, type_partner, station_partner, truck_partner, rental_partner, order_partner}
use Rattle.bike_fleet_rules.proofs.OfRows.{both_true, first_true, second_true}
use Rattle.bike_fleet_rules.proofs.OrderLaw.{known_as}
use Rattle.bike_fleet_rules.proofs.CountedRows.{counted_read, counted_is, HasPlace}

-- ---- retired bicycles

in_depot : (p : Place) → is_depot p ≡ true → p ≡ place.Depot
in_depot (place.Dock station dock) e = absurd cc
in_depot (place.Rental rental) e = absurd cc
in_depot (place.Truck truck order) e = absurd cc
in_depot place.Depot e = refl

retired_is : (b : Bool) (p : Place) → not b || is_depot p ≡ true → b ≡ true → p ≡ place.Depot
retired_is true p e is = in_depot p e
retired_is false p e is = absurd cc

is_retired_where : (b : Bool) (p : Place) → (b ≡ true → p ≡ place.Depot) → not b || is_depot p ≡ true
is_retired_where true p where_is = ap is_depot (where_is refl)
is_retired_where false p where_is = refl

module _ (t : Tables) (up : AreInOrder t) (wide : AreWide t) where
  abbrev s : Operator
  s = operator_of t

  -- ---- lines

  abbrev pub names_line : Row → Row
  names_line row = with_two types.COLUMNS stations.COLUMNS row (partner 1 (column row 1 ∷ []) t.types) (partner 1 (column row 3 ∷ []) t.stations)

  abbrev pub uses_line : Row → Row
  uses_line row = with_two rentals.COLUMNS orders.COLUMNS row (partner 1 (column row 5 ∷ []) t.rentals) (partner 1 (column row 7 ∷ []) t.orders)

  abbrev pub trucks_line : Row → Row
  trucks_line row = with_one trucks.COLUMNS row (partner 1 (column row 6 ∷ []) t.trucks)

  abbrev kind_of : Row → Option (List ℕ × TypeRow)
  kind_of row = partner_read type_read t.types (column row 1)

  abbrev station_of : Row → Option (List ℕ × Station × ℤ × ℕ × List ℕ)
  station_of row = partner_read station_read t.stations (column row 3)

  abbrev rental_of : Row → Option (ℕ × Rental × ℤ)
  rental_of row = partner_read rental_read t.rentals (column row 5)

  abbrev order_of : Row → Option (ℕ × Order)
  order_of row = partner_read order_read t.orders (column row 7)

  abbrev truck_of : Row → Option (ℕ × Truck)
  truck_of row = partner_read truck_read t.trucks (column row 6)

  names_is : (n : ℕ) (row : Row) → Has t.bikes row → bike_names n (names_line row) ≡ is_bike_named n (bike_read row) (kind_of row) (station_of row)
  unfolding bike_names
  names_is n row has =
      let p = partner 1 (column row 1 ∷ []) t.types in
      let q = partner 1 (column row 3 ∷ []) t.stations in
      let row_wide = wide Bikes row has in
      let p_wide = partner_wide type_read t.types types.COLUMNS (column row 1) (wide Types) in
      let q_wide = partner_wide station_read t.stations stations.COLUMNS (column row 3) (wide Stations) in
      let own = own_part bikes.COLUMNS row (or_nulls types.COLUMNS p ++ or_nulls stations.COLUMNS q) row_wide in
      let kind = ap type_read (first_of_line bikes.COLUMNS types.COLUMNS stations.COLUMNS row p q row_wide p_wide q_wide) ∙ or_nulls_read type_read t.types types.COLUMNS p refl in
      let station = ap station_read (second_of_line bikes.COLUMNS types.COLUMNS stations.COLUMNS row p q row_wide p_wide q_wide) ∙ or_nulls_read station_read t.stations stations.COLUMNS q refl in
      λ i. is_bike_named n (bike_read (own i)) (kind i) (station i)

  uses_is : (n : ℕ) (row : Row) → Has t.bikes row → bike_uses n (uses_line row) ≡ is_bike_used (bike_read row) (rental_of row) (order_of row)
  unfolding bike_uses
  uses_is n row has =
      let p = partner 1 (column row 5 ∷ []) t.rentals in
      let q = partner 1 (column row 7 ∷ []) t.orders in
      let row_wide = wide Bikes row has in
      let p_wide = partner_wide rental_read t.rentals rentals.COLUMNS (column row 5) (wide Rentals) in
      let q_wide = partner_wide order_read t.orders orders.COLUMNS (column row 7) (wide Orders) in
      let own = own_part bikes.COLUMNS row (or_nulls rentals.COLUMNS p ++ or_nulls orders.COLUMNS q) row_wide in
      let rental = ap rental_read (first_of_line bikes.COLUMNS rentals.COLUMNS orders.COLUMNS row p q row_wide p_wide q_wide) ∙ or_nulls_read rental_read t.rentals rentals.COLUMNS p refl in
      let order = ap order_read (second_of_line bikes.COLUMNS rentals.COLUMNS orders.COLUMNS row p q row_wide p_wide q_wide) ∙ or_nulls_read order_read t.orders orders.COLUMNS q refl in
      λ i. is_bike_used (bike_read (own i)) (rental i) (order i)

  trucks_is : (n : ℕ) (row : Row) → Has t.bikes row → bike_trucks n (trucks_line row) ≡ is_bike_borne (bike_read row) (truck_of row)
  unfolding bike_trucks
  trucks_is n row has =
      let p = partner 1 (column row 6 ∷ []) t.trucks in
      let row_wide = wide Bikes row has in
      let p_wide = or_nulls_wide trucks.COLUMNS p (partner_wide truck_read t.trucks trucks.COLUMNS (column row 6) (wide Trucks)) in
      let own = own_part bikes.COLUMNS row (or_nulls trucks.COLUMNS p) row_wide in
      let truck = ap truck_read (last_part bikes.COLUMNS trucks.COLUMNS row (or_nulls trucks.COLUMNS p) row_wide p_wide) ∙ or_nulls_read truck_read t.trucks trucks.COLUMNS p refl in
      λ i. is_bike_borne (bike_read (own i)) (truck i)

  -- ---- what partners tell

  dock_held : (o : Option (List ℕ × Station × ℤ × ℕ × List ℕ)) (station : List ℕ) (dock : ℕ) → option_map (λ e. e.1) o ≡ fin.get s.stations station → 1 ≤ dock → has_dock dock o ≡ true
      → HasDock s station dock
  dock_held None station dock is low fits = absurd cc
  dock_held (Some x) station dock is low fits = record { row = x.1; found = sym is; low = low; high = grind (arith, nat_tests, fits) }

  held_dock : (o : Option (List ℕ × Station × ℤ × ℕ × List ℕ)) (station : List ℕ) (dock : ℕ) → option_map (λ e. e.1) o ≡ fin.get s.stations station → HasDock s station dock → has_dock dock o ≡ true
  held_dock None station dock is it = absurd (let both : ◌≡◌ {A = Option Station} None (Some it.row) = is ∙ it.found in cc)
  held_dock (Some x) station dock is it =
      let docks : x.1.row.docks ≡ it.row.row.docks = ap (λ (y : Station). y.row.docks) (same_Some x.1 it.row (is ∙ it.found)) in
      let high = it.high in
      let fits : dock ≤ x.1.row.docks = omega (arith, docks, high) in
      grind (arith, nat_tests, fits)

  ridden : (o : Option (ℕ × Rental × ℤ)) (bike rental : ℕ) → option_map (λ e. e.1) o ≡ rental_at t rental → is_ridden bike o ≡ true → IsInRental t s bike rental
  ridden None bike rental is own = absurd cc
  ridden (Some x) bike rental is own =
      record { row = x.1; found = sym is; not_closed = first_true (is_open x.1) (x.1.bike == bike) own; bike_is = eqb-true x.1.bike bike (second_true (is_open x.1) (x.1.bike == bike) own) }

  is_ridden_in : (o : Option (ℕ × Rental × ℤ)) (bike rental : ℕ) → option_map (λ e. e.1) o ≡ rental_at t rental → IsInRental t s bike rental → is_ridden bike o ≡ true
  is_ridden_in None bike rental is it = absurd (let both : ◌≡◌ {A = Option Rental} None (Some it.row) = is ∙ it.found in cc)
  is_ridden_in (Some x) bike rental is it =
      let same : x.1 ≡ it.row = same_Some x.1 it.row (is ∙ it.found) in
      let own : x.1.bike ≡ bike = ap (λ (r : Rental). r.bike) same ∙ it.bike_is in
      both_true (is_open x.1) (x.1.bike == bike) (ap is_open same ∙ it.not_closed) (grind (arith, nat_tests, own))

  carried : (o : Option (ℕ × Order)) (type_id : List ℕ) (truck order : ℕ) → option_map (λ e. e.1) o ≡ order_at t order → is_carried type_id truck o ≡ true → fin.contains_key s.trucks truck ≡ true
      → IsForOrder t s type_id truck order
  carried None type_id truck order is own there = absurd cc
  carried (Some x) type_id truck order is own there =
      let later = second_true x.1.is_open ((x.1.truck == truck) && bytes_eq x.1.type_id type_id) own in
      record {
        row = x.1;
        found = sym is;
        not_closed = first_true x.1.is_open ((x.1.truck == truck) && bytes_eq x.1.type_id type_id) own;
        truck_is = eqb-true x.1.truck truck (first_true (x.1.truck == truck) (bytes_eq x.1.type_id type_id) later);
        truck_there = there;
        type_is = (bytes_eq-Decides x.1.type_id type_id).0 (second_true (x.1.truck == truck) (bytes_eq x.1.type_id type_id) later);
      }

  is_carried_for : (o : Option (ℕ × Order)) (type_id : List ℕ) (truck order : ℕ) → option_map (λ e. e.1) o ≡ order_at t order → IsForOrder t s type_id truck order → is_carried type_id truck o ≡ true
  is_carried_for None type_id truck order is it = absurd (let both : ◌≡◌ {A = Option Order} None (Some it.row) = is ∙ it.found in cc)
  is_carried_for (Some x) type_id truck order is it =
      let same : x.1 ≡ it.row = same_Some x.1 it.row (is ∙ it.found) in
      let own : x.1.truck ≡ truck = ap (λ (o : Order). o.truck) same ∙ it.truck_is in
      both_true x.1.is_open ((x.1.truck == truck) && bytes_eq x.1.type_id type_id) (ap (λ (o : Order). o.is_open) same ∙ it.not_closed)
      (both_true (x.1.truck == truck) (bytes_eq x.1.type_id type_id) (grind (arith, nat_tests, own)) ((bytes_eq-Decides x.1.type_id type_id).1 (ap (λ (o : Order). o.type_id) same ∙ it.type_is)))

  -- ---- places

  module _ (row : Row) (bike : ℕ) (type_id : List ℕ) where
    -- the tests of the place
    pub record ArePlaceTests (p : Place) : Type 0 where
      pub dock : is_dock_there p (station_of row) ≡ true
      pub used : is_used bike type_id p (rental_of row) (order_of row) ≡ true
      pub truck : is_truck_there p (truck_of row) ≡ true

    truck_found : (truck : ℕ) → column row 6 ≡ number_value truck → is_some (truck_of row) ≡ fin.contains_key s.trucks truck
    truck_found truck is = known_as (λ (e : ℕ × Truck). e.1) (truck_of row) (fin.get s.trucks truck) (truck_partner t up (column row 6) truck is)

    place_of_tests : (p : Place) → HasPlace row p → IsStoredPlace p → ArePlaceTests p → IsGoodPlace t s bike type_id p
    place_of_tests (place.Dock station dock) has good tests = dock_held (station_of row) station dock (station_partner t up (column row 3) station has.0) good.good_dock.0 tests.dock
    place_of_tests (place.Rental rental) has good tests = ridden (rental_of row) bike rental (rental_partner t up (column row 5) rental has) tests.used
    place_of_tests (place.Truck truck order) has good tests =
        carried (order_of row) type_id truck order (order_partner t up (column row 7) order has.order_is) tests.used (sym (truck_found truck has.truck_is) ∙ tests.truck)
    place_of_tests place.Depot has good tests = tt

    tests_of_place : (p : Place) → HasPlace row p → IsGoodPlace t s bike type_id p → ArePlaceTests p
    tests_of_place (place.Dock station dock) has good =
        record { dock = held_dock (station_of row) station dock (station_partner t up (column row 3) station has.0) good; used = refl; truck = refl }
    tests_of_place (place.Rental rental) has good =
        record { dock = refl; used = is_ridden_in (rental_of row) bike rental (rental_partner t up (column row 5) rental has) good; truck = refl }
    tests_of_place (place.Truck truck order) has good =
        record {
          dock = refl;
          used = is_carried_for (order_of row) type_id truck order (order_partner t up (column row 7) order has.order_is) good;
          truck = truck_found truck has.truck_is ∙ good.truck_there;
        }
    tests_of_place place.Depot has good = record { dock = refl; used = refl; truck = refl }

  -- ---- what is demanded of the row by itself

  -- the tests of its lines
  pub record AreTests (n : ℕ) (row : Row) : Type 0 where
    pub named : bike_names n (names_line row) ≡ true
    pub used : bike_uses n (uses_line row) ≡ true
    pub borne : bike_trucks n (trucks_line row) ≡ true

  -- all but that the bicycle is alone in its dock
  pub record IsGoodAlone (n : ℕ) (x : ℕ × Bike) : Type 0 where
    pub room : n < MOST_BIKES
    pub low : 1 ≤ x.0
    pub high : x.0 ≤ 999999
    pub type_is : fin.contains_key s.types x.1.type_id ≡ true
    pub placed : IsGoodPlace t s x.0 x.1.type_id x.1.place
    pub retired : is_retired x.1.state ≡ true → x.1.place ≡ place.Depot

  module _ (n : ℕ) (row : Row) (has : Has t.bikes row) (x : ℕ × Bike) (is : bike_read row ≡ Some x) where
    has_place : HasPlace row x.1.place
    has_place = (counted_is row x (counted_read row x is)).placed

    kind_found : is_some (kind_of row) ≡ fin.contains_key s.types x.1.type_id
    kind_found = known_as (λ (e : List ℕ × TypeRow). e.1) (kind_of row) (fin.get s.types x.1.type_id) (type_partner t up (column row 1) x.1.type_id (counted_is row x (counted_read row x is)).type_is)

    abbrev room : Bool
    room = nat_lt n MOST_BIKES

    abbrev has_type : Bool
    has_type = fin.contains_key s.types x.1.type_id

    abbrev dock_there : Bool
    dock_there = is_dock_there x.1.place (station_of row)

    abbrev where_retired : Bool
    where_retired = is_where_retired x.1.state x.1.place

    abbrev used : Bool
    used = is_used x.0 x.1.type_id x.1.place (rental_of row) (order_of row)

    abbrev truck_there : Bool
    truck_there = is_truck_there x.1.place (truck_of row)

    names_some : bike_names n (names_line row) ≡ room && (has_type && (dock_there && where_retired))
    names_some =
        names_is n row has ∙ (λ i. is_bike_named n (is i) (kind_of row) (station_of row)) ∙ ap (λ (b : Bool). room && (b && (dock_there && where_retired))) kind_found

    uses_some : bike_uses n (uses_line row) ≡ used
    uses_some = uses_is n row has ∙ (λ i. is_bike_used (is i) (rental_of row) (order_of row))

    trucks_some : bike_trucks n (trucks_line row) ≡ truck_there
    trucks_some = trucks_is n row has ∙ (λ i. is_bike_borne (is i) (truck_of row))

    pub good_of_tests : AreTests n row → IsGoodAlone n x
    good_of_tests it =
        let names = sym names_some ∙ it.named in
        let behind = second_true room (has_type && (dock_there && where_retired)) names in
        let last = second_true has_type (dock_there && where_retired) behind in
        let below = first_true room (has_type && (dock_there && where_retired)) names in
        let bounds = (bike_reading.sound row x is).1 in
        record {
          room = grind (arith, nat_tests, below);
          low = bounds.good_number.0;
          high = bounds.good_number.1;
          type_is = first_true has_type (dock_there && where_retired) behind;
          placed = place_of_tests row x.0 x.1.type_id x.1.place has_place bounds.place
              (record { dock = first_true dock_there where_retired last; used = sym uses_some ∙ it.used; truck = sym trucks_some ∙ it.borne });
          retired = retired_is (is_retired x.1.state) x.1.place (second_true dock_there where_retired last);
        }

    pub tests_of_good : IsGoodAlone n x → AreTests n row
    tests_of_good good =
        let tests = tests_of_place row x.0 x.1.type_id x.1.place has_place good.placed in
        let below = good.room in
        let names : room && (has_type && (dock_there && where_retired)) ≡ true =
        both_true room (has_type && (dock_there && where_retired)) (grind (arith, nat_tests, below))
        (both_true has_type (dock_there && where_retired) good.type_is
        (both_true dock_there where_retired tests.dock (is_retired_where (is_retired x.1.state) x.1.place good.retired))) in
        record { named = names_some ∙ names; used = uses_some ∙ tests.used; borne = trucks_some ∙ tests.truck }

  -- a row that spells nothing fails
  pub unread_fails : (n : ℕ) (row : Row) → Has t.bikes row → bike_read row ≡ None → bike_names n (names_line row) ≡ true → ⊥
  unread_fails n row has e named = let fails : false ≡ true = sym (names_is n row has ∙ (λ i. is_bike_named n (e i) (kind_of row) (station_of row))) ∙ named in cc
