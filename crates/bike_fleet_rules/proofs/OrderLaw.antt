-- The verdict on orders, by their lines.
use Rattle.std.proofs.Common.{◌≡◌, ℕ, ℤ, ◌+◌, ◌==◌, ◌&&◌, ◌≤◌, List, [], ◌∷◌, ◌++◌, length, Bool, true, false, not, Option, Some, None, is_some, refl, sym, ap, ◌∙◌, suc, arith}
use Rattle.std.specs.Prelude.{take, nat_lt, nat_le, option_map}
use Rattle.std.specs.Option.{IsSomeAnd}
use Rattle.std.proofs.lemmas.Bool.{eqb-true}
use Rattle.std.proofs.lemmas.Bool.Decides.{nat_tests}
use Rattle.std.proofs.lemmas.Option.{same_Some}
use Rattle.std.specs.FinMap as fin
use Rattle.sqlite_value.specs.declared.value.Value.{Value}
use Rattle.sqlite_value.specs.declared.value.Value.TheVariants.{Text}
use Rattle.sqlite_value.specs.Order.{Row, column}
use Rattle.sqlite_rules.specs.Lists.{Has}
use Rattle.bike_sql.specs.View.{partner}
use Rattle.bike_catalogue.specs.Rows.{TypeRow}
use Rattle.bike_texts.specs.declared.ends.OrderEnd.{OrderEnd}
use Rattle.bike_texts.specs.declared.ends.OrderEnd.TheVariants as end
use Rattle.bike_operator.specs.declared.limits.TheConstants.{MOST_ORDERS}
use Rattle.bike_operator.specs.declared.records.Order.{Order}
use Rattle.bike_operator.specs.Operator.{Operator, Station, Truck}
use Rattle.bike_operator.specs.Counts.{order_load}
use Rattle.bike_operator.specs.Sound.{HasTruck}
use Rattle.bike_operator.specs.Steps.{is_same_end}
use Rattle.bike_operator.specs.View.{has_end}
use Rattle.bike_book.specs.Tables.{Tables, Types, Stations, Trucks, Orders}
use Rattle.bike_book.specs.declared.columns.types.TheConstants as types
use Rattle.bike_book.specs.declared.columns.stations.TheConstants as stations
use Rattle.bike_book.specs.declared.columns.trucks.TheConstants as trucks
use Rattle.bike_book.specs.declared.columns.orders.TheConstants as orders
use Rattle.bike_book.specs.Rows.{end_text, order_row}
use Rattle.bike_readings.specs.Readings.{type_read, station_read, truck_read, order_read}
use Rattle.bike_readings.proofs.FleetRows.{order_reading}
use Rattle.bike_readings.specs.ReadOff.{operator_of}
use Rattle.bike_readings.specs.Rules.{AreInOrder, IsGoodKey}
use Rattle.bike_readings.specs.Demands.{IsGoodOrder}
use Rattle.bike_judges.specs.declared.query.Query.TheVariants as query
use Rattle.bike_judges.specs.Lines.{lines_of, or_nulls, with_two}
use Rattle.bike_judges.specs.Passes.{first_failing, pass, Demands}
use Rattle.bike_judges.specs.Verdicts.{IsTableVerdict}
use Rattle.bike_judges.specs.Least.{least_key}
use Rattle.bike_judges.proofs.LineLaw.{lines_verdict}
use Rattle.bike_judges.proofs.LeastLaw.{least_verdict}
use Rattle.bike_fleet_rules.specs.Loads.{order_begins, order_more, order_good, order_key}
use Rattle.bike_fleet_rules.specs.Tests.{first_key, holds, is_order_named, order_names, is_end_there, are_ends_there, order_ends}
use Rattle.bike_fleet_rules.proofs.Parts.{AreWide, own_part, first_of_line, second_of_line}
use Rattle.bike_fleet_rules.proofs.Lookups.{partner_read, partner_wide, or_nulls_read, truck_partner, type_partner, station_partner}
use Rattle.bike_fleet_rules.proofs.OfRows.{both_true, first_true, second_true, demanded, demands_of, SaysGood, good_key, of_good_key, same_verdict}
use Rattle.bike_fleet_rules.proofs.LoadLaw.{load_test, load_test_is, loads_verdict}

-- ---- lookups

pub known_as : {A B : Type 0} (f : A → B) (o : Option A) (q : Option B) → option_map f o ≡ q → is_some o ≡ is_some q
known_as f None q is = ap is_some is
known_as f (Some x) q is = ap is_some is

not_false : (b : Bool) → b ≡ false → not b ≡ true
not_false b e = ap not e

was_false : (b : Bool) → not b ≡ true → b ≡ false
was_false true e = absurd cc
was_false false e = refl

-- the key of a line is that of its row
pub key_of_line : (row rest : Row) (n : ℕ) → length row ≡ suc n → first_key (row ++ rest) ≡ take 1 row
key_of_line [] rest n wide = absurd (omega (arith, wide))
key_of_line (v ∷ row) rest n wide = refl

module _ (t : Tables) (up : AreInOrder t) (wide : AreWide t) where
  abbrev s : Operator
  s = operator_of t

  -- ---- lines

  abbrev pub names_line : Row → Row
  names_line row = with_two trucks.COLUMNS types.COLUMNS row (partner 1 (column row 1 ∷ []) t.trucks) (partner 1 (column row 4 ∷ []) t.types)

  abbrev pub ends_line : Row → Row
  ends_line row = with_two stations.COLUMNS stations.COLUMNS row (partner 1 (column row 2 ∷ []) t.stations) (partner 1 (column row 3 ∷ []) t.stations)

  abbrev truck_of : Row → Option (ℕ × Truck)
  truck_of row = partner_read truck_read t.trucks (column row 1)

  abbrev kind_of : Row → Option (List ℕ × TypeRow)
  kind_of row = partner_read type_read t.types (column row 4)

  abbrev station_of : ℕ → Row → Option (List ℕ × Station × ℤ × ℕ × List ℕ)
  station_of at row = partner_read station_read t.stations (column row at)

  names_is : (n : ℕ) (row : Row) → Has t.orders row → order_names n (names_line row) ≡ is_order_named n (order_read row) (truck_of row) (kind_of row)
  unfolding order_names
  names_is n row has =
      let p = partner 1 (column row 1 ∷ []) t.trucks in
      let q = partner 1 (column row 4 ∷ []) t.types in
      let row_wide = wide Orders row has in
      let p_wide = partner_wide truck_read t.trucks trucks.COLUMNS (column row 1) (wide Trucks) in
      let q_wide = partner_wide type_read t.types types.COLUMNS (column row 4) (wide Types) in
      let own = own_part orders.COLUMNS row (or_nulls trucks.COLUMNS p ++ or_nulls types.COLUMNS q) row_wide in
      let truck = ap truck_read (first_of_line orders.COLUMNS trucks.COLUMNS types.COLUMNS row p q row_wide p_wide q_wide) ∙ or_nulls_read truck_read t.trucks trucks.COLUMNS p refl in
      let kind = ap type_read (second_of_line orders.COLUMNS trucks.COLUMNS types.COLUMNS row p q row_wide p_wide q_wide) ∙ or_nulls_read type_read t.types types.COLUMNS q refl in
      λ i. is_order_named n (order_read (own i)) (truck i) (kind i)

  ends_is : (n : ℕ) (row : Row) → Has t.orders row → order_ends n (ends_line row) ≡ are_ends_there (order_read row) (station_of 2 row) (station_of 3 row)
  unfolding order_ends
  ends_is n row has =
      let p = partner 1 (column row 2 ∷ []) t.stations in
      let q = partner 1 (column row 3 ∷ []) t.stations in
      let row_wide = wide Orders row has in
      let p_wide = partner_wide station_read t.stations stations.COLUMNS (column row 2) (wide Stations) in
      let q_wide = partner_wide station_read t.stations stations.COLUMNS (column row 3) (wide Stations) in
      let own = own_part orders.COLUMNS row (or_nulls stations.COLUMNS p ++ or_nulls stations.COLUMNS q) row_wide in
      let from = ap station_read (first_of_line orders.COLUMNS stations.COLUMNS stations.COLUMNS row p q row_wide p_wide q_wide) ∙ or_nulls_read station_read t.stations stations.COLUMNS p refl in
      let to = ap station_read (second_of_line orders.COLUMNS stations.COLUMNS stations.COLUMNS row p q row_wide p_wide q_wide) ∙ or_nulls_read station_read t.stations stations.COLUMNS q refl in
      λ i. are_ends_there (order_read (own i)) (from i) (to i)

  -- ---- what partners tell

  truck_held : (o : Option (ℕ × Truck)) (truck count : ℕ) → option_map (λ e. e.1) o ≡ fin.get s.trucks truck → holds count o ≡ true → HasTruck s truck count
  truck_held None truck count is enough = absurd cc
  truck_held (Some x) truck count is enough = record { row = x.1; found = sym is; enough = grind (arith, nat_tests, enough) }

  held_truck : (o : Option (ℕ × Truck)) (truck count : ℕ) → option_map (λ e. e.1) o ≡ fin.get s.trucks truck → HasTruck s truck count → holds count o ≡ true
  held_truck None truck count is it = absurd (let both : ◌≡◌ {A = Option Truck} None (Some it.row) = is ∙ it.found in cc)
  held_truck (Some x) truck count is it =
      let same : x.1 ≡ it.row = same_Some x.1 it.row (is ∙ it.found) in
      let capacity : x.1.capacity ≡ it.row.capacity = ap (λ (y : Truck). y.capacity) same in
      let enough = it.enough in
      let fits : count ≤ x.1.capacity = omega (arith, capacity, enough) in
      grind (arith, nat_tests, fits)

  end_is : (e : OrderEnd) (v : Value) → v ≡ Text (end_text e) → is_end_there e (partner_read station_read t.stations v) ≡ has_end s e
  end_is end.Depot v is = refl
  end_is (end.Station id) v is = known_as (λ (e : List ℕ × Station × ℤ × ℕ × List ℕ). e.1) (partner_read station_read t.stations v) (fin.get s.stations id) (station_partner t up v id is)

  -- ---- what is demanded

  abbrev IsGoodLine : ℕ → Row → Type 0
  IsGoodLine n row = (order_names n (names_line row) ≡ true) × (order_ends n (ends_line row) ≡ true) × (load_test t up wide n row ≡ true)

  module _ (n : ℕ) (row : Row) (has : Has t.orders row) (x : ℕ × Order) (is : order_read row ≡ Some x) where
    row_is : row ≡ order_row x.0 x.1
    row_is = (order_reading.sound row x is).0

    truck_found : option_map (λ e. e.1) (truck_of row) ≡ fin.get s.trucks x.1.truck
    truck_found = truck_partner t up (column row 1) x.1.truck (ap (λ (r : Row). column r 1) row_is)

    kind_found : is_some (kind_of row) ≡ fin.contains_key s.types x.1.type_id
    kind_found =
        known_as (λ (e : List ℕ × TypeRow). e.1) (kind_of row) (fin.get s.types x.1.type_id) (type_partner t up (column row 4) x.1.type_id (ap (λ (r : Row). column r 4) row_is))

    from_found : is_end_there x.1.from_end (station_of 2 row) ≡ has_end s x.1.from_end
    from_found = end_is x.1.from_end (column row 2) (ap (λ (r : Row). column r 2) row_is)

    to_found : is_end_there x.1.to_end (station_of 3 row) ≡ has_end s x.1.to_end
    to_found = end_is x.1.to_end (column row 3) (ap (λ (r : Row). column r 3) row_is)

    names_some : order_names n (names_line row) ≡ (x.0 == n + 1) && (nat_lt n MOST_ORDERS && (holds x.1.count (truck_of row) && fin.contains_key s.types x.1.type_id))
    names_some =
        names_is n row has ∙ (λ i. is_order_named n (is i) (truck_of row) (kind_of row))
        ∙ ap (λ (b : Bool). (x.0 == n + 1) && (nat_lt n MOST_ORDERS && (holds x.1.count (truck_of row) && b))) kind_found

    ends_some : order_ends n (ends_line row) ≡ has_end s x.1.from_end && (has_end s x.1.to_end && not (is_same_end x.1.from_end x.1.to_end))
    ends_some =
        ends_is n row has ∙ (λ i. are_ends_there (is i) (station_of 2 row) (station_of 3 row))
        ∙ (λ i. from_found i && (to_found i && not (is_same_end x.1.from_end x.1.to_end)))

    abbrev number : Bool
    number = x.0 == n + 1

    abbrev room : Bool
    room = nat_lt n MOST_ORDERS

    abbrev truck_holds : Bool
    truck_holds = holds x.1.count (truck_of row)

    abbrev has_type : Bool
    has_type = fin.contains_key s.types x.1.type_id

    abbrev apart : Bool
    apart = not (is_same_end x.1.from_end x.1.to_end)

    order_good_of : IsGoodLine n row → IsGoodOrder s n x
    order_good_of it =
        let names = sym names_some ∙ it.0 in
        let behind = second_true number (room && (truck_holds && has_type)) names in
        let last = second_true room (truck_holds && has_type) behind in
        let ends = sym ends_some ∙ it.1 in
        let later = second_true (has_end s x.1.from_end) (has_end s x.1.to_end && apart) ends in
        let fits = sym (load_test_is t up wide n row x has is) ∙ it.2 in
        let bounds = (order_reading.sound row x is).1 in
        let below = first_true room (truck_holds && has_type) behind in
        record {
          number_is = eqb-true x.0 (n + 1) (first_true number (room && (truck_holds && has_type)) names);
          room = grind (arith, nat_tests, below);
          good = record {
            truck_is = truck_held (truck_of row) x.1.truck x.1.count truck_found (first_true truck_holds has_type last);
            some = bounds.count.0;
            from_is = first_true (has_end s x.1.from_end) (has_end s x.1.to_end && apart) ends;
            to_is = first_true (has_end s x.1.to_end) apart later;
            ends = was_false (is_same_end x.1.from_end x.1.to_end) (second_true (has_end s x.1.to_end) apart later);
            type_is = second_true truck_holds has_type last;
            filled = grind (arith, nat_tests, fits);
          };
        }

    order_line_of : IsGoodOrder s n x → IsGoodLine n row
    order_line_of good =
        let number_is = good.number_is in
        let below = good.room in
        let filled = good.good.filled in
        let names : number && (room && (truck_holds && has_type)) ≡ true =
        both_true number (room && (truck_holds && has_type)) (grind (arith, nat_tests, number_is))
        (both_true room (truck_holds && has_type) (grind (arith, nat_tests, below))
        (both_true truck_holds has_type (held_truck (truck_of row) x.1.truck x.1.count truck_found good.good.truck_is) good.good.type_is)) in
        let ends : has_end s x.1.from_end && (has_end s x.1.to_end && apart) ≡ true =
        both_true (has_end s x.1.from_end) (has_end s x.1.to_end && apart) good.good.from_is
        (both_true (has_end s x.1.to_end) apart good.good.to_is (not_false (is_same_end x.1.from_end x.1.to_end) good.good.ends)) in
        let fits : nat_le (x.1.delivered + order_load s x.0) x.1.count ≡ true = grind (arith, nat_tests, filled) in
        (names_some ∙ names, ends_some ∙ ends, load_test_is t up wide n row x has is ∙ fits)

  says : SaysGood t Orders IsGoodLine
  says = record {
    good = λ n row has it. go_good n row has it (order_read row) refl;
    says = λ n row has good. go_says n row has (order_read row) refl good;
  }
    where
      go_good : (n : ℕ) (row : Row) → Has t.orders row → IsGoodLine n row → (o : Option (ℕ × Order)) → order_read row ≡ o → IsSomeAnd o (IsGoodOrder s n)
      go_good n row has it None e = absurd (let fails : false ≡ true = sym (names_is n row has ∙ (λ i. is_order_named n (e i) (truck_of row) (kind_of row))) ∙ it.0 in cc)
      go_good n row has it (Some x) e = order_good_of n row has x e it

      go_says : (n : ℕ) (row : Row) → Has t.orders row → (o : Option (ℕ × Order)) → order_read row ≡ o → IsSomeAnd o (IsGoodOrder s n) → IsGoodLine n row
      go_says n row has None e good = absurd good
      go_says n row has (Some x) e good = order_line_of n row has x e good

  -- ---- THE VERDICT on orders

  abbrev names_test : ℕ → Row → Bool
  names_test n row = order_names n (names_line row)

  abbrev ends_test : ℕ → Row → Bool
  ends_test n row = order_ends n (ends_line row)

  pub orders_verdict : (a b c : Option Row) → first_failing order_names first_key 0 (lines_of query.OrderNames t) ≡ a → first_failing order_ends first_key 0 (lines_of query.OrderEnds t) ≡ b
      → pass order_begins order_more order_good order_key (take 1) None 0 (lines_of query.OrderBikes t) ≡ c → IsTableVerdict t Orders (least_key (least_key a b) c)
  orders_verdict a b c named ended loaded =
      let names = lines_verdict t Orders up names_line order_names first_key (λ row has. key_of_line row _ 7 (wide Orders row has)) a named in
      let ends = lines_verdict t Orders up ends_line order_ends first_key (λ row has. key_of_line row _ 7 (wide Orders row has)) b ended in
      let loads = loads_verdict t up wide c loaded in
      let two = least_verdict t Orders (Demands t Orders names_test) (Demands t Orders ends_test) a b names ends in
      let three = least_verdict t Orders (λ key. Demands t Orders names_test key × Demands t Orders ends_test key) (Demands t Orders (load_test t up wide)) (least_key a b) c two loads in
      same_verdict t Orders (λ key. (Demands t Orders names_test key × Demands t Orders ends_test key) × Demands t Orders (load_test t up wide) key) (IsGoodKey t Orders)
      (λ key it. good_key t Orders IsGoodLine says (λ k. tt) key (λ row is. (
        demanded t Orders names_test key it.0.0 row is,
        demanded t Orders ends_test key it.0.1 row is,
        demanded t Orders
            (load_test t up wide) key it.1 row is,
      )))
      (λ key good.
      let each = of_good_key t Orders IsGoodLine says (λ k. tt) key good in (
        (demands_of t Orders names_test key (λ row is. (each row is).0), demands_of t Orders ends_test key (λ row is. (each row is).1)),
        demands_of t Orders (load_test t up wide) key
            (λ row is. (each row is).2),
      ))
      (least_key (least_key a b) c) three
