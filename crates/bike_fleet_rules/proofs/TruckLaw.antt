-- The verdict on trucks, by their lines.
use Rattle.std.proofs.Common.{◌≡◌, ℕ, ◌+◌, ◌&&◌, List, map, Bool, true, Option, Some, None, refl, sym, ap, ◌∙◌, arith}
use Rattle.std.specs.Prelude.{take, nat_lt, nat_le}
use Rattle.std.specs.Option.{IsSomeAnd}
use Rattle.std.proofs.lemmas.Bool.Decides.{nat_tests}
use Rattle.sqlite_value.specs.declared.value.Value.{Value}
use Rattle.sqlite_value.specs.Order.{Row, column}
use Rattle.sqlite_rules.specs.Lists.{Has}
use Rattle.bike_operator.specs.declared.limits.TheConstants.{MOST_TRUCKS}
use Rattle.bike_operator.specs.Operator.{Operator, Truck}
use Rattle.bike_operator.specs.Counts.{is_on_truck, truck_load, count}
use Rattle.bike_book.specs.Tables.{Tables, Trucks, Bikes}
use Rattle.bike_book.specs.Rows.{number_value}
use Rattle.bike_readings.specs.Readings.{truck_read}
use Rattle.bike_readings.proofs.FleetRows.{truck_reading}
use Rattle.bike_readings.specs.ReadOff.{operator_of}
use Rattle.bike_readings.specs.Rules.{AreInOrder, IsGoodKey}
use Rattle.bike_readings.specs.Demands.{IsGoodTruck}
use Rattle.bike_judges.specs.declared.query.Query.TheVariants as query
use Rattle.bike_judges.specs.Lines.{lines_of, nulls, truck_line, truck_bike_line}
use Rattle.bike_judges.specs.Passes.{pass, is_good_with, Demands}
use Rattle.bike_judges.specs.Verdicts.{IsTableVerdict}
use Rattle.bike_judges.proofs.StretchLaw.{HasOneKey, AreAccounts, AreItems, merged_verdict}
use Rattle.bike_judges.proofs.ApartLines.{numbered_owned}
use Rattle.bike_fleet_rules.specs.Loads.{loads, truck_opened, truck_begins, truck_more, truck_good, truck_key}
use Rattle.bike_fleet_rules.specs.declared.trucks.TruckAccount.{TruckAccount}
use Rattle.bike_fleet_rules.proofs.Parts.{AreWide, begins_with_one, own_part}
use Rattle.bike_fleet_rules.proofs.Apart.{lines_apart}
use Rattle.bike_fleet_rules.proofs.LoadAccounts.{load_accounts}
use Rattle.bike_fleet_rules.proofs.OfRows.{both_true, first_true, second_true, demanded, demands_of, SaysGood, good_key, of_good_key, same_verdict}
use Rattle.bike_fleet_rules.proofs.LoadLemmas.{truck_fold, truck_loaded}

abbrev owner : TruckAccount → Value
owner a = number_value a.truck

-- ---- accounts

accounts : AreAccounts truck_begins truck_more truck_good truck_key owner 6
accounts =
    load_accounts (λ a. a.truck) is_on_truck (λ a. record a { load = a.load + 1 }) (λ a. refl) 1 6
    truck_read (λ row x is. ap (λ (r : Row). column r 0) (truck_reading.sound row x is).0) truck_opened (λ x. record { truck = x.0; capacity = x.1.capacity; load = 0 }) refl (λ x. refl)
    (λ x. refl) truck_good

items : AreItems truck_begins truck_more truck_good truck_key owner truck_bike_line
items = record { item = λ row. refl; place = λ row. (0, refl) }

-- ---- what is demanded

module _ (t : Tables) (up : AreInOrder t) (wide : AreWide t) where
  abbrev s : Operator
  s = operator_of t

  abbrev own : List Row
  own = map truck_bike_line t.bikes

  abbrev test : ℕ → Row → Bool
  test n row = is_good_with truck_begins truck_more truck_good truck_key (take 1) own n (truck_begins (truck_line row))

  abbrev OfSpelled : ℕ → Option (ℕ × Truck) → Bool
  OfSpelled n o = is_good_with truck_begins truck_more truck_good truck_key (take 1) own n (truck_opened o)

  spelled : (n : ℕ) (row : Row) → Has t.trucks row → test n row ≡ OfSpelled n (truck_read row)
  spelled n row has = ap (λ (r : Row). OfSpelled n (truck_read r)) (own_part 2 row (nulls 6) (wide Trucks row has))

  loaded : (n : ℕ) (x : ℕ × Truck) → OfSpelled n (Some x) ≡ nat_lt n MOST_TRUCKS && nat_le (truck_load s x.0) x.1.capacity
  loaded n x =
      let load : 0 + count (loads (is_on_truck x.0) x.0) own ≡ truck_load s x.0 = let is = truck_loaded t up (wide Bikes) x.0 in omega (arith, is) in
      ap (truck_good n) (truck_fold own (record { truck = x.0; capacity = x.1.capacity; load = 0 })) ∙ ap (λ (k : ℕ). nat_lt n MOST_TRUCKS && nat_le k x.1.capacity) load

  says : SaysGood t Trucks (λ n row. test n row ≡ true)
  says = record {
    good = λ n row has passes. go_good n row (truck_read row) refl (sym (spelled n row has) ∙ passes);
    says = λ n row has good. spelled n row has ∙ go_says n (truck_read row) good;
  }
    where
      go_good : (n : ℕ) (row : Row) (o : Option (ℕ × Truck)) → truck_read row ≡ o → OfSpelled n o ≡ true → IsSomeAnd o (IsGoodTruck s n)
      go_good n row None e passes = absurd cc
      go_good n row (Some x) e passes =
          let both = sym (loaded n x) ∙ passes in
          let room = first_true (nat_lt n MOST_TRUCKS) (nat_le (truck_load s x.0) x.1.capacity) both in
          let holds = second_true (nat_lt n MOST_TRUCKS) (nat_le (truck_load s x.0) x.1.capacity) both in
          let bounds = (truck_reading.sound row x e).1 in
          record {
            room = grind (arith, nat_tests, room);
            good = record {
              low = bounds.good_number.0;
              high = bounds.good_number.1;
              some = bounds.capacity.0;
              most = bounds.capacity.1;
              holds = grind (arith, nat_tests, holds);
            };
          }

      go_says : (n : ℕ) (o : Option (ℕ × Truck)) → IsSomeAnd o (IsGoodTruck s n) → OfSpelled n o ≡ true
      go_says n None good = absurd good
      go_says n (Some x) good =
          let room = good.room in
          let holds = good.good.holds in
          loaded n x ∙ both_true (nat_lt n MOST_TRUCKS) (nat_le (truck_load s x.0) x.1.capacity) (grind (arith, nat_tests, room)) (grind (arith, nat_tests, holds))

  -- THE VERDICT on trucks
  pub trucks_verdict : (verdict : Option Row) → pass truck_begins truck_more truck_good truck_key (take 1) None 0 (lines_of query.Trucks t) ≡ verdict → IsTableVerdict t Trucks verdict
  trucks_verdict verdict is =
      same_verdict t Trucks (Demands t Trucks test) (IsGoodKey t Trucks)
      (λ key demands. good_key t Trucks (λ n row. test n row ≡ true) says (λ k. tt) key (demanded t Trucks test key demands))
      (λ key good. demands_of t Trucks test key (of_good_key t Trucks (λ n row. test n row ≡ true) says (λ k. tt) key good)) verdict
      (merged_verdict truck_begins truck_more truck_good truck_key owner t Trucks up one 6 accounts truck_bike_line t.bikes items
      (numbered_owned (λ row. column row 6) 1 0 t.bikes (up Bikes) (λ row has. begins_with_one row 7 (wide Bikes row has)))
      (lines_apart 0 0 (λ row. column row 6) 6 t.trucks t.bikes (up Trucks) (up Bikes) (λ row has. begins_with_one row 1 (wide Trucks row has)) (λ row has. begins_with_one row 7 (wide Bikes row has)))
      verdict is)
    where
      one : HasOneKey t Trucks
      one = record { one = refl; first = λ row has. begins_with_one row 1 (wide Trucks row has) }
