-- The verdict on what was brought of orders, by their lines.
use Rattle.std.proofs.Common.{◌≡◌, ℕ, ◌+◌, List, map, Bool, Option, Some, None, refl, ap, ◌∙◌}
use Rattle.std.specs.Prelude.{take, nat_le}
use Rattle.sqlite_value.specs.declared.value.Value.{Value}
use Rattle.sqlite_value.specs.Order.{Row, column}
use Rattle.sqlite_rules.specs.Lists.{Has}
use Rattle.bike_operator.specs.declared.records.Order.{Order}
use Rattle.bike_operator.specs.Operator.{Operator}
use Rattle.bike_operator.specs.Counts.{is_for_order, order_load}
use Rattle.bike_book.specs.Tables.{Tables, Orders, Bikes}
use Rattle.bike_book.specs.Rows.{number_value}
use Rattle.bike_readings.specs.Readings.{order_read}
use Rattle.bike_readings.proofs.FleetRows.{order_reading}
use Rattle.bike_readings.specs.ReadOff.{operator_of}
use Rattle.bike_readings.specs.Rules.{AreInOrder}
use Rattle.bike_judges.specs.declared.query.Query.TheVariants as query
use Rattle.bike_judges.specs.Lines.{lines_of, nulls, order_line, order_bike_line}
use Rattle.bike_judges.specs.Passes.{pass, is_good_with, Demands}
use Rattle.bike_judges.specs.Verdicts.{IsFirstFailing}
use Rattle.bike_judges.proofs.StretchLaw.{HasOneKey, AreAccounts, AreItems, merged_verdict}
use Rattle.bike_judges.proofs.ApartLines.{numbered_owned}
use Rattle.bike_fleet_rules.specs.Loads.{order_opened, order_begins, order_more, order_good, order_key}
use Rattle.bike_fleet_rules.specs.declared.orders.OrderAccount.{OrderAccount}
use Rattle.bike_fleet_rules.proofs.Parts.{AreWide, begins_with_one, own_part}
use Rattle.bike_fleet_rules.proofs.Apart.{lines_apart}
use Rattle.bike_fleet_rules.proofs.LoadAccounts.{load_accounts}
use Rattle.bike_fleet_rules.proofs.LoadLemmas.{order_fold, order_loaded}

abbrev owner : OrderAccount → Value
owner a = number_value a.order

-- ---- accounts

accounts : AreAccounts order_begins order_more order_good order_key owner 0
accounts =
    load_accounts (λ a. a.order) is_for_order (λ a. record a { load = a.load + 1 }) (λ a. refl) 7 0
    order_read (λ row x is. ap (λ (r : Row). column r 0) (order_reading.sound row x is).0) order_opened (λ x. record { order = x.0; count = x.1.count; load = x.1.delivered }) refl (λ x. refl)
    (λ x. refl) order_good

items : AreItems order_begins order_more order_good order_key owner order_bike_line
items = record { item = λ row. refl; place = λ row. (0, refl) }

-- ---- what is demanded

module _ (t : Tables) (up : AreInOrder t) (wide : AreWide t) where
  abbrev s : Operator
  s = operator_of t

  abbrev own : List Row
  own = map order_bike_line t.bikes

  abbrev pub load_test : ℕ → Row → Bool
  load_test n row = is_good_with order_begins order_more order_good order_key (take 1) own n (order_begins (order_line row))

  abbrev OfSpelled : ℕ → Option (ℕ × Order) → Bool
  OfSpelled n o = is_good_with order_begins order_more order_good order_key (take 1) own n (order_opened o)

  spelled : (n : ℕ) (row : Row) → Has t.orders row → load_test n row ≡ OfSpelled n (order_read row)
  spelled n row has = ap (λ (r : Row). OfSpelled n (order_read r)) (own_part 8 row (nulls 0) (wide Orders row has))

  -- the order's own bicycles fit
  pub load_test_is : (n : ℕ) (row : Row) (x : ℕ × Order) → Has t.orders row → order_read row ≡ Some x → load_test n row ≡ nat_le (x.1.delivered + order_load s x.0) x.1.count
  load_test_is n row x has is =
      spelled n row has ∙ ap (OfSpelled n) is ∙ ap (order_good n) (order_fold own (record { order = x.0; count = x.1.count; load = x.1.delivered }))
      ∙ ap (λ (k : ℕ). nat_le (x.1.delivered + k) x.1.count) (order_loaded t up (wide Bikes) x.0)

  -- the verdict on what was brought
  pub loads_verdict : (verdict : Option Row) → pass order_begins order_more order_good order_key (take 1) None 0 (lines_of query.OrderBikes t) ≡ verdict
      → IsFirstFailing t Orders (Demands t Orders load_test) verdict
  loads_verdict verdict is =
      merged_verdict order_begins order_more order_good order_key owner t Orders up one 0 accounts order_bike_line t.bikes items
      (numbered_owned (λ row. column row 7) 1 0 t.bikes (up Bikes) (λ row has. begins_with_one row 7 (wide Bikes row has)))
      (lines_apart 0 0 (λ row. column row 7) 0 t.orders t.bikes (up Orders) (up Bikes) (λ row has. begins_with_one row 7 (wide Orders row has)) (λ row has. begins_with_one row 7 (wide Bikes row has)))
      verdict is
    where
      one : HasOneKey t Orders
      one = record { one = refl; first = λ row has. begins_with_one row 7 (wide Orders row has) }
