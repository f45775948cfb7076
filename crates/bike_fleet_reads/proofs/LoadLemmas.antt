-- How many bicycles are on a truck for an order: in a sound operator all are on the order's own truck.
use Rattle.std.proofs.Common.{◌≡◌, ◌==◌, ◌+◌, ◌⊎◌, inl, inr, ℕ, pos, List, [], ◌∷◌, length, map, filter, cond, Bool, true, false, ◌&&◌, Some, refl, sym, ap, ap₂, ◌∙◌}
use Rattle.std.specs.FinMap as fin
use Rattle.std.specs.List.{count_by}
use Rattle.std.specs.Ordering.{int_eq, is_eq}
use Rattle.std.specs.Cmp.{unsigned_tied}
use Rattle.std.proofs.lemmas.Bool.{eqb-true}
use Rattle.std.proofs.lemmas.Bool.Decides.{Decides-eqb, Decides-int_eq, eqb_tells}
use Rattle.std.proofs.lemmas.List.Sums.{sum_by-cons}
use Rattle.sqlite_value.specs.Order.{Row, column, row_cmp, value_cmp}
use Rattle.sqlite_value.proofs.OrderLemmas.{value_cmp-Null, then-Equal}
use Rattle.sqlite_rules.specs.Lists.{Has}
use Rattle.bike_sql.proofs.PageLaw.{filter_filter}
use Rattle.bike_sql.proofs.RangeLaw.{filter_has_same}
use Rattle.bike_operator.specs.declared.records.Place.{Place}
use Rattle.bike_operator.specs.declared.records.Place.TheVariants as place
use Rattle.bike_operator.specs.declared.records.Bike.{Bike}
use Rattle.bike_operator.specs.declared.records.Order.{Order}
use Rattle.bike_operator.specs.Operator.{Operator, item_numbered}
use Rattle.bike_operator.specs.Counts.{count, is_on_truck, is_for_order, order_load}
use Rattle.bike_operator.specs.Sound.{IsSound, IsPlace}
use Rattle.bike_laws.specs.SingleSteps.Laws.{one}
use Rattle.bike_laws.proofs.SingleSteps.CountLemmas.{count-cons}
use Rattle.bike_laws.proofs.SingleSteps.MapLemmas.{number_order}
use Rattle.bike_book.specs.Tables.{Bikes}
use Rattle.bike_book.specs.Rows.{number_value, bike_row}
use Rattle.bike_book.specs.Stored.{Listed, stored_bike}
use Rattle.bike_book.specs.Found.{rows_by}
use Rattle.bike_book.proofs.Keys.{value_cmp-number_value}
use Rattle.bike_book.proofs.MapRows.{has_get}
use Rattle.bike_fleet_reads.specs.Holds.{is_for, order_column}

same_numbers : (m n : ℕ) → int_eq (pos m) (pos n) ≡ (m == n)
same_numbers m n = by (eqb_tells m n) (int_eq (pos m) (pos n)) refl where
  by : ((m == n) ≡ true) × (m ≡ n) ⊎ ((m == n) ≡ false) × (m ≡ n → ⊥) → (b : Bool) → int_eq (pos m) (pos n) ≡ b → b ≡ (m == n)
  by (inl same) b is = sym is ∙ (Decides-int_eq (pos m) (pos n)).1 (ap pos same.1) ∙ sym same.0
  by (inr other) true is = let e : pos m ≡ pos n = (Decides-int_eq (pos m) (pos n)).0 is in absurd (other.1 (cc))
  by (inr other) false is = sym other.0

-- the column of the order tells whether the bicycle is on a truck for the order
for_order : (order bike : ℕ) (b : Bike) (p : Place) → is_for order (order_column (bike_row bike (record b { place = p }))) ≡ is_for_order order p
for_order order bike b (place.Dock at dock) = refl
for_order order bike b (place.Rental rental) = refl
for_order order bike b (place.Truck on for) = same_numbers for order
for_order order bike b place.Depot = refl

-- and that of the truck whether it is on the truck
on_truck : (truck bike : ℕ) (b : Bike) (p : Place) → is_eq (row_cmp (map (column (bike_row bike (record b { place = p }))) (6 ∷ [])) (number_value truck ∷ [])) ≡ is_on_truck truck p
on_truck truck bike b (place.Dock at dock) = rw (value_cmp-Null (number_value truck)) refl
on_truck truck bike b (place.Rental rental) = rw (value_cmp-Null (number_value truck)) refl
on_truck truck bike b (place.Truck on for) = ap is_eq (then-Equal (value_cmp (number_value on) (number_value truck)) ∙ value_cmp-number_value on truck) ∙ unsigned_tied on truck
on_truck truck bike b place.Depot = rw (value_cmp-Null (number_value truck)) refl

-- the rows that pass are those of the bicycles that pass
rows_passing : (pass : Row → Bool) (test : ℕ × Bike → Bool) → ((e : ℕ × Bike) → pass (stored_bike e) ≡ test e) → (es : List (ℕ × Bike))
    → filter pass (map stored_bike es) ≡ map stored_bike (filter test es)
rows_passing pass test same [] = refl
rows_passing pass test same (e ∷ es) = rw (same e) (go (test e) (rows_passing pass test same es))
  where
    go : (b : Bool) → filter pass (map stored_bike es) ≡ map stored_bike (filter test es)
        → cond b (stored_bike e ∷ filter pass (map stored_bike es)) (filter pass (map stored_bike es)) ≡ map stored_bike (cond b (e ∷ filter test es) (filter test es))
    go true rest = ap (λ (rows : List Row). stored_bike e ∷ rows) rest
    go false rest = rest

-- so many bicycles are for the order as rows of these hold it
orders_counted : (order : ℕ) (es : List (ℕ × Bike)) → count_by (is_for order) (map order_column (map stored_bike es)) ≡ count (λ e. is_for_order order e.1.place) es
orders_counted order [] = refl
orders_counted order (e ∷ es) =
    let first : cond (is_for order (order_column (stored_bike e))) 1 0 ≡ one (is_for_order order e.1.place) = ap one (for_order order e.0 e.1 e.1.place) in
    sum_by-cons (λ row. cond (is_for order row) 1 0) (order_column (stored_bike e)) (map order_column (map stored_bike es))
    ∙ ap₂ (λ (a b : ℕ). a + b) first (orders_counted order es)
    ∙ sym (count-cons (λ (e : ℕ × Bike). is_for_order order e.1.place) e es)

module _ (s : Operator) (sound : IsSound s) (order : ℕ) where
  -- an order that has a bicycle on a truck is there, and the truck is its own
  carried : (bike : ℕ) (type_id : List ℕ) (p : Place) → IsPlace s bike type_id p → is_for_order order p ≡ true
      → (row : Order) × (item_numbered order s.orders ≡ Some row) × (is_on_truck row.truck p ≡ true)
  carried bike type_id (place.Dock at dock) it for_it = absurd (cc)
  carried bike type_id (place.Rental rental) it for_it = absurd (cc)
  carried bike type_id (place.Truck truck for) it for_it =
      (it.row, ap (λ n. item_numbered n s.orders) (sym (eqb-true for order for_it)) ∙ it.found, (Decides-eqb truck it.row.truck).1 (sym it.truck_is))
  carried bike type_id place.Depot it for_it = absurd (cc)

  carried_by : (e : ℕ × Bike) → Has (fin.entries s.bikes) e → is_for_order order e.1.place ≡ true → (row : Order) × (item_numbered order s.orders ≡ Some row) × (is_on_truck row.truck e.1.place ≡ true)
  carried_by e has for_it = carried e.0 e.1.type_id e.1.place (sound.bikes.bikes e.0 e.1 (has_get number_order.total s.bikes e has)).placed for_it

  -- Of the orders that the rows of the order's truck hold, so many are the order.
  pub load_counted : (m : Listed) (row : Order) → item_numbered order s.orders ≡ Some row
      → count_by (is_for order) (map order_column (rows_by s m Bikes (6 ∷ []) (number_value row.truck ∷ []))) ≡ order_load s order
  load_counted m row found =
      ap (λ (rows : List Row). count_by (is_for order) (map order_column rows))
      (rows_passing _ (λ e. is_on_truck row.truck e.1.place) (λ e. on_truck row.truck e.0 e.1 e.1.place) (fin.entries s.bikes))
      ∙ orders_counted order (filter (λ e. is_on_truck row.truck e.1.place) (fin.entries s.bikes))
      ∙ ap length (sym (filter_filter (λ e. is_for_order order e.1.place) (λ e. is_on_truck row.truck e.1.place) (fin.entries s.bikes)))
      ∙ ap length (filter_has_same _ (λ e. is_for_order order e.1.place) (fin.entries s.bikes) (λ e has. by e has (is_for_order order e.1.place) refl))
    where
      and_false : (b : Bool) → (b && false) ≡ false
      and_false true = refl
      and_false false = refl

      by : (e : ℕ × Bike) → Has (fin.entries s.bikes) e → (b : Bool) → is_for_order order e.1.place ≡ b
          → (is_on_truck row.truck e.1.place && is_for_order order e.1.place) ≡ is_for_order order e.1.place
      by e has false is = ap (λ b. is_on_truck row.truck e.1.place && b) is ∙ and_false (is_on_truck row.truck e.1.place) ∙ sym is
      by e has true is =
          let it = carried_by e has is in
          let same : it.0 ≡ row = let there = it.1 in cc in
          let on : is_on_truck row.truck e.1.place ≡ true = ap (λ (o : Order). is_on_truck o.truck e.1.place) (sym same) ∙ it.2 in
          ap (λ b. b && is_for_order order e.1.place) on
