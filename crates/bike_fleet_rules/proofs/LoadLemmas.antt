-- What is added to a truck, and to an order, comes to its load in the operator.
use Rattle.std.proofs.Common.{◌≡◌, inl, inr, ℕ, ◌+◌, ◌≤◌, ◌==◌, ◌&&◌, List, [], ◌∷◌, ◌++◌, length, map, fold, Bool, true, false, cond, Option, Some, None, refl, sym, ap, ◌∙◌, arith}
use Rattle.std.specs.Prelude.{take}
use Rattle.std.specs.List.{filter_map, cons_option}
use Rattle.std.specs.declared.cmp.Ordering.TheVariants.{Equal}
use Rattle.std.proofs.lemmas.Bool.{eqb-true}
use Rattle.std.proofs.lemmas.Cmp.{tied_itself}
use Rattle.std.proofs.lemmas.List.{append-nil}
use Rattle.std.proofs.Math.Seq.{take-length}
use Rattle.std.specs.FinMap as fin
use Rattle.sqlite_value.specs.declared.value.Value.{Value}
use Rattle.sqlite_value.specs.Order.{Row, column, value_cmp}
use Rattle.sqlite_value.proofs.OrderLemmas.{value_cmp_total}
use Rattle.sqlite_rules.specs.Lists.{Has}
use Rattle.bike_operator.specs.declared.records.Place.{Place}
use Rattle.bike_operator.specs.declared.records.Place.TheVariants as place
use Rattle.bike_operator.specs.declared.records.Bike.{Bike}
use Rattle.bike_operator.specs.Counts.{count, is_on_truck, is_for_order, truck_load, order_load}
use Rattle.bike_operator.specs.Operator.{Operator}
use Rattle.bike_book.specs.Tables.{Tables}
use Rattle.bike_laws.proofs.SingleSteps.CountLemmas.{count-cons, one}
use Rattle.bike_book.specs.Rows.{number_value}
use Rattle.bike_readings.specs.ColumnReaders.{serial_in}
use Rattle.bike_readings.proofs.ColumnLaws.{number_column}
use Rattle.bike_readings.specs.ReadOff.{bike_in, operator_of}
use Rattle.bike_readings.specs.Rules.{AreInOrder}
use Rattle.bike_judges.specs.Lines.{part, truck_bike_line, order_bike_line}
use Rattle.bike_fleet_rules.specs.Counted.{counted_in}
use Rattle.bike_fleet_rules.specs.Loads.{is_of, is_number, is_placed, loads, truck_more, order_more}
use Rattle.bike_fleet_rules.specs.declared.trucks.TruckAccount.{TruckAccount}
use Rattle.bike_fleet_rules.specs.declared.orders.OrderAccount.{OrderAccount}
use Rattle.bike_fleet_rules.proofs.CountedRows.{counted_is, HasPlace}
use Rattle.bike_fleet_rules.proofs.Lookups.{bikes_read}

-- ---- an owner's lines

none_of : (b : Bool) → b && false ≡ false
none_of true = refl
none_of false = refl

-- a line of another owner adds nothing
pub loads_own : (test : Place → Bool) (owner : ℕ) (line : Row) → (value_cmp (column line 0) (number_value owner) ≡ Equal → ⊥) → loads test owner line ≡ false
loads_own test owner line apart = go (serial_in (column line 0)) refl (is_placed test (counted_in (part 3 8 line))) where
  other : (m : ℕ) → serial_in (column line 0) ≡ Some m → (b : Bool) → (m == owner) ≡ b → (p : Bool) → b && p ≡ false
  other m e true tie p =
      let value : column line 0 ≡ number_value m = ((number_column 1 100000000).sound (column line 0) m e).0 in
      let same : column line 0 ≡ number_value owner = value ∙ ap number_value (eqb-true m owner tie) in
      absurd (apart (ap (λ (v : Value). value_cmp v (number_value owner)) same ∙ tied_itself value_cmp_total (number_value owner)))
  other m e false tie p = refl

  go : (o : Option ℕ) → serial_in (column line 0) ≡ o → (p : Bool) → is_number owner o && p ≡ false
  go None e p = refl
  go (Some m) e p = other m e (m == owner) refl p

-- ---- what is counted

counts_same : {A : Type 0} (p q : A → Bool) (xs : List A) → ((x : A) → Has xs x → p x ≡ q x) → count p xs ≡ count q xs
counts_same p q [] same = refl
counts_same p q (x ∷ xs) same =
    let c = count-cons p x xs in
    let d = count-cons q x xs in
    let e : one (p x) ≡ one (q x) = ap one (same x (inl refl)) in
    let rest = counts_same p q xs (λ y h. same y (inr h)) in
    omega (arith, c, d, e, rest)

count_map : {A B : Type 0} (p : B → Bool) (f : A → B) (xs : List A) → count p (map f xs) ≡ count (λ x. p (f x)) xs
count_map p f [] = refl
count_map p f (x ∷ xs) =
    let c = count-cons p (f x) (map f xs) in
    let d = count-cons (λ y. p (f y)) x xs in
    let rest = count_map p f xs in
    omega (arith, c, d, rest)

-- the bicycles that rows spell, at such places
count_read : (test : Place → Bool) (rows : List Row) → count (λ row. is_placed test (bike_in row)) rows ≡ count (λ (e : ℕ × Bike). test e.1.place) (filter_map bike_in rows)
count_read test [] = refl
count_read test (r ∷ rows) = let c = count-cons (λ row. is_placed test (bike_in row)) r rows in go (bike_in r) c (count_read test rows) where
  go : (o : Option (ℕ × Bike)) → count (λ row. is_placed test (bike_in row)) (r ∷ rows) ≡ one (is_placed test o) + count (λ row. is_placed test (bike_in row)) rows
      → count (λ row. is_placed test (bike_in row)) rows ≡ count (λ (e : ℕ × Bike). test e.1.place) (filter_map bike_in rows)
      → count (λ row. is_placed test (bike_in row)) (r ∷ rows) ≡ count (λ (e : ℕ × Bike). test e.1.place) (cons_option o (filter_map bike_in rows))
  go None c rest = omega (arith, c, rest)
  go (Some e) c rest = let d = count-cons (λ (x : ℕ × Bike). test x.1.place) e (filter_map bike_in rows) in omega (arith, c, d, rest)

-- ---- the lines of bicycles

same_row : (row : Row) → length row ≡ 8 → take 8 (row ++ []) ≡ row
same_row row wide = ap (take 8) (append-nil row) ∙ ap (λ (n : ℕ). take n row) (sym wide) ∙ take-length row

serial_back : (n : ℕ) → 1 ≤ n → n ≤ 100000000 → serial_in (number_value n) ≡ Some n
serial_back n low high = (number_column 1 100000000).full n (low, high)

both_same : (b : Bool) → b && b ≡ b
both_same true = refl
both_same false = refl

read_same : (n owner : ℕ) (v : Value) → v ≡ number_value n → 1 ≤ n → n ≤ 100000000 → is_number owner (serial_in v) && (n == owner) ≡ (n == owner)
read_same n owner v is low high = ap (λ (o : Option ℕ). is_number owner o && (n == owner)) (ap serial_in is ∙ serial_back n low high) ∙ both_same (n == owner)

on_truck : (truck : ℕ) (row : Row) (p : Place) → HasPlace row p → is_of truck (truck_bike_line row) && is_on_truck truck p ≡ is_on_truck truck p
on_truck truck row (place.Dock station dock) has = none_of (is_of truck (truck_bike_line row))
on_truck truck row (place.Rental rental) has = none_of (is_of truck (truck_bike_line row))
on_truck truck row (place.Truck n for) has = read_same n truck (column row 6) has.truck_is has.good_truck.0 (let high = has.good_truck.1 in omega (arith, high))
on_truck truck row place.Depot has = none_of (is_of truck (truck_bike_line row))

for_order : (order : ℕ) (row : Row) (p : Place) → HasPlace row p → is_of order (order_bike_line row) && is_for_order order p ≡ is_for_order order p
for_order order row (place.Dock station dock) has = none_of (is_of order (order_bike_line row))
for_order order row (place.Rental rental) has = none_of (is_of order (order_bike_line row))
for_order order row (place.Truck n for) has = read_same for order (column row 7) has.order_is has.good_order.0 has.good_order.1
for_order order row place.Depot has = none_of (is_of order (order_bike_line row))

-- a line adds to its owner where the bicycle is there
module _ (test : Place → Bool) (owner : ℕ) (row : Row) (owned : Bool) (its : (p : Place) → HasPlace row p → owned && test p ≡ test p) where
  placed_own : owned && is_placed test (bike_in row) ≡ is_placed test (bike_in row)
  placed_own = go (bike_in row) refl where
    go : (o : Option (ℕ × Bike)) → bike_in row ≡ o → owned && is_placed test o ≡ is_placed test o
    go None e = none_of owned
    go (Some b) e = its b.1.place (counted_is row b e).placed

truck_line_loads : (truck : ℕ) (row : Row) → length row ≡ 8 → loads (is_on_truck truck) truck (truck_bike_line row) ≡ is_placed (is_on_truck truck) (bike_in row)
unfolding counted_in
truck_line_loads truck row wide =
    ap (λ (r : Row). is_of truck (truck_bike_line row) && is_placed (is_on_truck truck) (bike_in r)) (same_row row wide)
    ∙ placed_own (is_on_truck truck) truck row (is_of truck (truck_bike_line row)) (on_truck truck row)

order_line_loads : (order : ℕ) (row : Row) → length row ≡ 8 → loads (is_for_order order) order (order_bike_line row) ≡ is_placed (is_for_order order) (bike_in row)
unfolding counted_in
order_line_loads order row wide =
    ap (λ (r : Row). is_of order (order_bike_line row) && is_placed (is_for_order order) (bike_in r)) (same_row row wide)
    ∙ placed_own (is_for_order order) order row (is_of order (order_bike_line row)) (for_order order row)

-- ---- what all lines add

pub truck_fold : (xs : List Row) (a : TruckAccount) → fold truck_more a xs ≡ record a { load = a.load + count (loads (is_on_truck a.truck) a.truck) xs }
truck_fold [] a = ap (λ (n : ℕ). record a { load = n }) (omega arith)
truck_fold (x ∷ xs) a = let c = count-cons (loads (is_on_truck a.truck) a.truck) x xs in go (loads (is_on_truck a.truck) a.truck x) c (truck_fold xs) where
  go : (b : Bool) → count (loads (is_on_truck a.truck) a.truck) (x ∷ xs) ≡ one b + count (loads (is_on_truck a.truck) a.truck) xs
      → ((c : TruckAccount) → fold truck_more c xs ≡ record c { load = c.load + count (loads (is_on_truck c.truck) c.truck) xs })
      → fold truck_more (cond b (record a { load = a.load + 1 }) a) xs ≡ record a { load = a.load + count (loads (is_on_truck a.truck) a.truck) (x ∷ xs) }
  go true c later = later (record a { load = a.load + 1 }) ∙ ap (λ (n : ℕ). record a { load = n }) (omega (arith, c))
  go false c later = later a ∙ ap (λ (n : ℕ). record a { load = n }) (omega (arith, c))

pub order_fold : (xs : List Row) (a : OrderAccount) → fold order_more a xs ≡ record a { load = a.load + count (loads (is_for_order a.order) a.order) xs }
order_fold [] a = ap (λ (n : ℕ). record a { load = n }) (omega arith)
order_fold (x ∷ xs) a = let c = count-cons (loads (is_for_order a.order) a.order) x xs in go (loads (is_for_order a.order) a.order x) c (order_fold xs) where
  go : (b : Bool) → count (loads (is_for_order a.order) a.order) (x ∷ xs) ≡ one b + count (loads (is_for_order a.order) a.order) xs
      → ((c : OrderAccount) → fold order_more c xs ≡ record c { load = c.load + count (loads (is_for_order c.order) c.order) xs })
      → fold order_more (cond b (record a { load = a.load + 1 }) a) xs ≡ record a { load = a.load + count (loads (is_for_order a.order) a.order) (x ∷ xs) }
  go true c later = later (record a { load = a.load + 1 }) ∙ ap (λ (n : ℕ). record a { load = n }) (omega (arith, c))
  go false c later = later a ∙ ap (λ (n : ℕ). record a { load = n }) (omega (arith, c))

-- ---- the loads of an operator

module _ (t : Tables) (up : AreInOrder t) (wide : (row : Row) → Has t.bikes row → length row ≡ 8) where
  abbrev s : Operator
  s = operator_of t

  lines_load : (test : Place → Bool) (p : Row → Bool) (line : Row → Row) → ((row : Row) → Has t.bikes row → p (line row) ≡ is_placed test (bike_in row))
      → count p (map line t.bikes) ≡ count (λ (e : ℕ × Bike). test e.1.place) (fin.entries s.bikes)
  lines_load test p line same =
      count_map p line t.bikes ∙ counts_same (λ row. p (line row)) (λ row. is_placed test (bike_in row)) t.bikes same ∙ count_read test t.bikes
      ∙ ap (count (λ (e : ℕ × Bike). test e.1.place)) (sym (bikes_read t up))

  pub truck_loaded : (truck : ℕ) → count (loads (is_on_truck truck) truck) (map truck_bike_line t.bikes) ≡ truck_load s truck
  truck_loaded truck = lines_load (is_on_truck truck) (loads (is_on_truck truck) truck) truck_bike_line (λ row has. truck_line_loads truck row (wide row has))

  pub order_loaded : (order : ℕ) → count (loads (is_for_order order) order) (map order_bike_line t.bikes) ≡ order_load s order
  order_loaded order = lines_load (is_for_order order) (loads (is_for_order order) order) order_bike_line (λ row has. order_line_loads order row (wide row has))
