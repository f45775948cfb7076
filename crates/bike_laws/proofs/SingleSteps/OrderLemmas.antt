-- What keeps trucks and orders sound.
use Rattle.std.proofs.Common.{◌≡◌, inl, inr, ◌⊎◌, ℕ, ◌+◌, ◌≤◌, ◌<◌, List, [], ◌∷◌, ◌++◌, length, length-append, Bool, true, false, ◌==◌, leb, Option, Some, None, refl, sym, ap, ◌∙◌, subst, arith}
use Rattle.std.specs.Ordering.{nat_cmp}
use Rattle.std.specs.FinMap as map
use Rattle.std.specs.FinMap.{FinMap}
use Rattle.std.proofs.lemmas.Bool.Decides.{nat_tests}
use Rattle.bike_catalogue.specs.Rows.{TypeRow}
use Rattle.bike_texts.specs.declared.ends.OrderEnd.{OrderEnd}
use Rattle.bike_texts.specs.declared.ends.OrderEnd.TheVariants as end
use Rattle.bike_operator.specs.declared.records.BikeState.{BikeState}
use Rattle.bike_operator.specs.declared.records.Place.{Place}
use Rattle.bike_operator.specs.declared.records.Place.TheVariants as place
use Rattle.bike_operator.specs.declared.records.Bike.{Bike}
use Rattle.bike_operator.specs.declared.records.Order.{Order}
use Rattle.bike_operator.specs.Operator.{Operator, Station, Truck, Numbered, text_cmp, item_numbered, last_number, with_item}
use Rattle.bike_operator.specs.Counts.{count, is_on_truck, is_for_order, truck_load, order_load}
use Rattle.bike_operator.specs.declared.limits.TheConstants.{MOST_TRUCKS, MOST_ORDERS}
use Rattle.bike_operator.specs.View.{has_end}
use Rattle.bike_operator.specs.Steps.{key_changed, bike_placed, bike_marked, order_added, order_changed}
use Rattle.bike_operator.specs.Sound.{IsPlace, AreBikesSound, IsTruckAt, HasTruck, IsOrderAt, AreOrdersSound}
use Rattle.bike_laws.proofs.SingleSteps.MapLemmas.{number_order, IsAdded, New, Old, added_at, kept_added, few_added}
use Rattle.bike_laws.proofs.SingleSteps.TestLemmas.{same_number}
use Rattle.bike_laws.proofs.SingleSteps.ItemLemmas.{number_or_last, number_within, IsTurned, Here, Elsewhere, number_turned, last_added, last_changed}
use Rattle.bike_laws.proofs.SingleSteps.CountLemmas.{one, count-added, count-changed, count-most, none_counted}

-- ---- what an order needs goes on being there

pub end_stands : (s n : Operator) → ((id : List ℕ) → map.contains_key s.stations id ≡ true → map.contains_key n.stations id ≡ true) → (e : OrderEnd) → has_end s e ≡ true → has_end n e ≡ true
end_stands s n known end.Depot h = refl
end_stands s n known (end.Station station) h = known station h

-- what trucks and orders need of the other records
pub record OrdersStand (s n : Operator) : Type 0 where
  pub trucks : (number : ℕ) (t : Truck) → map.get s.trucks number ≡ Some t → map.get n.trucks number ≡ Some t
  pub types : (id : List ℕ) → map.contains_key s.types id ≡ true → map.contains_key n.types id ≡ true
  pub stations : (id : List ℕ) → map.contains_key s.stations id ≡ true → map.contains_key n.stations id ≡ true

truck_stands : (s n : Operator) → OrdersStand s n → (truck count : ℕ) → HasTruck s truck count → HasTruck n truck count
truck_stands s n stand truck count h = record { row = h.row; found = stand.trucks truck h.row h.found; enough = h.enough }

order_stands : (s n : Operator) → OrdersStand s n → (number : ℕ) (o : Order) → IsOrderAt s number o → o.delivered + order_load n number ≤ o.count → IsOrderAt n number o
order_stands s n stand number o h filled = record {
  truck_is = truck_stands s n stand o.truck o.count h.truck_is;
  some = h.some;
  from_is = end_stands s n stand.stations o.from_end h.from_is;
  to_is = end_stands s n stand.stations o.to_end h.to_is;
  ends = h.ends;
  type_is = stand.types o.type_id h.type_is;
  filled = filled;
}

abbrev pub OrderParts : Type 0
OrderParts = FinMap nat_cmp Truck × Numbered Order × FinMap text_cmp TypeRow × FinMap text_cmp Station × FinMap nat_cmp Bike

abbrev pub order_parts : Operator → OrderParts
order_parts s = (s.trucks, s.orders, s.types, s.stations, s.bikes)

pub same_orders : (s n : Operator) → order_parts n ≡ order_parts s → AreOrdersSound s → AreOrdersSound n
same_orders s n e h =
    let trucks : n.trucks ≡ s.trucks = ap (λ (c : OrderParts). c.0) e in
    let orders : n.orders ≡ s.orders = ap (λ (c : OrderParts). c.1) e in
    let types : n.types ≡ s.types = ap (λ (c : OrderParts). c.2) e in
    let stations : n.stations ≡ s.stations = ap (λ (c : OrderParts). c.3) e in
    let bikes : n.bikes ≡ s.bikes = ap (λ (c : OrderParts). c.4) e in
    let stand : OrdersStand s n = record {
      trucks = λ q t found. ap (λ (m : FinMap nat_cmp Truck). map.get m q) trucks ∙ found;
      types = λ id known. ap (λ (m : FinMap text_cmp TypeRow). map.contains_key m id) types ∙ known;
      stations = λ id known. ap (λ (m : FinMap text_cmp Station). map.contains_key m id) stations ∙ known;
    } in
    record {
      trucks = λ q t found.
          let x = h.trucks q t (ap (λ (m : FinMap nat_cmp Truck). map.get m q) (sym trucks) ∙ found) in
          let c : truck_load n q ≡ truck_load s q = ap (λ (m : FinMap nat_cmp Bike). count (λ e. is_on_truck q e.1.place) (map.entries m)) bikes in
          record { low = x.low; high = x.high; some = x.some; most = x.most; holds = rw c x.holds };
      orders = λ q o found.
          let x = h.orders q o (ap (λ (os : Numbered Order). item_numbered q os) (sym orders) ∙ found) in
          let c : order_load n q ≡ order_load s q = ap (λ (m : FinMap nat_cmp Bike). count (λ e. is_for_order q e.1.place) (map.entries m)) bikes in
          order_stands s n stand q o x (rw c x.filled);
      few_trucks = rw trucks h.few_trucks;
      few_orders = rw orders h.few_orders;
      all_orders = rw orders h.all_orders;
    }

-- types and stations that were there still are
pub known_orders : (s : Operator) (types : FinMap text_cmp TypeRow) (stations : FinMap text_cmp Station) → ((id : List ℕ) → map.contains_key s.types id ≡ true → map.contains_key types id ≡ true)
    → ((id : List ℕ) → map.contains_key s.stations id ≡ true → map.contains_key stations id ≡ true) → AreOrdersSound s → AreOrdersSound (record s { types = types; stations = stations })
known_orders s types stations types_known stations_known h =
    let n : Operator = record s { types = types; stations = stations } in
    let stand : OrdersStand s n = record { trucks = λ q t found. found; types = types_known; stations = stations_known } in
    record {
      trucks = λ q t found. let x = h.trucks q t found in record { low = x.low; high = x.high; some = x.some; most = x.most; holds = x.holds };
      orders = λ q o found. let x = h.orders q o found in order_stands s n stand q o x x.filled;
      few_trucks = h.few_trucks;
      few_orders = h.few_orders;
      all_orders = h.all_orders;
    }

-- ---- bicycles that are placed

-- with other bicycles no truck and no order holds too many
bikes_orders : (s : Operator) (bikes : FinMap nat_cmp Bike) → ((truck : ℕ) (t : Truck) → map.get s.trucks truck ≡ Some t → truck_load (record s { bikes = bikes }) truck ≤ t.capacity)
    → ((order : ℕ) (o : Order) → item_numbered order s.orders ≡ Some o → o.delivered + order_load (record s { bikes = bikes }) order ≤ o.count) → AreOrdersSound s
    → AreOrdersSound (record s { bikes = bikes })
bikes_orders s bikes holds filled h =
    let n : Operator = record s { bikes = bikes } in
    let stand : OrdersStand s n = record { trucks = λ q t found. found; types = λ id known. known; stations = λ id known. known } in
    record {
      trucks = λ q t found. let x = h.trucks q t found in record { low = x.low; high = x.high; some = x.some; most = x.most; holds = holds q t found };
      orders = λ q o found. order_stands s n stand q o (h.orders q o found) (filled q o found);
      few_trucks = h.few_trucks;
      few_orders = h.few_orders;
      all_orders = h.all_orders;
    }

-- no more bicycles are on trucks
fewer_orders : (s : Operator) (bikes : FinMap nat_cmp Bike) → ((truck : ℕ) → truck_load (record s { bikes = bikes }) truck ≤ truck_load s truck)
    → ((order : ℕ) → order_load (record s { bikes = bikes }) order ≤ order_load s order)
    → AreOrdersSound s → AreOrdersSound (record s { bikes = bikes })
fewer_orders s bikes fewer_loaded fewer_on h =
    bikes_orders s bikes (λ q t found. let x = (h.trucks q t found).holds in let f = fewer_loaded q in omega (arith, x, f))
    (λ q o found. let x = (h.orders q o found).filled in let f = fewer_on q in omega (arith, x, f)) h

abbrev placed : Place → Bike → Bike
placed p b = record b { place = p }

abbrev marked : BikeState → Bike → Bike
marked state b = record b { state = state }

-- a bicycle is put in a place that is on no truck
pub bike_placed_orders : (s : Operator) (bike : ℕ) (p : Place) → ((truck : ℕ) → is_on_truck truck p ≡ false) → ((order : ℕ) → is_for_order order p ≡ false) → AreOrdersSound s
    → AreOrdersSound (bike_placed bike p s)
bike_placed_orders s bike p off_trucks off_orders h =
    fewer_orders s (key_changed s.bikes bike (placed p))
    (λ truck. let c = count-most number_order (λ (y : Bike). is_on_truck truck y.place) s.bikes bike (placed p) false (λ x. off_trucks truck) in omega (arith, c))
    (λ order. let c = count-most number_order (λ (y : Bike). is_for_order order y.place) s.bikes bike (placed p) false (λ x. off_orders order) in omega (arith, c)) h

-- a bicycle that is marked stays where it is
pub bike_marked_orders : (s : Operator) (bike : ℕ) (state : BikeState) → AreOrdersSound s → AreOrdersSound (bike_marked bike state s)
bike_marked_orders s bike state h =
    fewer_orders s (key_changed s.bikes bike (marked state)) (λ truck. same (is_on_truck truck) (map.get s.bikes bike) refl) (λ order. same (is_for_order order) (map.get s.bikes bike) refl) h
  where
    same : (test : Place → Bool) (o : Option Bike) → map.get s.bikes bike ≡ o
        → count (λ e. test e.1.place) (map.entries (key_changed s.bikes bike (marked state))) ≤ count (λ e. test e.1.place) (map.entries s.bikes)
    same test None e = rw e (omega arith)
    same test (Some b) e = let c = count-changed number_order (λ (y : Bike). test y.place) s.bikes bike (marked state) b e in omega (arith, c)

-- a bicycle that is new is on no truck
pub bike_added_orders : (s : Operator) (bike : ℕ) (b : Bike) → b.place ≡ place.Depot → AreOrdersSound s → AreOrdersSound (record s { bikes = map.insert s.bikes bike b })
bike_added_orders s bike b is h =
    fewer_orders s (map.insert s.bikes bike b) (λ truck. same (is_on_truck truck) (ap (is_on_truck truck) is)) (λ order. same (is_for_order order) (ap (is_for_order order) is)) h
  where
    same : (test : Place → Bool) → test b.place ≡ false → count (λ e. test e.1.place) (map.entries (map.insert s.bikes bike b)) ≤ count (λ e. test e.1.place) (map.entries s.bikes)
    same test e =
        let c = count-added number_order (λ (y : Bike). test y.place) s.bikes bike b in
        let w : one (test b.place) ≡ 0 = ap one e in
        omega (arith, c, w)

-- a bicycle is put on a truck for an order: both have room for it
pub bike_loaded_orders : (s : Operator) (bike truck order : ℕ) → ((t : Truck) → map.get s.trucks truck ≡ Some t → truck_load s truck < t.capacity)
    → ((o : Order) → item_numbered order s.orders ≡ Some o → o.delivered + order_load s order < o.count) → AreOrdersSound s → AreOrdersSound (bike_placed bike (place.Truck truck order) s)
bike_loaded_orders s bike truck order room wanted h =
    bikes_orders s (key_changed s.bikes bike (placed (place.Truck truck order)))
    (λ q t found. holds q t found (truck == q) refl (count-most number_order (λ (y : Bike). is_on_truck q y.place) s.bikes bike (placed (place.Truck truck order)) (truck == q) (λ x. refl)))
    (λ q o found. filled q o found (order == q) refl (count-most number_order (λ (y : Bike). is_for_order q y.place) s.bikes bike (placed (place.Truck truck order)) (order == q) (λ x. refl))) h
  where
    holds : (q : ℕ) (t : Truck) → map.get s.trucks q ≡ Some t → (b : Bool) → (truck == q) ≡ b → truck_load (bike_placed bike (place.Truck truck order) s) q ≤ truck_load s q + one b
        → truck_load (bike_placed bike (place.Truck truck order) s) q ≤ t.capacity
    holds q t found true is most =
        let same = same_number truck q is in
        let r = room t (subst (λ (z : ℕ). map.get s.trucks z ≡ Some t) (sym same) found) in
        let c : truck_load s truck ≡ truck_load s q = ap (truck_load s) same in
        omega (arith, most, r, c)
    holds q t found false is most = let x = (h.trucks q t found).holds in omega (arith, most, x)

    filled : (q : ℕ) (o : Order) → item_numbered q s.orders ≡ Some o → (b : Bool) → (order == q) ≡ b → order_load (bike_placed bike (place.Truck truck order) s) q ≤ order_load s q + one b
        → o.delivered + order_load (bike_placed bike (place.Truck truck order) s) q ≤ o.count
    filled q o found true is most =
        let same = same_number order q is in
        let w = wanted o (subst (λ (z : ℕ). item_numbered z s.orders ≡ Some o) (sym same) found) in
        let c : order_load s order ≡ order_load s q = ap (order_load s) same in
        omega (arith, most, w, c)
    filled q o found false is most = let x = (h.orders q o found).filled in omega (arith, most, x)

-- one bicycle less is on the truck for an order, where one leaves it
pub one_less : (s : Operator) (bike order : ℕ) (p : Place) (b : Bike) → map.get s.bikes bike ≡ Some b → is_for_order order b.place ≡ true → is_for_order order p ≡ false
    → order_load (bike_placed bike p s) order + 1 ≡ order_load s order
one_less s bike order p b found was is =
    let c = count-changed number_order (λ (y : Bike). is_for_order order y.place) s.bikes bike (placed p) b found in
    let v : one (is_for_order order b.place) ≡ 1 = ap one was in
    let w : one (is_for_order order p) ≡ 0 = ap one is in
    omega (arith, c, v, w)

-- ---- trucks and orders that are added or changed

-- no bicycle is on a truck that isn't there
pub none_loaded : (s : Operator) (truck : ℕ) → AreBikesSound s → AreOrdersSound s → map.get s.trucks truck ≡ None → truck_load s truck ≡ 0
none_loaded s truck bikes h free = none_counted number_order (λ (y : Bike). is_on_truck truck y.place) s.bikes (λ q y found. off q y.type_id y.place (bikes.bikes q y found).placed) where
  apart : (on order : ℕ) (type_id : List ℕ) → IsPlace s on type_id (place.Truck on order) → (b : Bool) → (on == truck) ≡ b → b ≡ false
  apart on order type_id carried false e = refl
  apart on order type_id carried true e =
      let has = (h.orders order carried.row carried.found).truck_is in
      let same : carried.row.truck ≡ truck = carried.truck_is ∙ same_number on truck e in
      let none : map.get s.trucks carried.row.truck ≡ None = subst (λ (z : ℕ). map.get s.trucks z ≡ None) (sym same) free in
      let some = has.found in
      absurd cc

  off : (q : ℕ) (type_id : List ℕ) (p : Place) → IsPlace s q type_id p → is_on_truck truck p ≡ false
  off q type_id (place.Dock station dock) is = refl
  off q type_id (place.Rental rental) is = refl
  off q type_id (place.Truck on order) is = apart on order type_id is (on == truck) refl
  off q type_id place.Depot is = refl

-- none is on a truck for an order that isn't there
pub none_on_truck : (s : Operator) → AreBikesSound s → order_load s (last_number s.orders + 1) ≡ 0
none_on_truck s bikes = none_counted number_order (λ (y : Bike). is_for_order (last_number s.orders + 1) y.place) s.bikes (λ q y found. off q y.type_id y.place (bikes.bikes q y found).placed) where
  off : (q : ℕ) (type_id : List ℕ) (p : Place) → IsPlace s q type_id p → is_for_order (last_number s.orders + 1) p ≡ false
  off q type_id (place.Dock station dock) is = refl
  off q type_id (place.Rental rental) is = refl
  off q type_id (place.Truck on order) is = let within = number_within order s.orders is.row is.found in grind (arith, nat_tests, within)
  off q type_id place.Depot is = refl

pub truck_added_orders : (s : Operator) (truck : ℕ) (t : Truck) → IsTruckAt s truck t → map.get s.trucks truck ≡ None → leb MOST_TRUCKS (map.len s.trucks) ≡ false → AreOrdersSound s
    → AreOrdersSound (record s { trucks = map.insert s.trucks truck t })
truck_added_orders s truck t good free full h =
    let n : Operator = record s { trucks = map.insert s.trucks truck t } in
    let stand : OrdersStand s n = record { trucks = λ q x found. kept_added number_order s.trucks truck t q x free found; types = λ id known. known; stations = λ id known. known } in
    record {
      trucks = λ q x found. is_truck q x (added_at number_order s.trucks truck t q x found);
      orders = λ q o found. let x = h.orders q o found in order_stands s n stand q o x x.filled;
      few_trucks = few_added number_order s.trucks truck t MOST_TRUCKS full;
      few_orders = h.few_orders;
      all_orders = h.all_orders;
    }
  where
    is_truck : (q : ℕ) (x : Truck) → IsAdded s.trucks truck t q x → IsTruckAt (record s { trucks = map.insert s.trucks truck t }) q x
    is_truck q x (New same is) = rw (same, is) (record { low = good.low; high = good.high; some = good.some; most = good.most; holds = good.holds })
    is_truck q x (Old apart found) = let y = h.trucks q x found in record { low = y.low; high = y.high; some = y.some; most = y.most; holds = y.holds }

pub order_added_orders : (s : Operator) (o : Order) → IsOrderAt s (last_number s.orders + 1) o → leb MOST_ORDERS (last_number s.orders) ≡ false → AreOrdersSound s → AreOrdersSound (order_added o s)
order_added_orders s o good full h = record {
  trucks = λ q t found. let x = h.trucks q t found in record { low = x.low; high = x.high; some = x.some; most = x.most; holds = x.holds };
  orders = λ q x found. is_order q x (number_or_last q s.orders o x found);
  few_trucks = h.few_trucks;
  few_orders = few (last_added s.orders o);
  all_orders = h.all_orders;
}
  where
    stand : OrdersStand s (order_added o s)
    stand = record { trucks = λ q x found. found; types = λ id known. known; stations = λ id known. known }

    is_order : (q : ℕ) (x : Order) → (item_numbered q s.orders ≡ Some x) ⊎ (q ≡ last_number s.orders + 1) × (x ≡ o) → IsOrderAt (order_added o s) q x
    is_order q x (inl found) = let y = h.orders q x found in order_stands s (order_added o s) stand q x y y.filled
    is_order q x (inr last) = rw (last.0, last.1) (order_stands s (order_added o s) stand (last_number s.orders + 1) o good good.filled)

    few : last_number (with_item o s.orders) ≡ last_number s.orders + 1 → last_number (with_item o s.orders) ≤ MOST_ORDERS
    few e = let b : last_number s.orders < MOST_ORDERS = grind (arith, nat_tests, full) in omega (arith, e, b)

-- an order is changed to one that keeps its bounds
pub order_changed_orders : (s : Operator) (number : ℕ) (f : Order → Order) → ((o : Order) → item_numbered number s.orders ≡ Some o → IsOrderAt s number (f o)) → AreOrdersSound s
    → AreOrdersSound (order_changed number f s)
order_changed_orders s number f good h = record {
  trucks = λ q t found. let x = h.trucks q t found in record { low = x.low; high = x.high; some = x.some; most = x.most; holds = x.holds };
  orders = λ q x found. is_order q x (number_turned number f s.orders q x found);
  few_trucks = h.few_trucks;
  few_orders = rw (last_changed number f s.orders) h.few_orders;
  all_orders = h.all_orders;
}
  where
    stand : OrdersStand s (order_changed number f s)
    stand = record { trucks = λ q x found. found; types = λ id known. known; stations = λ id known. known }

    is_order : (q : ℕ) (x : Order) → IsTurned f number q (item_numbered number s.orders) (item_numbered q s.orders) x → IsOrderAt (order_changed number f s) q x
    is_order q x (Here o same found is) = let y = good o found in rw (same, is) (order_stands s (order_changed number f s) stand number (f o) y y.filled)
    is_order q x (Elsewhere apart found) = let y = h.orders q x found in order_stands s (order_changed number f s) stand q x y y.filled
