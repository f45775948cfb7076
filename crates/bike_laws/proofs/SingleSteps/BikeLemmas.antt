-- What keeps the bicycles sound.
use Rattle.std.proofs.Common.{◌≡◌, ◌≢◌, ℕ, ℤ, ◌+◌, ◌≤◌, List, [], ◌∷◌, ◌++◌, true, false, leb, Option, Some, refl, sym, ap, ◌∙◌, subst}
use Rattle.std.specs.Ordering.{nat_cmp, eq_by_cmp}
use Rattle.std.specs.Cmp.{eq_by_cmp_equiv}
use Rattle.std.specs.FinMap as map
use Rattle.std.specs.FinMap.{FinMap}
use Rattle.bike_catalogue.specs.Rows.{TypeRow}
use Rattle.bike_operator.specs.declared.records.BikeState.{BikeState}
use Rattle.bike_operator.specs.declared.records.BikeState.TheVariants.{Fit}
use Rattle.bike_operator.specs.declared.records.Place.{Place}
use Rattle.bike_operator.specs.declared.records.Place.TheVariants as place
use Rattle.bike_operator.specs.declared.records.Bike.{Bike}
use Rattle.bike_operator.specs.declared.records.Rental.{Rental}
use Rattle.bike_operator.specs.declared.records.Order.{Order}
use Rattle.bike_operator.specs.Operator.{Operator, Station, text_cmp, item_numbered, number_changed, Numbered, with_item}
use Rattle.bike_operator.specs.Counts.{is_retired}
use Rattle.bike_operator.specs.declared.limits.TheConstants.{MOST_BIKES}
use Rattle.bike_operator.specs.Steps.{bike_placed, bike_marked, rental_added, rental_closed, order_added, order_changed}
use Rattle.bike_operator.specs.Sound.{HasDock, IsRidden, IsCarried, IsPlace, IsBikeAt, AreBikesSound}
use Rattle.bike_laws.proofs.SingleSteps.MapLemmas.{number_order, IsAdded, New, Old, IsChanged, Changed, Other, IsKept, Same, Turned, added_at, changed_at, few_added, len_changed}
use Rattle.bike_laws.proofs.SingleSteps.ItemLemmas.{number_stays, number_apart, number_kept}
use Rattle.bike_laws.proofs.SingleSteps.CatalogueLemmas.{same_docks}

-- ---- what a place needs goes on being there

same_ridden : (s n : Operator) → n.rentals ≡ s.rentals → (bike rental : ℕ) → IsRidden s bike rental → IsRidden n bike rental
same_ridden s n e bike rental h = record { row = h.row; found = ap (λ (rs : Numbered Rental). item_numbered rental rs) e ∙ h.found; not_closed = h.not_closed; bike_is = h.bike_is }

same_carried : (s n : Operator) → n.orders ≡ s.orders → (type_id : List ℕ) (truck order : ℕ) → IsCarried s type_id truck order → IsCarried n type_id truck order
same_carried s n e type_id truck order h =
    record { row = h.row; found = ap (λ (os : Numbered Order). item_numbered order os) e ∙ h.found; not_closed = h.not_closed; truck_is = h.truck_is; type_is = h.type_is }

same_place : (s n : Operator) → n.stations ≡ s.stations → n.rentals ≡ s.rentals → n.orders ≡ s.orders → (bike : ℕ) (type_id : List ℕ) (p : Place) → IsPlace s bike type_id p → IsPlace n bike type_id p
same_place s n stations rentals orders bike type_id (place.Dock station dock) h = same_docks s n stations station dock h
same_place s n stations rentals orders bike type_id (place.Rental rental) h = same_ridden s n rentals bike rental h
same_place s n stations rentals orders bike type_id (place.Truck truck order) h = same_carried s n orders type_id truck order h
same_place s n stations rentals orders bike type_id place.Depot h = tt

-- ---- the same bicycles where other records change

-- what the bicycles need of the other records
pub record BikesStand (s n : Operator) : Type 0 where
  pub same : n.bikes ≡ s.bikes
  pub types : (id : List ℕ) → map.contains_key s.types id ≡ true → map.contains_key n.types id ≡ true
  pub docks : (station : List ℕ) (dock : ℕ) → HasDock s station dock → HasDock n station dock
  pub ridden : (bike rental : ℕ) (b : Bike) → map.get s.bikes bike ≡ Some b → b.place ≡ place.Rental rental → IsRidden s bike rental → IsRidden n bike rental
  pub carried : (bike truck order : ℕ) (b : Bike) → map.get s.bikes bike ≡ Some b → b.place ≡ place.Truck truck order → IsCarried s b.type_id truck order → IsCarried n b.type_id truck order

place_stands : (s n : Operator) → BikesStand s n → (bike : ℕ) (b : Bike) → map.get s.bikes bike ≡ Some b → (p : Place) → b.place ≡ p → IsPlace s bike b.type_id p → IsPlace n bike b.type_id p
place_stands s n stand bike b found (place.Dock station dock) e h = stand.docks station dock h
place_stands s n stand bike b found (place.Rental rental) e h = stand.ridden bike rental b found e h
place_stands s n stand bike b found (place.Truck truck order) e h = stand.carried bike truck order b found e h
place_stands s n stand bike b found place.Depot e h = tt

pub bikes_stand : (s n : Operator) → BikesStand s n → AreBikesSound s → AreBikesSound n
bikes_stand s n stand h =
    let back = λ (q : ℕ) (y : Bike) (found : map.get n.bikes q ≡ Some y). ap (λ (m : FinMap nat_cmp Bike). map.get m q) (sym stand.same) ∙ found in
    record {
      bikes = λ q y found.
          let x = h.bikes q y (back q y found) in
          record { low = x.low; high = x.high; type_is = stand.types y.type_id x.type_is; placed = place_stands s n stand q y (back q y found) y.place refl x.placed; retired = x.retired };
      apart = λ a b x y station dock fa fb. h.apart a b x y station dock (back a x fa) (back b y fb);
      few = rw stand.same h.few;
    }

abbrev pub BikeParts : Type 0
BikeParts = FinMap nat_cmp Bike × FinMap text_cmp TypeRow × FinMap text_cmp Station × Numbered Rental × Numbered Order

abbrev pub bike_parts : Operator → BikeParts
bike_parts s = (s.bikes, s.types, s.stations, s.rentals, s.orders)

pub same_bikes : (s n : Operator) → bike_parts n ≡ bike_parts s → AreBikesSound s → AreBikesSound n
same_bikes s n e h =
    let types : n.types ≡ s.types = ap (λ (c : BikeParts). c.1) e in
    let stations : n.stations ≡ s.stations = ap (λ (c : BikeParts). c.2) e in
    let rentals : n.rentals ≡ s.rentals = ap (λ (c : BikeParts). c.3) e in
    let orders : n.orders ≡ s.orders = ap (λ (c : BikeParts). c.4) e in
    bikes_stand s n (record {
      same = ap (λ (c : BikeParts). c.0) e;
      types = λ id known. ap (λ (m : FinMap text_cmp TypeRow). map.contains_key m id) types ∙ known;
      docks = same_docks s n stations;
      ridden = λ bike rental b found is. same_ridden s n rentals bike rental;
      carried = λ bike truck order b found is. same_carried s n orders b.type_id truck order;
    }) h

pub types_bikes : (s : Operator) (types : FinMap text_cmp TypeRow) → ((id : List ℕ) → map.contains_key s.types id ≡ true → map.contains_key types id ≡ true) → AreBikesSound s
    → AreBikesSound (record s { types = types })
types_bikes s types known h =
    let n : Operator = record s { types = types } in
    bikes_stand s n (record {
      same = refl;
      types = known;
      docks = same_docks s n refl;
      ridden = λ bike rental b found is. same_ridden s n refl bike rental;
      carried = λ bike truck order b found is. same_carried s n refl b.type_id truck order;
    }) h

pub stations_bikes : (s : Operator) (stations : FinMap text_cmp Station)
    → ((station : List ℕ) (dock : ℕ) → HasDock s station dock → HasDock (record s { stations = stations }) station dock) → AreBikesSound s → AreBikesSound (record s { stations = stations })
stations_bikes s stations docks h =
    let n : Operator = record s { stations = stations } in
    bikes_stand s n (record {
      same = refl;
      types = λ id known. known;
      docks = docks;
      ridden = λ bike rental b found is. same_ridden s n refl bike rental;
      carried = λ bike truck order b found is. same_carried s n refl b.type_id truck order;
    }) h

rentals_bikes : (s : Operator) (rentals : Numbered Rental)
    → ((bike rental : ℕ) (b : Bike) → map.get s.bikes bike ≡ Some b → b.place ≡ place.Rental rental → IsRidden s bike rental → IsRidden (record s { rentals = rentals }) bike rental)
    → AreBikesSound s → AreBikesSound (record s { rentals = rentals })
rentals_bikes s rentals ridden h =
    let n : Operator = record s { rentals = rentals } in
    bikes_stand s n (record {
      same = refl;
      types = λ id known. known;
      docks = same_docks s n refl;
      ridden = ridden;
      carried = λ bike truck order b found is. same_carried s n refl b.type_id truck order;
    }) h

orders_bikes : (s : Operator) (orders : Numbered Order)
    → ((bike truck order : ℕ) (b : Bike) → map.get s.bikes bike ≡ Some b → b.place ≡ place.Truck truck order → IsCarried s b.type_id truck order
    → IsCarried (record s { orders = orders }) b.type_id truck order)
    → AreBikesSound s → AreBikesSound (record s { orders = orders })
orders_bikes s orders carried h =
    let n : Operator = record s { orders = orders } in
    bikes_stand s n (record {
      same = refl;
      types = λ id known. known;
      docks = same_docks s n refl;
      ridden = λ bike rental b found is. same_ridden s n refl bike rental;
      carried = carried;
    }) h

pub rental_added_bikes : (s : Operator) (r : Rental) → AreBikesSound s → AreBikesSound (rental_added r s)
rental_added_bikes s r h =
    rentals_bikes s (with_item r s.rentals) (λ bike rental b found is i. record { row = i.row; found = number_stays rental s.rentals r i.row i.found; not_closed = i.not_closed; bike_is = i.bike_is }) h

abbrev closed_now : Option (List ℕ) → ℕ → ℤ → Rental → Rental
closed_now to_station now fare r = record r { closing = Some (record { to_station = to_station; finish = now; fare = fare }) }

-- a rental is closed in which no bicycle is
pub rental_closed_bikes : (s : Operator) (number : ℕ) (to_station : Option (List ℕ)) (now : ℕ) (fare : ℤ) → ((bike : ℕ) (b : Bike) → map.get s.bikes bike ≡ Some b → b.place ≢ place.Rental number)
    → AreBikesSound s → AreBikesSound (rental_closed number to_station now fare s)
rental_closed_bikes s number to_station now fare empty h =
    rentals_bikes s (rental_closed number to_station now fare s).rentals (λ bike rental b found is i. record {
      row = i.row;
      found = number_apart number (closed_now to_station now fare) s.rentals rental (λ e. empty bike b found (is ∙ ap place.Rental e)) ∙ i.found;
      not_closed = i.not_closed;
      bike_is = i.bike_is;
    }) h

pub order_added_bikes : (s : Operator) (o : Order) → AreBikesSound s → AreBikesSound (order_added o s)
order_added_bikes s o h =
    orders_bikes s (with_item o s.orders) (λ bike truck order b found is i.
    record { row = i.row; found = number_stays order s.orders o i.row i.found; not_closed = i.not_closed; truck_is = i.truck_is; type_is = i.type_is }) h

-- an order is changed for which no bicycle is on a truck
pub order_changed_bikes : (s : Operator) (number : ℕ) (f : Order → Order) → ((bike : ℕ) (b : Bike) (truck : ℕ) → map.get s.bikes bike ≡ Some b → b.place ≢ place.Truck truck number)
    → AreBikesSound s → AreBikesSound (order_changed number f s)
order_changed_bikes s number f empty h =
    orders_bikes s (number_changed number f s.orders) (λ bike truck order b found is i. record {
      row = i.row;
      found = number_apart number f s.orders order (λ e. empty bike b truck found (is ∙ ap (place.Truck truck) e)) ∙ i.found;
      not_closed = i.not_closed;
      truck_is = i.truck_is;
      type_is = i.type_is;
    }) h

pub order_delivered_bikes : (s : Operator) (number : ℕ) → AreBikesSound s → AreBikesSound (order_changed number (λ o. record o { delivered = o.delivered + 1 }) s)
order_delivered_bikes s number h =
    orders_bikes s (number_changed number (λ o. record o { delivered = o.delivered + 1 }) s.orders) (λ bike truck order b found is i.
    let k = number_kept number (λ (o : Order). record o { delivered = o.delivered + 1 }) s.orders order i.row i.found in
    kept b.type_id truck order i k.row k.found_is k.is) h
  where
    kept : (type_id : List ℕ) (truck order : ℕ) (i : IsCarried s type_id truck order) (row : Order)
        → item_numbered order (number_changed number (λ o. record o { delivered = o.delivered + 1 }) s.orders) ≡ Some row
        → IsKept (λ (o : Order). record o { delivered = o.delivered + 1 }) i.row row → IsCarried (order_changed number (λ o. record o { delivered = o.delivered + 1 }) s) type_id truck order
    kept type_id truck order i row found (Same is) =
        record {
          row = row;
          found = found;
          not_closed = ap (λ (o : Order). o.is_open) is ∙ i.not_closed;
          truck_is = ap (λ (o : Order). o.truck) is ∙ i.truck_is;
          type_is = ap (λ (o : Order). o.type_id) is ∙ i.type_is;
        }
    kept type_id truck order i row found (Turned is) =
        record {
          row = row;
          found = found;
          not_closed = ap (λ (o : Order). o.is_open) is ∙ i.not_closed;
          truck_is = ap (λ (o : Order). o.truck) is ∙ i.truck_is;
          type_is = ap (λ (o : Order). o.type_id) is ∙ i.type_is;
        }

-- ---- bicycles with one added or changed

-- no bicycle is in the place, if it is a dock
abbrev pub IsFree : Operator → Place → Type 0
IsFree s p = (bike : ℕ) (b : Bike) (station : List ℕ) (dock : ℕ) → map.get s.bikes bike ≡ Some b → p ≡ place.Dock station dock → b.place ≢ place.Dock station dock

pub free_rental : (s : Operator) (rental : ℕ) → IsFree s (place.Rental rental)
free_rental s rental bike b station dock found e = absurd cc

pub free_truck : (s : Operator) (truck order : ℕ) → IsFree s (place.Truck truck order)
free_truck s truck order bike b station dock found e = absurd cc

pub free_depot : (s : Operator) → IsFree s place.Depot
free_depot s bike b station dock found e = absurd cc

pub bike_added_bikes : (s : Operator) (bike : ℕ) (type_id : List ℕ) → map.contains_key s.types type_id ≡ true → 1 ≤ bike → bike ≤ 999999 → leb MOST_BIKES (map.len s.bikes) ≡ false
    → AreBikesSound s → AreBikesSound (record s { bikes = map.insert s.bikes bike (record { type_id = type_id; state = Fit; place = place.Depot }) })
bike_added_bikes s bike type_id known low high full h = record {
  bikes = λ q y found. is_bike q y (added_at number_order s.bikes bike new q y found);
  apart = λ a b x y station dock fa fb. is_apart a b x y station dock (added_at number_order s.bikes bike new a x fa) (added_at number_order s.bikes bike new b y fb);
  few = few_added number_order s.bikes bike new MOST_BIKES full;
}
  where
    new : Bike
    new = record { type_id = type_id; state = Fit; place = place.Depot }

    next : Operator
    next = record s { bikes = map.insert s.bikes bike new }

    is_bike : (q : ℕ) (y : Bike) → IsAdded s.bikes bike new q y → IsBikeAt next q y
    is_bike q y (New same is) = rw (same, is) (record { low = low; high = high; type_is = known; placed = tt; retired = λ e. absurd cc })
    is_bike q y (Old apart found) =
        let x = h.bikes q y found in
        record { low = x.low; high = x.high; type_is = x.type_is; placed = same_place s next refl refl refl q y.type_id y.place x.placed; retired = x.retired }

    is_apart : (a b : ℕ) (x y : Bike) (station : List ℕ) (dock : ℕ) → IsAdded s.bikes bike new a x → IsAdded s.bikes bike new b y → x.place ≡ place.Dock station dock
        → y.place ≡ place.Dock station dock → a ≡ b
    is_apart a b x y station dock (New same is) other ex ey = let e : place.Depot ≡ place.Dock station dock = ap (λ (z : Bike). z.place) (sym is) ∙ ex in absurd cc
    is_apart a b x y station dock (Old apart found) (New same is) ex ey = let e : place.Depot ≡ place.Dock station dock = ap (λ (z : Bike). z.place) (sym is) ∙ ey in absurd cc
    is_apart a b x y station dock (Old apart found) (Old apart_too found_too) ex ey = h.apart a b x y station dock found found_too ex ey

module _ (s : Operator) (bike : ℕ) (p : Place) where
  abbrev place_here : Bike → Bike
  place_here b = record b { place = p }

  -- what the bicycle needs that is put in a place
  pub record IsPlaceable : Type 0 where
    pub placed : (b : Bike) → map.get s.bikes bike ≡ Some b → IsPlace s bike b.type_id p
    pub retired : (b : Bike) → map.get s.bikes bike ≡ Some b → is_retired b.state ≡ true → p ≡ place.Depot
    pub free : IsFree s p

  pub bike_placed_bikes : IsPlaceable → AreBikesSound s → AreBikesSound (bike_placed bike p s)
  bike_placed_bikes can h = record {
    bikes = λ q y found. is_bike q y (changed_at number_order s.bikes bike place_here q y found);
    apart = λ a b x y station dock fa fb. is_apart a b x y station dock (changed_at number_order s.bikes bike place_here a x fa) (changed_at number_order s.bikes bike place_here b y fb);
    few = rw (len_changed number_order s.bikes bike place_here) h.few;
  }
    where
      is_bike : (q : ℕ) (y : Bike) → IsChanged s.bikes bike place_here q y → IsBikeAt (bike_placed bike p s) q y
      is_bike q y (Changed b same found is) =
          let x = h.bikes bike b found in
          rw (same, is) (record {
            low = x.low;
            high = x.high;
            type_is = x.type_is;
            placed = same_place s (bike_placed bike p s) refl refl refl bike b.type_id p (can.placed b found);
            retired = can.retired b found;
          })
      is_bike q y (Other apart found) =
          let x = h.bikes q y found in
          record { low = x.low; high = x.high; type_is = x.type_is; placed = same_place s (bike_placed bike p s) refl refl refl q y.type_id y.place x.placed; retired = x.retired }

      is_apart : (a b : ℕ) (x y : Bike) (station : List ℕ) (dock : ℕ) → IsChanged s.bikes bike place_here a x → IsChanged s.bikes bike place_here b y
          → x.place ≡ place.Dock station dock → y.place ≡ place.Dock station dock → a ≡ b
      is_apart a b x y station dock (Changed u same found is) (Changed v same_too found_too is_too) ex ey = same ∙ sym same_too
      is_apart a b x y station dock (Changed u same found is) (Other apart found_too) ex ey = absurd (can.free b y station dock found_too (ap (λ (z : Bike). z.place) (sym is) ∙ ex) ey)
      is_apart a b x y station dock (Other apart found) (Changed v same_too found_too is_too) ex ey = absurd (can.free a x station dock found (ap (λ (z : Bike). z.place) (sym is_too) ∙ ey) ex)
      is_apart a b x y station dock (Other apart found) (Other apart_too found_too) ex ey = h.apart a b x y station dock found found_too ex ey

  -- a bicycle that leaves its rental leaves no other one in it
  pub rental_left : (rental : ℕ) (r : Rental) → item_numbered rental s.rentals ≡ Some r → r.bike ≡ bike → p ≢ place.Rental rental → AreBikesSound s
      → (q : ℕ) (y : Bike) → map.get (bike_placed bike p s).bikes q ≡ Some y → y.place ≢ place.Rental rental
  rental_left rental r found_rental bike_is other h q y found e = go (changed_at number_order s.bikes bike place_here q y found) where
    go : IsChanged s.bikes bike place_here q y → ⊥
    go (Changed b same found is) = other (ap (λ (z : Bike). z.place) (sym is) ∙ e)
    go (Other apart found) =
        let ridden : IsRidden s q rental = subst (IsPlace s q y.type_id) e (h.bikes q y found).placed in
        let rows : ridden.row ≡ r = cc in
        let same : q ≡ bike = sym ridden.bike_is ∙ ap (λ (z : Rental). z.bike) rows ∙ bike_is in
        let itself = (eq_by_cmp_equiv number_order.total).refl bike in
        let tie : eq_by_cmp nat_cmp q bike ≡ true = subst (λ (z : ℕ). eq_by_cmp nat_cmp z bike ≡ true) (sym same) itself in
        cc

module _ (s : Operator) (bike : ℕ) (state : BikeState) where
  abbrev mark : Bike → Bike
  mark b = record b { state = state }

  -- what was there before a bicycle was marked
  before : (q : ℕ) (y : Bike) → IsChanged s.bikes bike mark q y → (b : Bike) × (map.get s.bikes q ≡ Some b) × (b.place ≡ y.place)
  before q y (Changed b same found is) = (b, subst (λ (z : ℕ). map.get s.bikes z ≡ Some b) (sym same) found, ap (λ (z : Bike). z.place) (sym is))
  before q y (Other apart found) = (y, found, refl)

  pub bike_marked_bikes : ((b : Bike) → map.get s.bikes bike ≡ Some b → is_retired state ≡ true → b.place ≡ place.Depot) → AreBikesSound s → AreBikesSound (bike_marked bike state s)
  bike_marked_bikes can h = record {
    bikes = λ q y found. is_bike q y (changed_at number_order s.bikes bike mark q y found);
    apart = λ a b x y station dock fa fb ex ey.
        let u = before a x (changed_at number_order s.bikes bike mark a x fa) in
        let v = before b y (changed_at number_order s.bikes bike mark b y fb) in
        h.apart a b u.0 v.0 station dock u.1 v.1 (u.2 ∙ ex) (v.2 ∙ ey);
    few = rw (len_changed number_order s.bikes bike mark) h.few;
  }
    where
      is_bike : (q : ℕ) (y : Bike) → IsChanged s.bikes bike mark q y → IsBikeAt (bike_marked bike state s) q y
      is_bike q y (Changed b same found is) =
          let x = h.bikes bike b found in
          rw (same, is) (record {
            low = x.low;
            high = x.high;
            type_is = x.type_is;
            placed = same_place s (bike_marked bike state s) refl refl refl bike b.type_id b.place x.placed;
            retired = can b found;
          })
      is_bike q y (Other apart found) =
          let x = h.bikes q y found in
          record { low = x.low; high = x.high; type_is = x.type_is; placed = same_place s (bike_marked bike state s) refl refl refl q y.type_id y.place x.placed; retired = x.retired }
