-- The rows of bicycles, trucks and orders are read exactly.
use Rattle.std.proofs.Common.{◌≡◌, ℕ, [], ◌∷◌, length, Some, refl, subst, arith}
use Rattle.sqlite_value.specs.Order.{Row, column}
use Rattle.bike_fields.specs.declared.numbers.TheConstants.{MOST_DOCKS}
use Rattle.bike_operator.specs.declared.records.Place.{Place}
use Rattle.bike_operator.specs.declared.records.Place.TheVariants as place
use Rattle.bike_operator.specs.declared.records.Bike.{Bike}
use Rattle.bike_operator.specs.declared.records.Order.{Order}
use Rattle.bike_operator.specs.Operator.{Truck}
use Rattle.bike_book.specs.Rows.{place_columns, bike_row, truck_row, order_row}
use Rattle.std.proofs.lemmas.Option.{option_and_then_some, same_Some}
use Rattle.bike_readings.specs.ColumnReaders.{place_in}
use Rattle.bike_readings.specs.Bounds.{IsStoredPlace, IsStoredBike, IsStoredTruck, IsStoredOrder}
use Rattle.bike_readings.specs.BothWays.{BikeReading, TruckReading, OrderReading}
use Rattle.bike_readings.proofs.ColumnLaws.{number_column, flag_column, state_column, ident_column, end_column}
use Rattle.bike_readings.proofs.ChainLaws.{HasColumns, wide, takes, ends, gives, gives_wide, given, pick_null}

-- ---- places

-- the place stands in the columns behind the first three
abbrev Placed : Row → Place → Type 0
Placed row p = HasColumns row 3 (place_columns p) × IsStoredPlace p

place_sound : (row : Row) (p : Place) → place_in (column row 3) (column row 4) (column row 5) (column row 6) (column row 7) ≡ Some p → Placed row p
place_sound row p e =
    pick_null (column row 3 ∷ column row 4 ∷ column row 5 ∷ column row 6 ∷ column row 7 ∷ []) e (λ null e. subst (Placed row) (same_Some place.Depot p e) (null, tt)) (λ e.
    pick_null (column row 5 ∷ column row 6 ∷ column row 7 ∷ []) e (λ null e.
    takes _ ident_column e (λ at at_is at_good e.
    takes _ (number_column 1 MOST_DOCKS) e (λ n n_is n_good e.
    subst (Placed row) (same_Some (place.Dock at n) p e) ((at_is, (n_is, null)), record { good_station = at_good; good_dock = n_good })))) (λ e.
    pick_null (column row 3 ∷ column row 4 ∷ column row 6 ∷ column row 7 ∷ []) e (λ null e.
    takes _ (number_column 1 100000000) e (λ n n_is n_good e.
    subst (Placed row) (same_Some (place.Rental n) p e) ((null.0, (null.1.0, (n_is, null.1.1))), n_good))) (λ e.
    pick_null (column row 3 ∷ column row 4 ∷ column row 5 ∷ []) e (λ null e.
    takes _ (number_column 1 999999) e (λ n n_is n_good e.
    takes _ (number_column 1 100000000) e (λ for for_is for_good e.
    subst (Placed row) (same_Some (place.Truck n for) p e) ((null.0, (null.1.0, (null.1.1.0, (n_is, (for_is, tt))))), (n_good, for_good))))) (λ e. absurd cc))))

place_full : (p : Place) → IsStoredPlace p → place_in (column (place_columns p) 0) (column (place_columns p) 1) (column (place_columns p) 2) (column (place_columns p) 3) (column (place_columns p) 4)
    ≡ Some p
place_full (place.Dock station dock) g = gives _ station ident_column g.good_station (gives _ dock (number_column 1 MOST_DOCKS) g.good_dock refl)
place_full (place.Rental rental) g = gives _ rental (number_column 1 100000000) g refl
place_full (place.Truck truck order) g = gives _ truck (number_column 1 999999) g.0 (gives _ order (number_column 1 100000000) g.1 refl)
place_full place.Depot g = refl

place_width : (p : Place) → length (place_columns p) ≡ 5
place_width (place.Dock station dock) = refl
place_width (place.Rental rental) = refl
place_width (place.Truck truck order) = refl
place_width place.Depot = refl

-- ---- bicycles, trucks and orders

pub bike_reading : BikeReading
bike_reading = record {
  sound = λ row x e.
      wide 8 row e (λ width e.
      takes _ (number_column 1 999999) e (λ number number_is number_good e.
      takes _ ident_column e (λ type_id type_is type_good e.
      takes _ state_column e (λ state state_is _ e.
      option_and_then_some _ (place_in (column row 3) (column row 4) (column row 5) (column row 6) (column row 7)) x e (λ at read e.
      let placed = place_sound row at read in
      let columns = place_width at in
      ends (λ (x : ℕ × Bike). bike_row x.0 x.1) (λ x. IsStoredBike x.0 x.1) x e (omega (arith, width, columns)) (number_is, (type_is, (state_is, placed.0)))
      (record { good_number = number_good; type_id = type_good; place = placed.1 }))))));
  full = λ x g.
      let columns = place_width x.1.place in
      gives_wide 8 (bike_row x.0 x.1) (omega (arith, columns)) (
      gives _ x.0 (number_column 1 999999) g.good_number (
      gives _ x.1.type_id ident_column g.type_id (
      gives _ x.1.state state_column tt (
      given _ x.1.place (place_full x.1.place g.place) refl))));
}

pub truck_reading : TruckReading
truck_reading = record {
  sound = λ row x e.
      wide 2 row e (λ width e.
      takes _ (number_column 1 999999) e (λ number number_is number_good e.
      takes _ (number_column 1 60) e (λ capacity capacity_is capacity_good e.
      ends (λ (x : ℕ × Truck). truck_row x.0 x.1.capacity) (λ x. IsStoredTruck x.0 x.1) x e width (number_is, (capacity_is, tt)) (record { good_number = number_good; capacity = capacity_good }))));
  full = λ x g.
      gives _ x.0 (number_column 1 999999) g.good_number (
      gives _ x.1.capacity (number_column 1 60) g.capacity refl);
}

pub order_reading : OrderReading
order_reading = record {
  sound = λ row x e.
      wide 8 row e (λ width e.
      takes _ (number_column 1 100000000) e (λ number number_is number_good e.
      takes _ (number_column 1 999999) e (λ truck truck_is truck_good e.
      takes _ end_column e (λ from_end from_is from_good e.
      takes _ end_column e (λ to_end to_is to_good e.
      takes _ ident_column e (λ type_id type_is type_good e.
      takes _ (number_column 1 60) e (λ count count_is count_good e.
      takes _ (number_column 0 60) e (λ delivered delivered_is delivered_good e.
      takes _ flag_column e (λ is_open open_is _ e.
      ends (λ (x : ℕ × Order). order_row x.0 x.1) (λ x. IsStoredOrder x.0 x.1) x e width (number_is, (truck_is, (from_is, (to_is, (type_is, (count_is, (delivered_is, (open_is, tt))))))))
      (record { good_number = number_good; truck = truck_good; from_end = from_good; to_end = to_good; type_id = type_good; count = count_good; delivered = delivered_good.1 }))))))))));
  full = λ x g.
      gives _ x.0 (number_column 1 100000000) g.good_number (
      gives _ x.1.truck (number_column 1 999999) g.truck (
      gives _ x.1.from_end end_column g.from_end (
      gives _ x.1.to_end end_column g.to_end (
      gives _ x.1.type_id ident_column g.type_id (
      gives _ x.1.count (number_column 1 60) g.count (
      gives _ x.1.delivered (number_column 0 60) (omega arith, g.delivered) (
      gives _ x.1.is_open flag_column tt refl)))))));
}
