-- What the columns of a bicycle's row tell, where it is counted.
use Rattle.std.proofs.Common.{◌≡◌, ℕ, length, Option, Some, None, refl, sym, ap, ◌∙◌, subst, arith, List}
use Rattle.std.specs.Prelude.{unwrap_or, option_map}
use Rattle.std.proofs.lemmas.Option.{option_and_then_some, same_Some}
use Rattle.sqlite_value.specs.declared.value.Value.{Value}
use Rattle.sqlite_value.specs.declared.value.Value.TheVariants.{Text}
use Rattle.sqlite_value.specs.Order.{Row, column}
use Rattle.bike_fields.specs.declared.numbers.TheConstants.{MOST_DOCKS}
use Rattle.bike_operator.specs.declared.records.Place.{Place}
use Rattle.bike_operator.specs.declared.records.Place.TheVariants as place
use Rattle.bike_operator.specs.declared.records.Bike.{Bike}
use Rattle.sqlite.specs.Values.{or_null}
use Rattle.bike_book.specs.Rows.{number_value, place_columns, bike_row}
use Rattle.bike_schema.specs.Columns.{number_in, or_none}
use Rattle.bike_readings.specs.Readings.{bike_read}
use Rattle.bike_readings.specs.Bounds.{IsStoredPlace, IsStoredBike, IsWithin}
use Rattle.bike_readings.proofs.ColumnLaws.{IsColumn, IfAny, number_column, state_column, ident_column, or_none_column, ident_or_none_column}
use Rattle.bike_readings.proofs.ChainLaws.{wide, takes, gives, gives_wide, given}
use Rattle.bike_readings.proofs.FleetRows.{bike_reading}
use Rattle.bike_readings.specs.ReadOff.{first_of, truck_place, first_place, first_place_in, misplaced_bike, bike_in}

-- a number, or NULL
number_or_none_column : (lo hi : ℕ) → IsColumn (or_none (number_in lo hi)) (or_null number_value) (IfAny (IsWithin lo hi))
number_or_none_column lo hi = or_none_column (number_column lo hi) (λ n. refl)

-- ---- a row that is read is counted at its place

first_place_full : (p : Place) → IsStoredPlace p
    → first_place_in (column (place_columns p) 0) (column (place_columns p) 1) (column (place_columns p) 2) (column (place_columns p) 3) (column (place_columns p) 4) ≡ Some p
first_place_full (place.Dock station dock) g = gives _ (Some station) ident_or_none_column g.good_station (gives _ (Some dock) (number_or_none_column 1 MOST_DOCKS) g.good_dock refl)
first_place_full (place.Rental rental) g = gives _ (Some rental) (number_or_none_column 1 100000000) g refl
first_place_full (place.Truck truck order) g = gives _ (Some truck) (number_or_none_column 1 999999) g.0 (gives _ (Some order) (number_or_none_column 1 100000000) g.1 refl)
first_place_full place.Depot g = refl

place_width : (p : Place) → length (place_columns p) ≡ 5
place_width (place.Dock station dock) = refl
place_width (place.Rental rental) = refl
place_width (place.Truck truck order) = refl
place_width place.Depot = refl

misplaced_full : (n : ℕ) (b : Bike) → IsStoredBike n b → misplaced_bike (bike_row n b) ≡ Some (n, b)
misplaced_full n b good =
    let columns = place_width b.place in
    gives_wide 8 (bike_row n b) (omega (arith, columns)) (
    gives _ n (number_column 1 999999) good.good_number (
    gives _ b.type_id ident_column good.type_id (
    gives _ b.state state_column tt (
    given _ b.place (first_place_full b.place good.place) refl))))

-- a bicycle is counted at the first place that its row names
pub counted_first : (row : Row) → bike_in row ≡ misplaced_bike row
counted_first row = go (bike_read row) refl where
  go : (o : Option (ℕ × Bike)) → bike_read row ≡ o → first_of o (misplaced_bike row) ≡ misplaced_bike row
  go None e = refl
  go (Some x) e = let it = bike_reading.sound row x e in sym (ap misplaced_bike it.0 ∙ misplaced_full x.0 x.1 it.1)

pub counted_read : (row : Row) (e : ℕ × Bike) → bike_read row ≡ Some e → bike_in row ≡ Some e
counted_read row e is = ap (λ (o : Option (ℕ × Bike)). first_of o (misplaced_bike row)) is

-- ---- what its columns are

-- a truck and an order, in their columns
pub record IsOnTruck (on for : Value) (truck order : ℕ) : Type 0 where
  pub truck_is : on ≡ number_value truck
  pub order_is : for ≡ number_value order
  pub good_truck : IsWithin 1 999999 truck
  pub good_order : IsWithin 1 100000000 order

-- the columns of the place at which a bicycle is counted
abbrev pub HasPlace : Row → Place → Type 0
HasPlace row (place.Dock station dock) = (column row 3 ≡ Text station) × (column row 4 ≡ number_value dock)
HasPlace row (place.Rental rental) = column row 5 ≡ number_value rental
HasPlace row (place.Truck truck order) = IsOnTruck (column row 6) (column row 7) truck order
HasPlace row place.Depot = Unit {0}

place_has : (row : Row) (p : Place) → first_place_in (column row 3) (column row 4) (column row 5) (column row 6) (column row 7) ≡ Some p → HasPlace row p
place_has row p e =
    takes _ ident_or_none_column e (λ station station_is _ e.
    takes _ (number_or_none_column 1 MOST_DOCKS) e (λ dock dock_is _ e.
    takes _ (number_or_none_column 1 100000000) e (λ rental rental_is _ e.
    takes _ (number_or_none_column 1 999999) e (λ truck truck_is good_truck e.
    takes _ (number_or_none_column 1 100000000) e (λ order order_is good_order e.
    subst (HasPlace row) (same_Some (first_place station dock rental truck order) p e) (go station dock rental truck order station_is dock_is rental_is truck_is good_truck order_is good_order))))))
  where
    behind : (rental truck order : Option ℕ) → column row 5 ≡ or_null number_value rental → column row 6 ≡ or_null number_value truck → IfAny (IsWithin 1 999999) truck
        → column row 7 ≡ or_null number_value order → IfAny (IsWithin 1 100000000) order → HasPlace row (unwrap_or (first_of (option_map place.Rental rental) (truck_place truck order)) place.Depot)
    behind (Some n) truck order rental_is truck_is good_truck order_is good_order = rental_is
    behind None None order rental_is truck_is good_truck order_is good_order = tt
    behind None (Some n) None rental_is truck_is good_truck order_is good_order = tt
    behind None (Some n) (Some for) rental_is truck_is good_truck order_is good_order = record { truck_is = truck_is; order_is = order_is; good_truck = good_truck; good_order = good_order }

    go : (station : Option (List ℕ)) (dock rental truck order : Option ℕ) → column row 3 ≡ or_null Text station → column row 4 ≡ or_null number_value dock → column row 5 ≡ or_null number_value rental
        → column row 6 ≡ or_null number_value truck → IfAny (IsWithin 1 999999) truck → column row 7 ≡ or_null number_value order → IfAny (IsWithin 1 100000000) order
        → HasPlace row (first_place station dock rental truck order)
    go (Some at) (Some n) rental truck order station_is dock_is rental_is truck_is good_truck order_is good_order = (station_is, dock_is)
    go (Some at) None rental truck order station_is dock_is rental_is truck_is good_truck order_is good_order = behind rental truck order rental_is truck_is good_truck order_is good_order
    go None dock rental truck order station_is dock_is rental_is truck_is good_truck order_is good_order = behind rental truck order rental_is truck_is good_truck order_is good_order

pub record IsCounted (row : Row) (e : ℕ × Bike) : Type 0 where
  pub width : length row ≡ 8
  pub number_is : column row 0 ≡ number_value e.0
  pub number_good : IsWithin 1 999999 e.0
  pub type_is : column row 1 ≡ Text e.1.type_id
  pub placed : HasPlace row e.1.place

counted_misplaced : (row : Row) (e : ℕ × Bike) → misplaced_bike row ≡ Some e → IsCounted row e
counted_misplaced row x e =
    wide 8 row e (λ width e.
    takes _ (number_column 1 999999) e (λ number number_is number_good e.
    takes _ ident_column e (λ type_id type_is type_good e.
    takes {v = column row 2} _ state_column e (λ state state_is _ e.
    option_and_then_some _ (first_place_in (column row 3) (column row 4) (column row 5) (column row 6) (column row 7)) x e (λ at placed e.
    subst (IsCounted row) (same_Some (number, record { type_id = type_id; state = state; place = at }) x e)
    (record { width = width; number_is = number_is; number_good = number_good; type_is = type_is; placed = place_has row at placed }))))))

pub counted_is : (row : Row) (e : ℕ × Bike) → bike_in row ≡ Some e → IsCounted row e
counted_is row e is = counted_misplaced row e (sym (counted_first row) ∙ is)
