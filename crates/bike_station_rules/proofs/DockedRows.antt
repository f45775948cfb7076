-- The dock that a bicycle's row names first is in the columns of a dock, where those of other places keep their bounds.
use Rattle.std.proofs.Common.{◌≡◌, ℕ, ◌+◌, ◌<◌, List, [], ◌∷◌, length, Bool, true, false, cond, ◌&&◌, ◌==◌, ◌-◌, min, Option, Some, None, is_some, refl, sym, ap, ◌∙◌, subst, arith}
use Rattle.std.specs.Prelude.{take, drop, nat_le, option_and_then, option_map, unwrap_or}
use Rattle.sqlite_value.specs.declared.value.Value.{Value}
use Rattle.sqlite_value.specs.declared.value.Value.TheVariants.{Null, Int, Real, Text, Blob}
use Rattle.sqlite_value.specs.Order.{Row, column}
use Rattle.sqlite_sql.specs.Ops.{is_null}
use Rattle.bike_operator.specs.declared.records.Bike.{Bike}
use Rattle.bike_operator.specs.declared.records.BikeState.{BikeState}
use Rattle.bike_operator.specs.declared.records.Place.{Place}
use Rattle.bike_operator.specs.declared.records.Place.TheVariants as place
use Rattle.bike_book.specs.Rows.{number_value}
use Rattle.bike_schema.specs.Columns.{ident_in, state_in, or_none}
use Rattle.bike_readings.specs.ColumnReaders.{numbered_in, dock_in, serial_in, in_dock, in_rental, on_truck, place_in, are_null}
use Rattle.bike_readings.proofs.ColumnLaws.{ident_column, number_column}
use Rattle.std.proofs.lemmas.List.{get_or-take, get_or-drop, length-take, length-drop}
use Rattle.std.proofs.lemmas.Bool.Decides.{nat_tests}
use Rattle.bike_readings.specs.ReadOff.{bike_in, first_of, dock_place, truck_place, first_place, first_place_in}
use Rattle.bike_judges.specs.Lines.{part}
use Rattle.bike_station_rules.specs.Docked.{dock_of, docked_with, docked, docked_in, keep_bounds, dock_named, docked_parts, docked_columns}

-- The place is the dock that is named, which stands at the station of the column, or no dock.
pub record IsNamed (station : Value) (named : Option ℕ) (p : Place) : Type 0 where
  pub dock_is : dock_of p ≡ named
  pub text_is : (at : List ℕ) (n : ℕ) → p ≡ place.Dock at n → station ≡ Text at

-- .. and the same where there may be no place
pub record IsFirst (station : Value) (named : Option ℕ) (o : Option Place) : Type 0 where
  pub dock_is : option_and_then dock_of o ≡ named
  pub text_is : (at : List ℕ) (n : ℕ) → o ≡ Some (place.Dock at n) → station ≡ Text at

-- ---- columns

null_ident : (v : Value) → is_null v ≡ true → ident_in v ≡ None
null_ident Null is = refl
null_ident (Int n) is = absurd cc
null_ident (Real n) is = absurd cc
null_ident (Text n) is = absurd cc
null_ident (Blob n) is = absurd cc

null_dock : (v : Value) → is_null v ≡ true → dock_in v ≡ None
null_dock Null is = refl
null_dock (Int n) is = absurd cc
null_dock (Real n) is = absurd cc
null_dock (Text n) is = absurd cc
null_dock (Blob n) is = absurd cc

ident_text : (v : Value) (at : List ℕ) → ident_in v ≡ Some at → v ≡ Text at
ident_text v at is = (ident_column.sound v at is).0

first_null : (v : Value) (vs : List Value) → are_null (v ∷ vs) ≡ true → is_null v ≡ true
first_null v vs is = go (is_null v) is where
  go : (b : Bool) → (b && are_null vs) ≡ true → b ≡ true
  go true e = refl
  go false e = absurd cc

are_kept : (rental truck order : Value) → are_null (rental ∷ truck ∷ order ∷ []) ≡ true → keep_bounds rental truck order ≡ true
are_kept rental truck order is = go (is_null rental) refl (is_null truck) refl (is_null order) refl is where
  go : (a : Bool) → is_null rental ≡ a → (b : Bool) → is_null truck ≡ b → (c : Bool) → is_null order ≡ c → (a && (b && (c && true))) ≡ true → keep_bounds rental truck order ≡ true
  go true ea true eb true ec e =
      λ i. (is_some (cond (ea i) (Some None) (option_map Some (serial_in rental)))
      && (is_some (cond (eb i) (Some None) (option_map Some (numbered_in truck))) && is_some (cond (ec i) (Some None) (option_map Some (serial_in order)))))
  go true ea true eb false ec e = absurd cc
  go true ea false eb c ec e = absurd cc
  go false ea b eb c ec e = absurd cc

-- ---- places

none_if : {A : Type 0} (b : Bool) → ◌≡◌ {A = Option A} (cond b None None) None
none_if true = refl
none_if false = refl

rental_none : (rental : Value) (p : Place) → in_rental rental ≡ Some p → dock_of p ≡ None
rental_none rental p is = go (serial_in rental) is where
  go : (o : Option ℕ) → option_and_then (λ n. Some (place.Rental n)) o ≡ Some p → dock_of p ≡ None
  go None e = absurd cc
  go (Some n) e = let same : place.Rental n ≡ p = cc in ap dock_of (sym same)

truck_none : (truck order : Value) (p : Place) → on_truck truck order ≡ Some p → dock_of p ≡ None
truck_none truck order p is = go (numbered_in truck) (serial_in order) is where
  go : (a b : Option ℕ) → option_and_then (λ n. option_and_then (λ for. Some (place.Truck n for)) b) a ≡ Some p → dock_of p ≡ None
  go None b e = absurd cc
  go (Some n) None e = absurd cc
  go (Some n) (Some for) e = let same : place.Truck n for ≡ p = cc in ap dock_of (sym same)

-- the place of these parts, where each of them was read
abbrev place_of_parts : Option (Option (List ℕ)) → Option (Option ℕ) → Option (Option ℕ) → Option (Option ℕ) → Option (Option ℕ) → Option Place
place_of_parts a d r t o =
    option_and_then (λ at. option_and_then (λ n. option_and_then (λ ridden. option_and_then (λ on. option_and_then (λ for. Some (first_place at n ridden on for)) o) t) r) d) a

-- .. and the dock that they name first
abbrev dock_of_parts : Option (List ℕ) → Option ℕ → Option (Option ℕ) → Option (Option ℕ) → Option (Option ℕ) → Option ℕ
dock_of_parts i k r t o = cond (is_some i && (is_some r && (is_some t && is_some o))) k None

elsewhere : (at : Option (List ℕ)) (n ridden on for : Option ℕ) → dock_place at n ≡ None → dock_of (first_place at n ridden on for) ≡ None
elsewhere at n ridden on for none =
    ap (λ (o : Option Place). dock_of (unwrap_or (first_of o (first_of (option_map place.Rental ridden) (truck_place on for))) place.Depot)) none ∙ behind ridden on for where
      behind : (ridden on for : Option ℕ) → dock_of (unwrap_or (first_of (option_map place.Rental ridden) (truck_place on for)) place.Depot) ≡ None
      behind (Some r) on for = refl
      behind None None for = refl
      behind None (Some n) None = refl
      behind None (Some n) (Some for) = refl

no_whole_dock : (at : Option (List ℕ)) (n : Option ℕ) → dock_place at n ≡ None → (r t o : Option (Option ℕ)) → option_and_then dock_of (place_of_parts (Some at) (Some n) r t o) ≡ None
no_whole_dock at n none None t o = refl
no_whole_dock at n none (Some r) None o = refl
no_whole_dock at n none (Some r) (Some t) None = refl
no_whole_dock at n none (Some r) (Some t) (Some o) = elsewhere at n r t o none

module _ (station dock rental truck order : Value) where
  abbrev the_dock : Option ℕ
  the_dock = dock_named station dock rental truck order

  no_dock : (p : Place) → dock_of p ≡ None → the_dock ≡ None → IsNamed station the_dock p
  no_dock p none other = record { dock_is = none ∙ sym other; text_is = λ at n e. let d : dock_of p ≡ Some n = ap dock_of e in absurd cc }

  named_dock : (p : Place) → keep_bounds rental truck order ≡ true → in_dock station dock ≡ Some p → IsNamed station the_dock p
  named_dock p kept is = go (ident_in station) refl (dock_in dock) refl is where
    go : (a : Option (List ℕ)) → ident_in station ≡ a → (d : Option ℕ) → dock_in dock ≡ d → option_and_then (λ at. option_and_then (λ n. Some (place.Dock at n)) d) a ≡ Some p
        → IsNamed station the_dock p
    go None ea d ed same = absurd cc
    go (Some at) ea None ed same = absurd cc
    go (Some at) ea (Some n) ed same =
        let here : place.Dock at n ≡ p = cc in
        subst (IsNamed station the_dock) here (record {
          dock_is = sym ((λ i. cond (is_some (ea i) && kept i) (dock_in dock) None) ∙ ed);
          text_is = λ other m e. let same_at : at ≡ other = cc in ident_text station at ea ∙ ap Text same_at;
        })

  -- ---- the one place

  placed_named : (p : Place) → place_in station dock rental truck order ≡ Some p → IsNamed station the_dock p
  placed_named p is =
      go (are_null (station ∷ dock ∷ rental ∷ truck ∷ order ∷ [])) refl (are_null (rental ∷ truck ∷ order ∷ [])) refl (are_null (station ∷ dock ∷ truck ∷ order ∷ [])) refl
      (are_null (station ∷ dock ∷ rental ∷ [])) refl is
    where
      nothing : (vs : List Value) → are_null (station ∷ vs) ≡ true → the_dock ≡ None
      nothing vs e = ap (λ (o : Option (List ℕ)). cond (is_some o && keep_bounds rental truck order) (dock_in dock) None) (null_ident station (first_null station vs e))

      go : (a : Bool) → are_null (station ∷ dock ∷ rental ∷ truck ∷ order ∷ []) ≡ a → (b : Bool) → are_null (rental ∷ truck ∷ order ∷ []) ≡ b → (c : Bool)
          → are_null (station ∷ dock ∷ truck ∷ order ∷ []) ≡ c
          → (d : Bool) → are_null (station ∷ dock ∷ rental ∷ []) ≡ d
          → cond a (Some place.Depot) (cond b (in_dock station dock) (cond c (in_rental rental) (cond d (on_truck truck order) None))) ≡ Some p → IsNamed station the_dock p
      go true ea b eb c ec d ed e = let same : place.Depot ≡ p = cc in no_dock p (ap dock_of (sym same)) (nothing (dock ∷ rental ∷ truck ∷ order ∷ []) ea)
      go false ea true eb c ec d ed e = named_dock p (are_kept rental truck order eb) e
      go false ea false eb true ec d ed e = no_dock p (rental_none rental p e) (nothing (dock ∷ truck ∷ order ∷ []) ec)
      go false ea false eb false ec true ed e = no_dock p (truck_none truck order p e) (nothing (dock ∷ rental ∷ []) ed)
      go false ea false eb false ec false ed e = absurd cc

  -- ---- the first place

  nowhere : (o : Option Place) (d : Option ℕ) → option_and_then dock_of o ≡ None → d ≡ None → IsFirst station d o
  nowhere o d none other =
      record { dock_is = none ∙ sym other; text_is = λ at n e. let there : option_and_then dock_of o ≡ Some n = ap (λ (q : Option Place). option_and_then dock_of q) e in absurd cc }

  first_is : IsFirst station the_dock (first_place_in station dock rental truck order)
  first_is = go (is_null station) refl (ident_in station) refl (is_null dock) refl (dock_in dock) refl (or_none serial_in rental) (or_none numbered_in truck) (or_none serial_in order) where
    go : (a : Bool) → is_null station ≡ a → (i : Option (List ℕ)) → ident_in station ≡ i → (b : Bool) → is_null dock ≡ b → (k : Option ℕ) → dock_in dock ≡ k → (r t o : Option (Option ℕ))
        → IsFirst station (dock_of_parts i k r t o) (place_of_parts (cond a (Some None) (option_map Some i)) (cond b (Some None) (option_map Some k)) r t o)
    go true ea (Some at) ei b eb k ek r t o = absurd (let none = null_ident station ea in cc)
    go true ea None ei true eb k ek r t o = nowhere _ _ (no_whole_dock None None refl r t o) refl
    go true ea None ei false eb None ek r t o = nowhere None None refl refl
    go true ea None ei false eb (Some n) ek r t o = nowhere _ _ (no_whole_dock None (Some n) refl r t o) refl
    go false ea None ei b eb k ek r t o = nowhere None None refl refl
    go false ea (Some at) ei true eb (Some n) ek r t o = absurd (let none = null_dock dock eb in cc)
    go false ea (Some at) ei true eb None ek r t o = nowhere _ _ (no_whole_dock (Some at) None refl r t o) (none_if (is_some r && (is_some t && is_some o)))
    go false ea (Some at) ei false eb None ek r t o = nowhere None _ refl (none_if (is_some r && (is_some t && is_some o)))
    go false ea (Some at) ei false eb (Some n) ek None t o = nowhere None None refl refl
    go false ea (Some at) ei false eb (Some n) ek (Some r) None o = nowhere None None refl refl
    go false ea (Some at) ei false eb (Some n) ek (Some r) (Some t) None = nowhere None None refl refl
    go false ea (Some at) ei false eb (Some n) ek (Some r) (Some t) (Some o) =
        record {
          dock_is = refl;
          text_is =
              λ other m e. let is : ◌≡◌ {A = Option Place} (Some (place.Dock at n)) (Some (place.Dock other m)) = e in let same : at ≡ other = cc in ident_text station at ei ∙ ap Text same;
        }

-- ---- rows

abbrev made : ℕ → List ℕ → BikeState → Place → ℕ × Bike
made bike type_id state p = (bike, record { type_id = type_id; state = state; place = p })

-- the bicycle of these parts, and none where one is missing
abbrev of_parts : Bool → Option ℕ → Option (List ℕ) → Option BikeState → Option Place → Option (ℕ × Bike)
of_parts wide n t s p = cond wide (option_and_then (λ bike. option_and_then (λ type_id. option_and_then (λ state. option_and_then (λ at. Some (made bike type_id state at)) p) s) t) n) None

-- where there is a bicycle, of which the place is named; and it is in the dock just where its first three columns are read
pub record IsBikeOf (wide : Bool) (n : Option ℕ) (t : Option (List ℕ)) (s : Option BikeState) (station : Value) (dock : Option ℕ) (o : Option (ℕ × Bike)) : Type 0 where
  pub docked_is : option_and_then (λ (e : ℕ × Bike). docked e.1) o ≡ cond (wide && is_some n) (docked_parts t s dock) None
  pub named : (e : ℕ × Bike) → o ≡ Some e → IsNamed station dock e.1.place
  pub number_is : (e : ℕ × Bike) → o ≡ Some e → (wide ≡ true) × (n ≡ Some e.0)

bike_is : (wide : Bool) (n : Option ℕ) (t : Option (List ℕ)) (s : Option BikeState) (station : Value) (dock : Option ℕ) (p first : Option Place)
    → ((at : Place) → p ≡ Some at → IsNamed station dock at) → IsFirst station dock first
    → IsBikeOf wide n t s station dock (first_of (of_parts wide n t s p) (of_parts wide n t s first))
bike_is false n t s station dock p first each it = record { docked_is = refl; named = λ e is. absurd cc; number_is = λ e is. absurd cc }
bike_is true None t s station dock p first each it = record { docked_is = refl; named = λ e is. absurd cc; number_is = λ e is. absurd cc }
bike_is true (Some n) None s station dock p first each it = record { docked_is = refl; named = λ e is. absurd cc; number_is = λ e is. absurd cc }
bike_is true (Some n) (Some t) None station dock p first each it = record { docked_is = refl; named = λ e is. absurd cc; number_is = λ e is. absurd cc }
bike_is true (Some n) (Some t) (Some s) station dock None None each it = record { docked_is = ap (docked_with t s) it.dock_is; named = λ e is. absurd cc; number_is = λ e is. absurd cc }
bike_is true (Some n) (Some t) (Some s) station dock None (Some first) each it =
    let here : IsNamed station dock first = record { dock_is = it.dock_is; text_is = λ at m is. it.text_is at m (ap (λ (p : Place). Some p) is) } in
    record {
      docked_is = ap (docked_with t s) it.dock_is;
      named = λ e is. let same : made n t s first ≡ e = cc in subst (λ (x : ℕ × Bike). IsNamed station dock x.1.place) same here;
      number_is = λ e is. (refl, let same : made n t s first ≡ e = cc in ap (λ (x : ℕ × Bike). Some x.0) same);
    }
bike_is true (Some n) (Some t) (Some s) station dock (Some p) first each it =
    let here = each p refl in
    record {
      docked_is = ap (docked_with t s) here.dock_is;
      named = λ e is. let same : made n t s p ≡ e = cc in subst (λ (x : ℕ × Bike). IsNamed station dock x.1.place) same here;
      number_is = λ e is. (refl, let same : made n t s p ≡ e = cc in ap (λ (x : ℕ × Bike). Some x.0) same);
    }

-- the dock that the columns of a row's place name first
abbrev pub dock_of_row : Row → Option ℕ
dock_of_row row = dock_named (column row 3) (column row 4) (column row 5) (column row 6) (column row 7)

pub row_is : (row : Row) → IsBikeOf (length row == 8) (numbered_in (column row 0)) (ident_in (column row 1)) (state_in (column row 2)) (column row 3) (dock_of_row row) (bike_in row)
row_is row =
    bike_is (length row == 8) (numbered_in (column row 0)) (ident_in (column row 1)) (state_in (column row 2)) (column row 3) (dock_of_row row)
    (place_in (column row 3) (column row 4) (column row 5) (column row 6) (column row 7)) (first_place_in (column row 3) (column row 4) (column row 5) (column row 6) (column row 7))
    (placed_named (column row 3) (column row 4) (column row 5) (column row 6) (column row 7)) (first_is (column row 3) (column row 4) (column row 5) (column row 6) (column row 7))

-- ---- lines

wide_by : (n m : ℕ) → m ≡ min 8 (n - 3) → nat_le 11 n ≡ (m == 8)
wide_by n m is = grind (arith, nat_tests, is)

pub docked_is : (line : Row) → docked_columns line ≡ docked_in (part 3 8 line)
docked_is line =
    let row = part 3 8 line in
    let at : (k : ℕ) → k < 8 → column row k ≡ column line (3 + k) = λ k low. get_or-take 8 (drop 3 line) k Null low ∙ get_or-drop 3 line k Null in
    let wide : nat_le 11 (length line) ≡ (length row == 8) = wide_by (length line) (length row) (length-take 8 (drop 3 line) ∙ ap (λ (n : ℕ). min 8 n) (length-drop 3 line)) in
    let c0 : column row 0 ≡ column line 3 = at 0 (omega arith) in
    let c1 : column row 1 ≡ column line 4 = at 1 (omega arith) in
    let c2 : column row 2 ≡ column line 5 = at 2 (omega arith) in
    let c3 : column row 3 ≡ column line 6 = at 3 (omega arith) in
    let c4 : column row 4 ≡ column line 7 = at 4 (omega arith) in
    let c5 : column row 5 ≡ column line 8 = at 5 (omega arith) in
    let c6 : column row 6 ≡ column line 9 = at 6 (omega arith) in
    let c7 : column row 7 ≡ column line 10 = at 7 (omega arith) in
    (λ i. cond (wide i && is_some (numbered_in (sym c0 i)))
    (docked_parts (ident_in (sym c1 i)) (state_in (sym c2 i)) (dock_named (sym c3 i) (sym c4 i) (sym c5 i) (sym c6 i) (sym c7 i))) None)
    ∙ sym (row_is row).docked_is

-- ---- bicycles by their numbers

first_of_eight : (r : Row) → (length r == 8) ≡ true → take 1 r ≡ column r 0 ∷ []
first_of_eight [] wide = absurd cc
first_of_eight (v ∷ r) wide = refl

pub bike_own : (r : Row) (e : ℕ × Bike) → bike_in r ≡ Some e → (take 1 r ≡ number_value e.0 ∷ []) × Unit {0}
bike_own r e is =
    let it = (row_is r).number_is e is in
    (first_of_eight r it.0 ∙ ap (λ (v : Value). v ∷ []) ((number_column 1 999999).sound (column r 0) e.0 it.1).0, tt)
