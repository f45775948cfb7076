-- What is read of the row of the next type, region, station or plan.
use Rattle.std.proofs.Common.{◌≡◌, inl, inr, ℕ, ℤ, List, [], ◌∷◌, find, slice_get, Bool, true, false, cond, Option, Some, None, Result, Ok, IfOk, refl, sym, ap, subst, ◌∙◌}
use Rattle.std.specs.Prelude.{option_map}
use Rattle.std.specs.Option.{ok_or}
use Rattle.std.specs.Ordering.{is_lt}
use Rattle.std.specs.FinMap as map
use Rattle.std.specs.FinMap.{FinMap, entries}
use Rattle.std.proofs.lemmas.Option.{same_Some}
use Rattle.sqlite_value.specs.declared.value.Value.{Value}
use Rattle.sqlite_value.specs.declared.value.Value.TheVariants.{Int, Text}
use Rattle.sqlite_value.specs.Order.{Row, column}
use Rattle.sqlite_rules.specs.Lists.{Has}
use Rattle.bike_fields.specs.declared.numbers.TheConstants.{MOST_DOCKS}
use Rattle.bike_fields.specs.declared.vehicle.Form.{Form}
use Rattle.bike_fields.specs.declared.vehicle.Propulsion.{Propulsion}
use Rattle.bike_catalogue.specs.Rows.{PlanRow, TypeRow, StationRow, RegionRow, region_of_fields}
use Rattle.bike_fields.specs.Vehicle.{form_text, propulsion_text}
use Rattle.bike_operator.specs.Operator.{Operator, Station, text_cmp}
use Rattle.bike_operator.specs.Sound.{IsSound}
use Rattle.bike_book.specs.Rows.{type_row, region_row, station_row}
use Rattle.bike_book.specs.Stored.{stored_plan}
use Rattle.bike_book.proofs.Keys.{texts}
use Rattle.bike_book.proofs.MapRows.{has_get}
use Rattle.bike_schema.specs.declared.fault.StatementFault.{StatementFault}
use Rattle.bike_schema.specs.Columns.{number_in, moment_in, flag_in, text_in, ident_in, name_in, or_none, read_or_failed}
use Rattle.bike_schema.proofs.ReadLemmas.{number_read, moment_read, flag_read, text_read, ident_read, name_read, optional_ident_read}
use Rattle.bike_queries.specs.After.{HoldsStation, IsNext, first_after, station_of}
use Rattle.bike_operator.specs.declared.station_info.StationInfo.{StationInfo}

-- ---- the next entry

first_has : {A : Type 0} (xs : List A) (x : A) → slice_get xs 0 ≡ Some x → Has xs x
first_has [] x is = absurd cc
first_has (y ∷ ys) x is = inl (sym (same_Some y x is))

pub find_has : {A : Type 0} (test : A → Bool) (xs : List A) (x : A) → find test xs ≡ Some x → Has xs x
find_has test [] x is = absurd cc
find_has test (y ∷ ys) x is = go (test y) (find_has test ys x) is where
  go : (b : Bool) → (find test ys ≡ Some x → Has ys x) → cond b (Some y) (find test ys) ≡ Some x → Has (y ∷ ys) x
  go true later found = inl (sym (same_Some y x found))
  go false later found = inr (later found)

-- the next entry is what the map has under its key
pub next_there : {V : Type 0} (after : Option (List ℕ)) (m : FinMap text_cmp V) (e : List ℕ × V) → first_after after m ≡ Some e → map.get m e.0 ≡ Some e.1
next_there None m e is = has_get texts.total m e (first_has (entries m) e is)
next_there (Some id) m e is = has_get texts.total m e (find_has (λ x. is_lt (text_cmp id x.0)) (entries m) e is)

-- the row of the next entry, whose value has the entry's key
pub next_found : {V : Type 0} (id : V → List ℕ) (row_of : List ℕ × V → Row) (o : Option (List ℕ × V)) {row : Row} {x : V} → ((e : List ℕ × V) → o ≡ Some e → e.0 ≡ id e.1)
    → Some row ≡ option_map row_of o
    → ((v : V) → row ≡ row_of (id v, v) → x ≡ v) → IsNext id o (Some x)
next_found id row_of None named is reads = absurd cc
next_found id row_of (Some e) {row} {x} named is reads =
    let row_is : row ≡ row_of e = same_Some row (row_of e) is in
    let same : x ≡ e.1 = reads e.1 (row_is ∙ ap (λ k. row_of (k, e.1)) (named e refl)) in
    (same, ap id same ∙ sym (named e refl))

pub no_next : {V : Type 0} (id : V → List ℕ) (row_of : List ℕ × V → Row) (o : Option (List ℕ × V)) → None ≡ option_map row_of o → IsNext id o None
no_next id row_of None is = tt
no_next id row_of (Some e) is = absurd cc

-- ---- what is read of a row

-- the value, or a failure
abbrev Told : {X : Type 0} → X → Option X → Type 0
Told x found = ◌≡◌ {A = Result _ StatementFault} (Ok x) (read_or_failed found)

-- what a column names, where each value is read from its own name
pub named_read : {X E : Type 0} (of : List ℕ → Option X) (text_of : X → List ℕ) → ((y : X) → of (text_of y) ≡ Some y) → (v : Value) (text : List ℕ) (o : Option X) (fault : E) (result : Result X E)
    → text_in v ≡ Some text → o ≡ of text → result ≡ ok_or o fault
    → IfOk result (λ x. (y : X) → v ≡ Text (text_of y) → x ≡ y)
named_read of text_of full v text o fault result shown read is = subst (λ r. IfOk r (λ x. (y : _) → v ≡ Text (text_of y) → x ≡ y)) (sym is) (by o read)
  where
    by : (o : Option _) → o ≡ of text → IfOk (ok_or o fault) (λ x. (y : _) → v ≡ Text (text_of y) → x ≡ y)
    by None read = tt
    by (Some x) read = λ y is. same_Some x y (read ∙ ap of (text_read shown is) ∙ full y)

-- a type's columns are read as they were stored
pub type_read : (x : TypeRow) (row : Row) (y : TypeRow) → ident_in (column row 0) ≡ Some x.type_id → name_in (column row 1) ≡ Some x.name
    → ((form : Form) → column row 2 ≡ Text (form_text form) → x.form ≡ form)
    → ((propulsion : Propulsion) → column row 3 ≡ Text (propulsion_text propulsion) → x.propulsion ≡ propulsion) → Told x.max_range (number_in 0 1000000 (column row 4))
    → ident_in (column row 5) ≡ Some x.plan_id → row ≡ type_row y.type_id y → x ≡ y
type_read x row y id name form propulsion range plan is =
    let at : (k : ℕ) → column row k ≡ column (type_row y.type_id y) k = λ k. ap (λ r. column r k) is in
    let id_is = ident_read id (at 0) in
    let name_is = name_read name (at 1) in
    let form_is = form y.form (at 2) in
    let propulsion_is = propulsion y.propulsion (at 3) in
    let range_is = number_read 0 1000000 range (at 4) in
    let plan_is = ident_read plan (at 5) in
    λ i. record { type_id = id_is i; name = name_is i; form = form_is i; propulsion = propulsion_is i; max_range = range_is i; plan_id = plan_is i }

-- a region's columns likewise
pub region_read : {id name : List ℕ} (row : Row) (y : RegionRow) → ident_in (column row 0) ≡ Some id → name_in (column row 1) ≡ Some name
    → row ≡ region_row y.region_id y → region_of_fields id name ≡ y
region_read row y id name is =
    let id_is = ident_read id (ap (λ r. column r 0) is) in
    let name_is = name_read name (ap (λ r. column r 1) is) in
    λ i. record { region_id = id_is i; name = name_is i }

-- a station's columns likewise
pub station_read : (x : StationRow) (row : Row) (y : Station) → ident_in (column row 0) ≡ Some x.station_id → name_in (column row 1) ≡ Some x.name
    → ((z : ℤ) → column row 2 ≡ Int z → x.lat ≡ z) → ((z : ℤ) → column row 3 ≡ Int z → x.lon ≡ z)
    → Told x.docks (number_in 1 MOST_DOCKS (column row 4)) → HoldsStation row y → x ≡ y.row
station_read x row y id name lat lon docks holds =
    let at : (k : ℕ) → column row k ≡ column (station_row y.row.station_id y holds.free holds.broken holds.by_type) k = λ k. ap (λ r. column r k) holds.is in
    let id_is = ident_read id (at 0) in
    let name_is = name_read name (at 1) in
    let lat_is = lat y.row.lat (at 2) in
    let lon_is = lon y.row.lon (at 3) in
    let docks_is = number_read 1 MOST_DOCKS docks (at 4) in
    λ i. record { station_id = id_is i; name = name_is i; lat = lat_is i; lon = lon_is i; docks = docks_is i }

pub info_read : (x : StationInfo) (row : Row) (y : Station) → x.station ≡ y.row → Told x.is_installed (flag_in (column row 5))
    → Told x.is_renting (flag_in (column row 6)) → Told x.is_returning (flag_in (column row 7))
    → Told x.reported (moment_in (column row 8)) → or_none ident_in (column row 11) ≡ Some x.region → HoldsStation row y → station_of x ≡ y
info_read x row y station installed renting returning reported region holds =
    let at : (k : ℕ) → column row k ≡ column (station_row y.row.station_id y holds.free holds.broken holds.by_type) k = λ k. ap (λ r. column r k) holds.is in
    let installed_is = flag_read y.is_installed installed (at 5) in
    let renting_is = flag_read y.is_renting renting (at 6) in
    let returning_is = flag_read y.is_returning returning (at 7) in
    let reported_is = moment_read reported (at 8) in
    let region_is = optional_ident_read y.region region (at 11) in
    λ i. record {
      row = station i;
      is_installed = installed_is i;
      is_renting = renting_is i;
      is_returning = returning_is i;
      reported = reported_is i;
      region = region_is i;
    }

-- ---- plans

-- the plan under the next identifier is the next plan
pub next_plan : (s : Operator) → IsSound s → (after : Option (List ℕ)) (plan : List ℕ) (x : Option PlanRow)
    → Some plan ≡ option_map (λ e. e.0) (first_after after s.plans) → x ≡ map.get s.plans plan → IsNext (λ p. p.plan_id) (first_after after s.plans) x
next_plan s sound after plan x is found = by (first_after after s.plans) refl is
  where
    by : (o : Option (List ℕ × PlanRow)) → first_after after s.plans ≡ o → Some plan ≡ option_map (λ e. e.0) o → IsNext (λ p. p.plan_id) o x
    by None next is = absurd cc
    by (Some e) next is =
        let there : map.get s.plans e.0 ≡ Some e.1 = next_there after s.plans e next in
        let plan_is : plan ≡ e.0 = same_Some plan e.0 is in
        let x_is : x ≡ Some e.1 = found ∙ ap (map.get s.plans) plan_is ∙ there in
        subst (IsNext (λ p. p.plan_id) (Some e)) (sym x_is) (refl, sym (sound.catalogue.plans e.0 e.1 there).id_is)

-- the identifier in the row of the next plan
pub next_named : (o : Option (List ℕ × PlanRow)) {row : Row} {id : List ℕ} → ident_in (column row 0) ≡ Some id → Some row ≡ option_map stored_plan o → Some id ≡ option_map (λ e. e.0) o
next_named None named is = absurd cc
next_named (Some e) {row} named is = ap Some (ident_read named (ap (λ r. column r 0) (same_Some row (stored_plan e) is)))

pub none_named : (o : Option (List ℕ × PlanRow)) → None ≡ option_map stored_plan o → None ≡ option_map (λ e. e.0) o
none_named None is = refl
none_named (Some e) is = absurd cc

pub no_plan : (o : Option (List ℕ × PlanRow)) → None ≡ option_map (λ e. e.0) o → IsNext (λ p. p.plan_id) o None
no_plan None is = tt
no_plan (Some e) is = absurd cc
