-- The bicycles by type of an account with all lines of docks and then of all bicycles are those of the operator.
use Rattle.std.proofs.Common.{◌≡◌, inl, inr, ℕ, ◌-◌, List, [], ◌∷◌, ◌++◌, length, map, fold, Bool, true, false, cond, not, ◌&&◌, Option, Some, None, refl, sym, ap, ◌∙◌}
use Rattle.std.specs.Prelude.{option_and_then}
use Rattle.std.specs.List.{filter_map, cons_option}
use Rattle.std.specs.Str.{bytes_eq}
use Rattle.std.specs.FinMap as fin
use Rattle.std.proofs.lemmas.List.Sums.{fold-append}
use Rattle.sqlite_value.specs.declared.value.Value.{Value}
use Rattle.sqlite_value.specs.declared.value.Value.TheVariants.{Text}
use Rattle.sqlite_value.specs.Order.{Row, column}
use Rattle.sqlite_rules.specs.Lists.{Has}
use Rattle.bike_operator.specs.declared.records.Bike.{Bike}
use Rattle.bike_operator.specs.declared.records.BikeState.{BikeState}
use Rattle.bike_operator.specs.declared.records.Place.{Place}
use Rattle.bike_operator.specs.declared.records.Place.TheVariants as place
use Rattle.bike_operator.specs.Operator.{Operator}
use Rattle.bike_operator.specs.Counts.{is_at, is_fit, is_working_dock, is_broken}
use Rattle.bike_book.specs.ByType.{with_bike, types_at}
use Rattle.bike_book.specs.declared.by_type.CountedType.{CountedType}
use Rattle.bike_book.specs.Tables.{Tables, Bikes}
use Rattle.bike_book.specs.declared.columns.stations.TheConstants as stations
use Rattle.bike_book.specs.declared.columns.bikes.TheConstants as bikes
use Rattle.bike_book.proofs.Keys.{numbers}
use Rattle.bike_readings.specs.ReadOff.{operator_of, bike_in}
use Rattle.bike_readings.specs.Rules.{AreInOrder}
use Rattle.bike_judges.specs.Lines.{nulls, station_dock_line, station_bike_line}
use Rattle.bike_judges.proofs.Lookups.{entries_read}
use Rattle.bike_station_rules.specs.DockSets.{has_bit, with_bit}
use Rattle.bike_station_rules.specs.Docked.{Docked, dock_of, docked_with, docked, docked_in}
use Rattle.bike_station_rules.specs.Types.{with_one, TypesSeen}
use Rattle.bike_station_rules.specs.Stations.{is_same_text, docked_at, owner, of_owner, with_docked, more}
use Rattle.bike_station_rules.specs.declared.account.StationAccount.{StationAccount}
use Rattle.bike_station_rules.proofs.DockTest.{AreWide, take_front}
use Rattle.bike_station_rules.proofs.DockedRows.{row_is, bike_own}

none_said : {A : Type 0} (b : Bool) → ◌≡◌ {A = Option A} (cond b None None) None
none_said true = refl
none_said false = refl

-- ---- what lines leave as it is

owner_still : (xs : List Row) (a : StationAccount) → owner (fold more a xs) ≡ owner a
owner_still [] a = refl
owner_still (x ∷ xs) a = owner_still xs (more a x)

docks_count_none : (rows : List Row) (a : StationAccount) → (fold more a (map station_dock_line rows)).by_type ≡ a.by_type
docks_count_none [] a = refl
docks_count_none (r ∷ rows) a =
    docks_count_none rows (more a (station_dock_line r))
    ∙ ap (λ (o : Option Docked). record (a.by_type) { types = with_docked a.is_broken o a.by_type.types }) (none_said (is_same_text (column (station_dock_line r) 0) (owner a)))

bikes_break_none : (rows : List Row) (a : StationAccount) → (fold more a (map station_bike_line rows)).is_broken ≡ a.is_broken
bikes_break_none [] a = refl
bikes_break_none (r ∷ rows) a =
    bikes_break_none rows (more a (station_bike_line r)) ∙ ap (λ (o : Option ℕ). with_bit o a.is_broken) (none_said (is_same_text (column (station_bike_line r) 0) (owner a)))

-- ---- what a bicycle adds

module _ (s : Operator) (id : List ℕ) where
  -- the types with the bicycle that a row spells
  abbrev with_read : Option (ℕ × Bike) → List CountedType → List CountedType
  with_read None cs = cs
  with_read (Some b) cs = with_bike s id cs b

  module _ (broken : List Bool) (broken_is : (n : ℕ) → has_bit broken n ≡ is_broken s id n) where
    abbrev said : Row → Option Docked → List CountedType → List CountedType
    said r o cs = with_docked broken (of_owner (Text id) (station_bike_line r) o) cs

    -- the types with a bicycle of this type and state at this place
    abbrev placed : List ℕ → BikeState → List CountedType → Place → List CountedType
    placed type_id state cs p = cond (is_at id p) (with_one type_id (is_fit state && is_working_dock s id p) cs) cs

    none_adds : (r : Row) (o : Option Docked) (cs : List CountedType) → o ≡ None → said r o cs ≡ cs
    none_adds r o cs none = ap (λ (q : Option Docked). said r q cs) none ∙ ap (λ (q : Option Docked). with_docked broken q cs) (none_said (is_same_text (column (station_bike_line r) 0) (Text id)))

    bike_adds : (r : Row) (cs : List CountedType) → length r ≡ bikes.COLUMNS → said r (docked_at (station_bike_line r)) cs ≡ with_read (bike_in r) cs
    bike_adds r cs wide =
        ap (λ (x : Row). said r (docked_in x) cs) (take_front bikes.COLUMNS r (nulls (stations.COLUMNS - bikes.COLUMNS)) wide) ∙ go (bike_in r) refl where
          go : (o : Option (ℕ × Bike)) → bike_in r ≡ o → said r (docked_in r) cs ≡ with_read (bike_in r) cs
          go None e =
              none_adds r (docked_in r) cs (ap (λ (q : Option (ℕ × Bike)). option_and_then (λ (x : ℕ × Bike). docked x.1) q) e) ∙ sym (ap (λ (q : Option (ℕ × Bike)). with_read q cs) e)
          go (Some x) e = by x.1.place refl ∙ sym (ap (λ (q : Option (ℕ × Bike)). with_read q cs) e) where
            is_docked : (p : Place) → x.1.place ≡ p → docked_in r ≡ docked_with x.1.type_id x.1.state (dock_of p)
            is_docked p is =
                ap (λ (q : Option (ℕ × Bike)). option_and_then (λ (y : ℕ × Bike). docked y.1) q) e ∙ ap (λ (q : Place). docked_with x.1.type_id x.1.state (dock_of q)) is

            elsewhere : (p : Place) → x.1.place ≡ p → docked_with x.1.type_id x.1.state (dock_of p) ≡ None → placed x.1.type_id x.1.state cs p ≡ cs → said r (docked_in r) cs ≡ with_bike s id cs x
            elsewhere p is none out = none_adds r (docked_in r) cs (is_docked p is ∙ none) ∙ sym (ap (placed x.1.type_id x.1.state cs) is ∙ out)

            by : (p : Place) → x.1.place ≡ p → said r (docked_in r) cs ≡ with_bike s id cs x
            by (place.Dock at m) is =
                let station : column r 3 ≡ Text at = ((row_is r).named x e).text_is at m is in
                let bike : docked_in r ≡ Some (record { dock = m; type_id = x.1.type_id; is_fit = is_fit x.1.state }) = is_docked (place.Dock at m) is in
                (λ i. with_docked broken (cond (is_same_text (station i) (Text id)) (bike i) None) cs) ∙ own (bytes_eq at id) ∙ sym (ap (placed x.1.type_id x.1.state cs) is)
              where
                own : (b : Bool)
                    → with_docked broken (cond b (Some (record { dock = m; type_id = x.1.type_id; is_fit = is_fit x.1.state })) None) cs
                    ≡ cond b (with_one x.1.type_id (is_fit x.1.state && (b && not (is_broken s id m))) cs) cs
                own true = ap (λ (c : Bool). with_one x.1.type_id (is_fit x.1.state && not c) cs) (broken_is m)
                own false = refl
            by (place.Rental rental) is = elsewhere (place.Rental rental) is refl refl
            by (place.Truck truck order) is = elsewhere (place.Truck truck order) is refl refl
            by place.Depot is = elsewhere place.Depot is refl refl

    -- the lines of bicycles add those that their rows spell, in the order of the rows
    bikes_add : (rows : List Row) → ((r : Row) → Has rows r → length r ≡ bikes.COLUMNS) → (a : StationAccount) → owner a ≡ Text id → a.is_broken ≡ broken
        → (fold more a (map station_bike_line rows)).by_type.types ≡ fold (with_bike s id) a.by_type.types (filter_map bike_in rows)
    bikes_add [] wide a own same = refl
    bikes_add (r ∷ rows) wide a own same =
        let rest = bikes_add rows (λ x h. wide x (inr h)) (more a (station_bike_line r)) own (bikes_break_none (r ∷ []) a ∙ same) in
        let here : (more a (station_bike_line r)).by_type.types ≡ with_read (bike_in r) a.by_type.types =
        (λ i. with_docked (same i) (of_owner (own i) (station_bike_line r) (docked_at (station_bike_line r))) a.by_type.types) ∙ bike_adds r a.by_type.types (wide r (inl refl)) in
        rest ∙ ap (λ (cs : List CountedType). fold (with_bike s id) cs (filter_map bike_in rows)) here ∙ go (bike_in r) a.by_type.types
      where
        go : (o : Option (ℕ × Bike)) (cs : List CountedType) → fold (with_bike s id) (with_read o cs) (filter_map bike_in rows) ≡ fold (with_bike s id) cs (cons_option o (filter_map bike_in rows))
        go None cs = refl
        go (Some b) cs = refl

-- THE TYPES of an account with all lines
module _ (t : Tables) (up : AreInOrder t) (wide : AreWide t) (a : StationAccount) (id : List ℕ) (own : owner a ≡ Text id) (none : a.by_type.types ≡ []) where
  abbrev s : Operator
  s = operator_of t

  abbrev docks : List Row
  docks = map station_dock_line t.docks

  abbrev bikes_behind : List Row
  bikes_behind = map station_bike_line t.bikes

  pub types_now : ((n : ℕ) → has_bit (fold more a (docks ++ bikes_behind)).is_broken n ≡ is_broken s id n) → (fold more a (docks ++ bikes_behind)).by_type.types ≡ types_at s id
  types_now broken_is =
      let first = fold more a docks in
      let parts : fold more a (docks ++ bikes_behind) ≡ fold more first bikes_behind = fold-append more a docks bikes_behind in
      ap (λ (b : StationAccount). b.by_type.types) parts
      ∙ bikes_add s id first.is_broken (λ n. ap (λ (set : List Bool). has_bit set n) (sym (bikes_break_none t.bikes first)) ∙ ap (λ (b : StationAccount). has_bit b.is_broken n) (sym parts) ∙ broken_is n)
      t.bikes (wide Bikes) first (owner_still docks a ∙ own) refl
      ∙ ap (λ (cs : List CountedType). fold (with_bike s id) cs (filter_map bike_in t.bikes)) (ap (λ (b : TypesSeen). b.types) (docks_count_none t.docks a) ∙ none)
      ∙ ap (λ (es : List (ℕ × Bike)). fold (with_bike s id) [] es) (sym (entries_read numbers bike_in bike_own t.bikes (up Bikes)))
