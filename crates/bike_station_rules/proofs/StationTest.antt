-- The account of a station with all lines of docks and bicycles says what is demanded of its numbers.
use Rattle.std.proofs.Common.{◌≡◌, inl, inr, ℕ, ◌-◌, ℤ, pos, List, [], ◌∷◌, ◌++◌, length, map, fold, Bool, true, false, cond, not, ◌&&◌, ◌||◌, ◌==◌, Option, Some, None, is_none, find, refl, sym, ap}
use Rattle.std.proofs.Common.{◌∙◌}
use Rattle.std.specs.Prelude.{take, replicate, option_map, option_and_then}
use Rattle.std.specs.List.{filter_map, list_any}
use Rattle.std.specs.Option.{IsSomeAnd}
use Rattle.std.specs.Ordering.{int_eq, eq_by_cmp}
use Rattle.std.specs.Cmp.{eq_by_cmp_equiv}
use Rattle.std.specs.Str.{bytes_eq}
use Rattle.std.specs.FinSet as set
use Rattle.std.proofs.lemmas.Bool.{and_parts}
use Rattle.std.proofs.lemmas.Bool.Decides.{eqb_tells, Decides-int_eq}
use Rattle.std.proofs.lemmas.List.{length-replicate}
use Rattle.std.proofs.lemmas.List.Folds.{list_any-append}
use Rattle.std.proofs.lemmas.Slice.Eq.{bytes_eq-Decides}
use Rattle.sqlite_value.specs.declared.value.Value.{Value}
use Rattle.sqlite_value.specs.declared.value.Value.TheVariants.{Text}
use Rattle.sqlite_value.specs.Order.{Row, column}
use Rattle.sqlite_rules.specs.Lists.{Has}
use Rattle.bike_operator.specs.declared.records.Bike.{Bike}
use Rattle.bike_operator.specs.declared.records.BikeState.{BikeState}
use Rattle.bike_operator.specs.declared.records.Place.{Place}
use Rattle.bike_operator.specs.declared.records.Place.TheVariants as place
use Rattle.bike_operator.specs.Operator.{Operator, Station, DockKey, texts_cmp, dock_key}
use Rattle.bike_operator.specs.Counts.{is_dock, docked_at, is_broken, docks_available, docks_broken, docks_up_to}
use Rattle.bike_laws.proofs.SingleSteps.MapLemmas.{texts_order, tied}
use Rattle.bike_laws.proofs.SingleSteps.StoredCountLemmas.{count_same}
use Rattle.bike_book.specs.ByType.{types_at, by_type_text}
use Rattle.bike_book.specs.Tables.{Tables, Stations, Docks, Bikes}
use Rattle.bike_book.specs.declared.columns.stations.TheConstants as stations
use Rattle.bike_book.specs.declared.columns.docks.TheConstants as docks
use Rattle.bike_book.specs.declared.columns.bikes.TheConstants as bikes
use Rattle.bike_book.proofs.Keys.{numbers}
use Rattle.bike_readings.specs.Readings.{dock_read, station_read}
use Rattle.bike_readings.proofs.CatalogueRows.{dock_reading, station_reading}
use Rattle.bike_readings.specs.ReadOff.{operator_of, broken_in, bike_in}
use Rattle.bike_readings.specs.Rules.{AreInOrder}
use Rattle.bike_judges.specs.Lines.{part, nulls, station_line, station_dock_line, station_bike_line}
use Rattle.bike_judges.specs.Passes.{is_good_with}
use Rattle.bike_station_rules.specs.DockSets.{has_bit, many_in, many_in_neither}
use Rattle.bike_station_rules.specs.Docked.{Docked, dock_of, docked_with, docked, docked_in}
use Rattle.bike_station_rules.specs.Stations.{is_same_text, broken_dock, broken_at, taken_at, owner, of_owner, station_opening, begins, more, good, key}
use Rattle.bike_station_rules.specs.declared.account.StationAccount.{StationAccount}
use Rattle.bike_station_rules.specs.declared.dock_set.TheConstants.{PLACES}
use Rattle.bike_judges.proofs.Lookups.{entries_read}
use Rattle.bike_station_rules.proofs.DockTest.{AreWide, take_front}
use Rattle.bike_station_rules.proofs.DockedRows.{row_is, bike_own}
use Rattle.bike_station_rules.proofs.Bits.{is_bit, or_false, none_set, any_map, of_read, any_read, any_same, any_none, none_found}
use Rattle.bike_station_rules.proofs.TypesTest.{types_now}
use Rattle.bike_station_rules.proofs.Folds.{broken_after, taken_after, same_docks, same_free, same_broken, same_told}

-- ---- what one line says

-- the line says something of this dock of this station
abbrev says_broken : List ℕ → ℕ → Row → Bool
says_broken id n x = is_bit n (of_owner (Text id) x (broken_at x))

abbrev says_taken : List ℕ → ℕ → Row → Bool
says_taken id n x = is_bit n (of_owner (Text id) x (taken_at x))

none_of_owner : (station : Value) (x : Row) (n : ℕ) (said : Option ℕ) → said ≡ None → is_bit n (of_owner station x said) ≡ false
none_of_owner station x n said none = ap (λ (o : Option ℕ). is_bit n (of_owner station x o)) none ∙ go (is_same_text (column x 0) station) where
  go : (b : Bool) → is_bit n (cond b None None) ≡ false
  go true = refl
  go false = refl

-- a key of a dock
key_test : (id at : List ℕ) (n m : ℕ) → is_bit n (cond (bytes_eq at id) (Some m) None) ≡ eq_by_cmp texts_cmp (dock_key id n) (dock_key at m)
key_test id at n m = go (bytes_eq at id) refl (m == n) refl (eq_by_cmp texts_cmp (dock_key id n) (dock_key at m)) refl where
  go : (a : Bool) → bytes_eq at id ≡ a → (b : Bool) → (m == n) ≡ b → (c : Bool) → eq_by_cmp texts_cmp (dock_key id n) (dock_key at m) ≡ c
      → is_bit n (cond a (Some m) None) ≡ eq_by_cmp texts_cmp (dock_key id n) (dock_key at m)
  go true ea true eb c ec =
      let same : at ≡ id = (bytes_eq-Decides at id).0 ea in
      let number : m ≡ n = elim (eqb_tells m n) [ inl is ↦ is.1 | inr other ↦ absurd (let no = other.0 in cc) ] in
      eb ∙ sym ((eq_by_cmp_equiv texts_order.total).refl (dock_key id n)) ∙ (λ i. eq_by_cmp texts_cmp (dock_key id n) (dock_key (sym same i) (sym number i)))
  go true ea false eb true ec =
      let same : dock_key id n ≡ dock_key at m = tied texts_order (dock_key id n) (dock_key at m) ec in
      let number : n ≡ m = cc in
      absurd (elim (eqb_tells m n) [ inl is ↦ (let yes = is.0 in cc) | inr other ↦ other.1 (sym number) ])
  go true ea false eb false ec = eb ∙ sym ec
  go false ea b eb true ec =
      let same : dock_key id n ≡ dock_key at m = tied texts_order (dock_key id n) (dock_key at m) ec in
      let text : id ≡ at = cc in
      let yes : bytes_eq at id ≡ true = (bytes_eq-Decides at id).1 (sym text) in
      absurd cc
  go false ea b eb false ec = sym ec

module _ (id : List ℕ) (n : ℕ) where
  abbrev of_key : Option DockKey → Bool
  of_key = of_read (eq_by_cmp texts_cmp (dock_key id n))

  abbrev key_of_broken : List ℕ × ℕ × Bool → Option DockKey
  key_of_broken d = cond d.2 (Some (dock_key d.0 d.1)) None

  -- a row of docks says that the dock is broken
  dock_says : (r : Row) → length r ≡ docks.COLUMNS → says_broken id n (station_dock_line r) ≡ of_key (broken_in r)
  dock_says r wide =
      ap (λ (x : Row). is_bit n (of_owner (Text id) (station_dock_line r) (broken_dock (dock_read x)))) (take_front docks.COLUMNS r (nulls (stations.COLUMNS - docks.COLUMNS)) wide)
      ∙ go (dock_read r) refl where
        go : (o : Option (List ℕ × ℕ × Bool)) → dock_read r ≡ o → is_bit n (of_owner (Text id) (station_dock_line r) (broken_dock (dock_read r))) ≡ of_key (broken_in r)
        go None e =
            none_of_owner (Text id) (station_dock_line r) n (broken_dock (dock_read r)) (ap broken_dock e) ∙ sym (ap (λ (q : Option (List ℕ × ℕ × Bool)). of_key (option_and_then key_of_broken q)) e)
        go (Some d) e = by d.2 refl where
          station : column r 0 ≡ Text d.0
          station = ap (λ (x : Row). column x 0) (dock_reading.sound r d e).0

          by : (b : Bool) → d.2 ≡ b → is_bit n (of_owner (Text id) (station_dock_line r) (broken_dock (dock_read r))) ≡ of_key (broken_in r)
          by true t =
              (λ i. is_bit n (cond (is_same_text (station i) (Text id)) (broken_dock (e i)) None))
              ∙ ap (λ (b : Bool). is_bit n (cond (bytes_eq d.0 id) (cond b (Some d.1) None) None)) t
              ∙ key_test id d.0 n d.1
              ∙ sym (ap (λ (q : Option (List ℕ × ℕ × Bool)). of_key (option_and_then key_of_broken q)) e ∙ ap (λ (b : Bool). of_key (cond b (Some (dock_key d.0 d.1)) None)) t)
          by false t =
              none_of_owner (Text id) (station_dock_line r) n (broken_dock (dock_read r)) (ap broken_dock e ∙ ap (λ (b : Bool). cond b (Some d.1) None) t)
              ∙ sym (ap (λ (q : Option (List ℕ × ℕ × Bool)). of_key (option_and_then key_of_broken q)) e ∙ ap (λ (b : Bool). of_key (cond b (Some (dock_key d.0 d.1)) None)) t)

  abbrev is_in : ℕ × Bike → Bool
  is_in e = is_dock id n e.1.place

  and_by : (b c : Bool) (m : ℕ) → (m == n) ≡ c → is_bit n (cond b (Some m) None) ≡ (b && c)
  and_by true c m is = is
  and_by false c m is = refl

  -- the dock that a bicycle of this type and state at this place is in
  abbrev taken_by : List ℕ → BikeState → Place → Option ℕ
  taken_by type_id state p = option_map (λ (b : Docked). b.dock) (docked_with type_id state (dock_of p))

  abbrev taken_in : Row → Option ℕ
  taken_in r = option_map (λ (b : Docked). b.dock) (docked_in r)

  -- a row of bicycles says that the dock holds one
  bike_says : (r : Row) → length r ≡ bikes.COLUMNS → says_taken id n (station_bike_line r) ≡ of_read is_in (bike_in r)
  bike_says r wide =
      ap (λ (x : Row). is_bit n (of_owner (Text id) (station_bike_line r) (taken_in x))) (take_front bikes.COLUMNS r (nulls (stations.COLUMNS - bikes.COLUMNS)) wide) ∙ go (bike_in r) refl where
        go : (o : Option (ℕ × Bike)) → bike_in r ≡ o → is_bit n (of_owner (Text id) (station_bike_line r) (taken_in r)) ≡ of_read is_in (bike_in r)
        go None e =
            none_of_owner (Text id) (station_bike_line r) n (taken_in r)
            (ap (λ (q : Option (ℕ × Bike)). option_map (λ (b : Docked). b.dock) (option_and_then (λ (x : ℕ × Bike). docked x.1) q)) e)
            ∙ sym (ap (of_read is_in) e)
        go (Some x) e = by x.1.place refl ∙ sym (ap (of_read is_in) e) where
          said : (p : Place) → x.1.place ≡ p → taken_in r ≡ taken_by x.1.type_id x.1.state p
          said p is =
              ap (λ (q : Option (ℕ × Bike)). option_map (λ (b : Docked). b.dock) (option_and_then (λ (y : ℕ × Bike). docked y.1) q)) e ∙ ap (taken_by x.1.type_id x.1.state) is

          elsewhere : (p : Place) → x.1.place ≡ p → taken_by x.1.type_id x.1.state p ≡ None → is_dock id n p ≡ false
              → is_bit n (of_owner (Text id) (station_bike_line r) (taken_in r)) ≡ is_in x
          elsewhere p is none out = none_of_owner (Text id) (station_bike_line r) n (taken_in r) (said p is ∙ none) ∙ sym (ap (is_dock id n) is ∙ out)

          by : (p : Place) → x.1.place ≡ p → is_bit n (of_owner (Text id) (station_bike_line r) (taken_in r)) ≡ is_in x
          by (place.Dock at m) is =
              let station : column r 3 ≡ Text at = ((row_is r).named x e).text_is at m is in
              let dock : taken_in r ≡ Some m = said (place.Dock at m) is in
              (λ i. is_bit n (cond (is_same_text (station i) (Text id)) (dock i) None)) ∙ and_by (bytes_eq at id) (m == n) m refl ∙ sym (ap (is_dock id n) is)
          by (place.Rental rental) is = elsewhere (place.Rental rental) is refl refl
          by (place.Truck truck order) is = elsewhere (place.Truck truck order) is refl refl
          by place.Depot is = elsewhere place.Depot is refl refl

-- ---- the account of a station with all lines

module _ (t : Tables) (up : AreInOrder t) (wide : AreWide t) where
  abbrev s : Operator
  s = operator_of t

  abbrev pub all_items : List Row
  all_items = map station_dock_line t.docks ++ map station_bike_line t.bikes

  module _ (a : StationAccount) (id : List ℕ) (n : ℕ) (own : owner a ≡ Text id) where
    broken_now : a.is_broken ≡ replicate PLACES false → has_bit (fold more a all_items).is_broken n ≡ is_broken s id n
    broken_now none =
        let said = λ (v : Value) (x : Row). is_bit n (of_owner v x (broken_at x)) in
        let here : list_any (λ (r : Row). says_broken id n (station_dock_line r)) t.docks ≡ list_any (λ (r : Row). of_key id n (broken_in r)) t.docks =
        any_same (λ (r : Row). says_broken id n (station_dock_line r)) (λ (r : Row). of_key id n (broken_in r)) t.docks (λ r has. dock_says id n r (wide Docks r has)) in
        let bikes : list_any (says_broken id n) (map station_bike_line t.bikes) ≡ false =
        any_map (says_broken id n) station_bike_line t.bikes ∙ any_none (λ (r : Row). says_broken id n (station_bike_line r)) t.bikes
        (λ r. none_of_owner (Text id) (station_bike_line r) n None refl) in
        broken_after all_items a n (ap (λ (xs : List Bool). length xs) none ∙ length-replicate PLACES false)
        ∙ (λ i. (has_bit (none i) n || list_any (said (own i)) all_items))
        ∙ ap (λ (b : Bool). b || list_any (says_broken id n) all_items) (none_set PLACES n)
        ∙ list_any-append (says_broken id n) (map station_dock_line t.docks) (map station_bike_line t.bikes)
        ∙ ap (λ (b : Bool). list_any (says_broken id n) (map station_dock_line t.docks) || b) bikes
        ∙ or_false (list_any (says_broken id n) (map station_dock_line t.docks))
        ∙ any_map (says_broken id n) station_dock_line t.docks
        ∙ here
        ∙ sym (set.contains-from_list texts_order.total (filter_map broken_in t.docks) (dock_key id n) ∙ any_read (eq_by_cmp texts_cmp (dock_key id n)) broken_in t.docks)

    taken_now : a.is_taken ≡ replicate PLACES false → not (has_bit (fold more a all_items).is_taken n) ≡ is_none (docked_at s id n)
    taken_now none =
        let said = λ (v : Value) (x : Row). is_bit n (of_owner v x (taken_at x)) in
        let here : list_any (λ (r : Row). says_taken id n (station_bike_line r)) t.bikes ≡ list_any (λ (r : Row). of_read (is_in id n) (bike_in r)) t.bikes =
        any_same (λ (r : Row). says_taken id n (station_bike_line r)) (λ (r : Row). of_read (is_in id n) (bike_in r)) t.bikes (λ r has. bike_says id n r (wide Bikes r has)) in
        let docks : list_any (says_taken id n) (map station_dock_line t.docks) ≡ false =
        any_map (says_taken id n) station_dock_line t.docks ∙ any_none (λ (r : Row). says_taken id n (station_dock_line r)) t.docks (λ r. none_of_owner (Text id) (station_dock_line r) n None refl) in
        ap not (
        taken_after all_items a n (ap (λ (xs : List Bool). length xs) none ∙ length-replicate PLACES false)
        ∙ (λ i. (has_bit (none i) n || list_any (said (own i)) all_items))
        ∙ ap (λ (b : Bool). b || list_any (says_taken id n) all_items) (none_set PLACES n)
        ∙ list_any-append (says_taken id n) (map station_dock_line t.docks) (map station_bike_line t.bikes)
        ∙ ap (λ (b : Bool). b || list_any (says_taken id n) (map station_bike_line t.bikes)) docks
        ∙ any_map (says_taken id n) station_bike_line t.bikes
        ∙ here
        ∙ sym (any_read (is_in id n) bike_in t.bikes)
        )
        ∙ none_found (is_in id n) (filter_map bike_in t.bikes)
        ∙ ap (λ (es : List (ℕ × Bike)). is_none (find (is_in id n) es)) (sym (entries_read numbers bike_in bike_own t.bikes (up Bikes)))

  -- the numbers and the text that are demanded of a station
  pub record HasNumbers (e : List ℕ × Station × ℤ × ℕ × List ℕ) : Type 0 where
    pub free_is : e.2 ≡ pos (docks_available s e.0 e.1.row.docks)
    pub broken_is : e.3 ≡ docks_broken s e.0 e.1.row.docks
    pub by_type_is : e.4 ≡ by_type_text (types_at s e.0)

  abbrev begun : Row → List ℕ × Station × ℤ × ℕ × List ℕ → StationAccount
  begun line e = record {
    head = line;
    docks = e.1.row.docks;
    free = e.2;
    broken = e.3;
    is_broken = replicate PLACES false;
    is_taken = replicate PLACES false;
    by_type = record { text = e.4; types = [] };
  }

  module _ (row : Row) (e : List ℕ × Station × ℤ × ℕ × List ℕ) (read : station_read row ≡ Some e) where
    abbrev closed : StationAccount
    closed = fold more (begun (station_line row) e) all_items

    own : column row 0 ≡ Text e.0
    own = ap (λ (x : Row). column x 0) (station_reading.sound row e read).0

    broken_many : many_in closed.is_broken e.1.row.docks ≡ docks_broken s e.0 e.1.row.docks
    broken_many = count_same (λ n. has_bit closed.is_broken n) (λ n. is_broken s e.0 n) (docks_up_to e.1.row.docks) (λ n has. broken_now (begun (station_line row) e) e.0 n own refl)

    free_many : many_in_neither closed.is_taken closed.is_broken e.1.row.docks ≡ docks_available s e.0 e.1.row.docks
    free_many =
        count_same (λ n. not (has_bit closed.is_taken n) && not (has_bit closed.is_broken n)) (λ n. is_none (docked_at s e.0 n) && not (is_broken s e.0 n)) (docks_up_to e.1.row.docks)
        (λ n has. λ i. (taken_now (begun (station_line row) e) e.0 n own refl i && not (broken_now (begun (station_line row) e) e.0 n own refl i)))

    types_all : closed.by_type.types ≡ types_at s e.0
    types_all = types_now t up wide (begun (station_line row) e) e.0 own refl (λ n. broken_now (begun (station_line row) e) e.0 n own refl)

    abbrev is_free : Bool
    is_free = int_eq e.2 (pos (docks_available s e.0 e.1.row.docks))

    abbrev is_so_broken : Bool
    is_so_broken = e.3 == docks_broken s e.0 e.1.row.docks

    abbrev is_by_type : Bool
    is_by_type = bytes_eq e.4 (by_type_text (types_at s e.0))

    -- what the closed account is asked
    asked : (before : ℕ) → good before closed ≡ (is_free && (is_so_broken && is_by_type))
    asked before =
        (λ i. (int_eq (same_free all_items (begun (station_line row) e) i) (pos (many_in_neither closed.is_taken closed.is_broken (same_docks all_items (begun (station_line row) e) i)))
        && ((same_broken all_items (begun (station_line row) e) i == many_in closed.is_broken (same_docks all_items (begun (station_line row) e) i))
        && bytes_eq (same_told all_items (begun (station_line row) e) i) (by_type_text (types_all i)))))
        ∙ (λ i. (int_eq e.2 (pos (free_many i)) && ((e.3 == broken_many i) && is_by_type)))

    numbers_good : (before : ℕ) → good before closed ≡ true → HasNumbers e
    numbers_good before is =
        let both = and_parts is_free (is_so_broken && is_by_type) (sym (asked before) ∙ is) in
        let rest = and_parts is_so_broken is_by_type both.1 in
        record {
          free_is = (Decides-int_eq e.2 (pos (docks_available s e.0 e.1.row.docks))).0 both.0;
          broken_is = elim (eqb_tells e.3 (docks_broken s e.0 e.1.row.docks)) [ inl is ↦ is.1 | inr other ↦ absurd (let no = other.0 in let yes = rest.0 in cc) ];
          by_type_is = (bytes_eq-Decides e.4 (by_type_text (types_at s e.0))).0 rest.1;
        }

    good_numbers : (before : ℕ) → HasNumbers e → good before closed ≡ true
    good_numbers before has =
        let free : is_free ≡ true = (Decides-int_eq e.2 (pos (docks_available s e.0 e.1.row.docks))).1 has.free_is in
        let broken : is_so_broken ≡ true = elim (eqb_tells e.3 (docks_broken s e.0 e.1.row.docks)) [ inl is ↦ is.0 | inr other ↦ absurd (other.1 has.broken_is) ] in
        let told : is_by_type ≡ true = (bytes_eq-Decides e.4 (by_type_text (types_at s e.0))).1 has.by_type_is in
        asked before ∙ (λ i. (free i && (broken i && told i)))

  -- the test of a head with all these lines
  abbrev pub with_all : ℕ → Row → Bool
  with_all n row = is_good_with begins more good key (take 1) all_items n (begins (station_line row))

  head_reads : (row : Row) → Has t.stations row → part 3 stations.COLUMNS (station_line row) ≡ row
  head_reads row has = take_front stations.COLUMNS row [] (wide Stations row has)

  opens : (row : Row) → Has t.stations row → (n : ℕ) → with_all n row ≡ is_good_with begins more good key (take 1) all_items n (station_opening (station_line row) (station_read row))
  opens row has n = ap (λ (x : Row). is_good_with begins more good key (take 1) all_items n (station_opening (station_line row) (station_read x))) (head_reads row has)

  pub with_all_good : (row : Row) → Has t.stations row → (n : ℕ) → with_all n row ≡ true → IsSomeAnd (station_read row) HasNumbers
  with_all_good row has n is = go (station_read row) refl (sym (opens row has n) ∙ is) where
    go : (o : Option (List ℕ × Station × ℤ × ℕ × List ℕ)) → station_read row ≡ o → is_good_with begins more good key (take 1) all_items n (station_opening (station_line row) o) ≡ true → IsSomeAnd o HasNumbers
    go None e g = absurd cc
    go (Some x) e g = numbers_good row x e n g

  pub good_with_all : (row : Row) → Has t.stations row → (n : ℕ) → IsSomeAnd (station_read row) HasNumbers → with_all n row ≡ true
  good_with_all row has n numbers = opens row has n ∙ go (station_read row) refl numbers where
    go : (o : Option (List ℕ × Station × ℤ × ℕ × List ℕ)) → station_read row ≡ o → IsSomeAnd o HasNumbers → is_good_with begins more good key (take 1) all_items n (station_opening (station_line row) o) ≡ true
    go None e h = absurd h
    go (Some x) e h = good_numbers row x e n h
