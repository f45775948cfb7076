-- The verdict on bicycles in docks, by their lines: each but the first in its dock is bad.
use Rattle.std.proofs.Common.{◌≡◌, ◌⊎◌, inl, inr, ℕ, ◌<◌, List, [], ◌∷◌, ◌++◌, length, map, pos, Option, Some, None, refl, sym, ap, ap₂, ◌∙◌, subst, suc, arith}
use Rattle.std.specs.Prelude.{take, option_map, IfSome}
use Rattle.std.specs.List.{filter_map, cons_option, AllByRecursion}
use Rattle.std.specs.Ordering.{ordering_then}
use Rattle.std.specs.Cmp.{ranked}
use Rattle.std.specs.declared.cmp.Ordering.{Ordering}
use Rattle.std.specs.declared.cmp.Ordering.TheVariants.{Less, Equal, Greater}
use Rattle.std.proofs.Math.Seq.{take-length}
use Rattle.std.specs.FinMap as fin
use Rattle.sqlite_value.specs.declared.value.Value.TheVariants.{Int}
use Rattle.sqlite_value.specs.Order.{Row, column, row_cmp, value_cmp}
use Rattle.sqlite_value.proofs.OrderLemmas.{row_cmp_total, then-Equal}
use Rattle.sqlite_rules.specs.Lists.{Has}
use Rattle.bike_sql.specs.View.{by_key}
use Rattle.bike_sql.proofs.OrderLemmas.{Rises, rises, order_has, has_order}
use Rattle.bike_sql.proofs.TreeLemmas.{by_key_total}
use Rattle.bike_sql.proofs.RowListLemmas.{has_map, map_has}
use Rattle.bike_sql.proofs.LineLemmas.{has_append}
use Rattle.bike_operator.specs.declared.records.Place.{Place}
use Rattle.bike_operator.specs.declared.records.Place.TheVariants as place
use Rattle.bike_operator.specs.declared.records.Bike.{Bike}
use Rattle.bike_operator.specs.Operator.{Operator}
use Rattle.bike_book.specs.Tables.{Tables, Docks, Bikes, keys_of}
use Rattle.bike_book.proofs.MapRows.{has_get}
use Rattle.bike_book.proofs.Keys.{numbers, value_cmp-number_value}
use Rattle.bike_readings.specs.ReadOff.{bike_in, operator_of}
use Rattle.bike_readings.specs.Rules.{AreInOrder, row_under}
use Rattle.bike_readings.specs.Demands.{IsAloneInDock}
use Rattle.bike_readings.proofs.Places.{has_under, under_has, same_key}
use Rattle.bike_readings.proofs.ReadLists.{read_of, has_read, find_has}
use Rattle.bike_judges.specs.declared.query.Query.TheVariants as query
use Rattle.bike_judges.specs.Lines.{lines_of, dock_line, docked_line}
use Rattle.bike_judges.specs.Verdicts.{IsFirstFailing}
use Rattle.bike_fleet_rules.specs.Counted.{counted_in}
use Rattle.bike_fleet_rules.specs.Docks.{Docked, docked_at, docked_of, docked_in, dock_pass, number_row}
use Rattle.bike_fleet_rules.proofs.Parts.{AreWide, begins_with_one}
use Rattle.bike_fleet_rules.proofs.OfRows.{OfEach}
use Rattle.bike_fleet_rules.proofs.Lookups.{bikes_read, bike_key}
use Rattle.bike_fleet_rules.proofs.CountedRows.{counted_is, HasPlace}
use Rattle.bike_fleet_rules.proofs.DockOrder.{dock_key, dock_cmp, keys_cmp, Crowds, crowd_of, crowds_of, IsLeastOf, pass_least, AreInOrder as AreDocksInOrder}

-- ---- the bicycle of a row

-- the row counts this bicycle in a dock
pub record IsDockedRow (row : Row) (d : Docked) : Type 0 where
  pub bike : Bike
  pub read_is : bike_in row ≡ Some (d.bike, bike)
  pub place_is : bike.place ≡ place.Dock d.station d.dock

docked_place : (n : ℕ) (p : Place) (d : Docked) → docked_at n p ≡ Some d → (d.bike ≡ n) × (p ≡ place.Dock d.station d.dock)
docked_place n (place.Dock station dock) d e =
    let same : record { bike = n; station = station; dock = dock } ≡ d = cc in (ap (λ (x : Docked). x.bike) (sym same), ap (λ (x : Docked). place.Dock x.station x.dock) same)
docked_place n (place.Rental rental) d e = absurd cc
docked_place n (place.Truck truck order) d e = absurd cc
docked_place n place.Depot d e = absurd cc

docked_row : (row : Row) (d : Docked) → docked_of (bike_in row) ≡ Some d → IsDockedRow row d
docked_row row d e = go (bike_in row) refl e where
  go : (o : Option (ℕ × Bike)) → bike_in row ≡ o → docked_of o ≡ Some d → IsDockedRow row d
  go None f is = absurd cc
  go (Some x) f is =
      let at = docked_place x.0 x.1.place d is in
      record { bike = x.1; read_is = f ∙ ap (λ (n : ℕ). Some (n, x.1)) (sym at.0); place_is = at.1 }

row_docked : (row : Row) (d : Docked) → IsDockedRow row d → docked_of (bike_in row) ≡ Some d
row_docked row d it = ap docked_of it.read_is ∙ ap (docked_at d.bike) it.place_is

same_eight : (row : Row) → length row ≡ 8 → take 8 row ≡ row
same_eight row wide = ap (λ (n : ℕ). take n row) (sym wide) ∙ take-length row

line_docked : (row : Row) → length row ≡ 8 → docked_in (docked_line row) ≡ docked_of (bike_in row)
unfolding docked_in counted_in
line_docked row wide = ap (λ (r : Row). docked_of (bike_in r)) (same_eight row wide)

dock_not : (row : Row) → docked_in (dock_line row) ≡ None
unfolding docked_in
dock_not row = refl

key_is : (row : Row) (d : Docked) → IsDockedRow row d → take 4 (docked_line row) ≡ dock_key d
key_is row d it =
    let counted = counted_is row (d.bike, it.bike) it.read_is in
    let has : HasPlace row (place.Dock d.station d.dock) = subst (HasPlace row) it.place_is counted.placed in
    let station = has.0 in
    let dock = has.1 in
    let number = counted.number_is in
    λ i. station i ∷ dock i ∷ Int (pos 1) ∷ number i ∷ []

-- ---- orders that tie

first_tied : (a b : Ordering) → ordering_then a b ≡ Equal → a ≡ Equal
first_tied Less b e = absurd cc
first_tied Equal b e = refl
first_tied Greater b e = absurd cc

second_tied : (a b : Ordering) → ordering_then a b ≡ Equal → b ≡ Equal
second_tied Less b e = absurd cc
second_tied Equal b e = e
second_tied Greater b e = absurd cc

begins_with_two : (row : Row) (n : ℕ) → length row ≡ suc (suc n) → take 2 row ≡ column row 0 ∷ column row 1 ∷ []
begins_with_two [] n wide = absurd (omega (arith, wide))
begins_with_two (v ∷ []) n wide = absurd (omega (arith, wide))
begins_with_two (v ∷ w ∷ row) n wide = refl

module _ (t : Tables) (up : AreInOrder t) (wide : AreWide t) where
  abbrev s : Operator
  s = operator_of t

  abbrev both : List Row
  both = map dock_line t.docks ++ map docked_line t.bikes

  abbrev lines : List Row
  lines = lines_of query.BikeDocks t

  abbrev ds : List Docked
  ds = filter_map docked_in lines

  -- ---- no two lines tie

  bikes_apart : (r q : Row) → Has t.bikes r → Has t.bikes q → by_key 4 (docked_line r) (docked_line q) ≡ Equal → r ≡ q
  bikes_apart r q h k tie =
      let a = second_tied (value_cmp (column r 3) (column q 3)) _ tie in
      let b = second_tied (value_cmp (column r 4) (column q 4)) _ a in
      let c = second_tied (value_cmp (Int (pos 1)) (Int (pos 1))) _ b in
      let number = first_tied (value_cmp (column r 0) (column q 0)) Equal c in
      let same : by_key 1 r q ≡ Equal = ap₂ row_cmp (begins_with_one r 7 (wide Bikes r h)) (begins_with_one q 7 (wide Bikes q k)) ∙ then-Equal (value_cmp (column r 0) (column q 0)) ∙ number in
      same_key 1 t.bikes r q (up Bikes) h k same

  docks_apart : (r q : Row) → Has t.docks r → Has t.docks q → by_key 4 (dock_line r) (dock_line q) ≡ Equal → r ≡ q
  docks_apart r q h k tie =
      let station = first_tied (value_cmp (column r 0) (column q 0)) _ tie in
      let a = second_tied (value_cmp (column r 0) (column q 0)) _ tie in
      let dock = first_tied (value_cmp (column r 1) (column q 1)) _ a in
      let same : by_key 2 r q ≡ Equal =
      ap₂ row_cmp (begins_with_two r 1 (wide Docks r h)) (begins_with_two q 1 (wide Docks q k)) ∙ (λ i. ordering_then (station i) (ordering_then (dock i) Equal)) in
      same_key 2 t.docks r q (up Docks) h k same

  never : (r q : Row) → by_key 4 (dock_line r) (docked_line q) ≡ Equal → ⊥
  never r q tie =
      let a = second_tied (value_cmp (column r 0) (column q 3)) _ tie in
      let b = second_tied (value_cmp (column r 1) (column q 4)) _ a in
      let c : value_cmp (Int (pos 0)) (Int (pos 1)) ≡ Equal = first_tied (value_cmp (Int (pos 0)) (Int (pos 1))) _ b in
      let d : Less ≡ Equal = sym (value_cmp-number_value 0 1) ∙ c in
      cc

  never_back : (r q : Row) → by_key 4 (docked_line q) (dock_line r) ≡ Equal → ⊥
  never_back r q tie =
      let a = second_tied (value_cmp (column q 3) (column r 0)) _ tie in
      let b = second_tied (value_cmp (column q 4) (column r 1)) _ a in
      let c : value_cmp (Int (pos 1)) (Int (pos 0)) ≡ Equal = first_tied (value_cmp (Int (pos 1)) (Int (pos 0))) _ b in
      let d : Greater ≡ Equal = sym (value_cmp-number_value 1 0) ∙ c in
      cc

  -- a line is a dock's or a bicycle's
  abbrev IsLine : Row → Type 0
  IsLine x = ((row : Row) × Has t.docks row × (x ≡ dock_line row)) ⊎ ((row : Row) × Has t.bikes row × (x ≡ docked_line row))

  line_of : (x : Row) → Has both x → IsLine x
  line_of x has = elim (has_append (map dock_line t.docks) (map docked_line t.bikes) x has) [ inl h ↦ inl (map_has dock_line t.docks x h) | inr h ↦ inr (map_has docked_line t.bikes x h) ]

  tied_lines : (x y : Row) → IsLine x → IsLine y → by_key 4 x y ≡ Equal → x ≡ y
  tied_lines x y (inl a) (inl b) tie = a.2 ∙ ap dock_line (docks_apart a.0 b.0 a.1 b.1 (ap₂ (by_key 4) (sym a.2) (sym b.2) ∙ tie)) ∙ sym b.2
  tied_lines x y (inl a) (inr b) tie = absurd (never a.0 b.0 (ap₂ (by_key 4) (sym a.2) (sym b.2) ∙ tie))
  tied_lines x y (inr a) (inl b) tie = absurd (never_back b.0 a.0 (ap₂ (by_key 4) (sym a.2) (sym b.2) ∙ tie))
  tied_lines x y (inr a) (inr b) tie = a.2 ∙ ap docked_line (bikes_apart a.0 b.0 a.1 b.1 (ap₂ (by_key 4) (sym a.2) (sym b.2) ∙ tie)) ∙ sym b.2

  lines_apart : (x y : Row) → Has both x → Has both y → by_key 4 x y ≡ Equal → x ≡ y
  lines_apart x y h k tie = tied_lines x y (line_of x h) (line_of y k) tie

  -- ---- the bicycles in docks

  -- the row of a bicycle in a dock
  record HasDocked (x : Row) (d : Docked) : Type 0 where
    row : Row
    has : Has t.bikes row
    line_is : x ≡ docked_line row
    docked : IsDockedRow row d

  docked_line_of : (x : Row) (d : Docked) → Has lines x → docked_in x ≡ Some d → HasDocked x d
  docked_line_of x d has is = go (line_of x (order_has (by_key_total 4) both x has)) where
    go : IsLine x → HasDocked x d
    go (inl a) = absurd (let none : ◌≡◌ {A = Option Docked} None (Some d) = sym (dock_not a.0) ∙ ap docked_in (sym a.2) ∙ is in cc)
    go (inr b) = record { row = b.0; has = b.1; line_is = b.2; docked = docked_row b.0 d (sym (line_docked b.0 (wide Bikes b.0 b.1)) ∙ ap docked_in (sym b.2) ∙ is) }

  begins_so : (x : Row) (d : Docked) → Has lines x → docked_in x ≡ Some d → take 4 x ≡ dock_key d
  begins_so x d has is = let it = docked_line_of x d has is in ap (take 4) it.line_is ∙ key_is it.row d it.docked

  below : (x : Row) (d : Docked) (xs : List Row) → Has lines x → docked_in x ≡ Some d → ((y : Row) → Has xs y → Has lines y) → AllByRecursion (λ y. by_key 4 x y ≡ Less) xs
      → AllByRecursion (λ e. dock_cmp d e ≡ Less) (filter_map docked_in xs)
  below x d [] there is sub low = tt
  below x d (y ∷ xs) there is sub low = go (docked_in y) refl (below x d xs there is (λ z h. sub z (inr h)) low.1) where
    go : (o : Option Docked) → docked_in y ≡ o → AllByRecursion (λ e. dock_cmp d e ≡ Less) (filter_map docked_in xs)
        → AllByRecursion (λ e. dock_cmp d e ≡ Less) (cons_option o (filter_map docked_in xs))
    go None e rest = rest
    go (Some c) e rest = (sym (keys_cmp d c) ∙ ap₂ row_cmp (sym (begins_so x d there is)) (sym (begins_so y c (sub y (inl refl)) e)) ∙ low.0, rest)

  in_order_of : (xs : List Row) → Rises (by_key_total 4) xs → ((y : Row) → Has xs y → Has lines y) → AreDocksInOrder (filter_map docked_in xs)
  in_order_of [] rising sub = tt
  in_order_of (x ∷ xs) rising sub = go (docked_in x) refl (in_order_of xs rising.1 (λ z h. sub z (inr h))) where
    go : (o : Option Docked) → docked_in x ≡ o → AreDocksInOrder (filter_map docked_in xs) → AreDocksInOrder (cons_option o (filter_map docked_in xs))
    go None e rest = rest
    go (Some d) e rest = (below x d xs (sub x (inl refl)) e (λ z h. sub z (inr h)) rising.0, rest)

  docks_ordered : AreDocksInOrder ds
  docks_ordered = in_order_of lines (rises (by_key_total 4) both) (λ y h. h)

  -- each is of a row,
  row_of : (d : Docked) → Has ds d → (row : Row) × Has t.bikes row × IsDockedRow row d
  row_of d has = let it = read_of docked_in lines d has in let at = docked_line_of it.item d it.has it.read_is in (at.row, at.has, at.docked)

  -- and each row's is there
  behind : (xs : List Row) (x : Row) (ys : List Row) → Has xs x → Has (ys ++ xs) x
  behind xs x [] h = h
  behind xs x (y ∷ ys) h = inr (behind xs x ys h)

  of_row : (row : Row) (d : Docked) → Has t.bikes row → IsDockedRow row d → Has ds d
  of_row row d has it =
      let there : Has both (docked_line row) = behind (map docked_line t.bikes) (docked_line row) (map dock_line t.docks) (has_map docked_line t.bikes row has) in
      has_read docked_in lines (docked_line row) d (has_order (by_key_total 4) both lines_apart (docked_line row) there) (line_docked row (wide Bikes row has) ∙ row_docked row d it)

  -- ---- what is demanded

  abbrev pub IsAloneRow : ℕ → Row → Type 0
  IsAloneRow n row = (e : ℕ × Bike) → bike_in row ≡ Some e → IsAloneInDock s e.0 e.1

  -- a bicycle of the operator has a row
  bike_row_of : (n : ℕ) (b : Bike) → fin.get s.bikes n ≡ Some b → (row : Row) × Has t.bikes row × (bike_in row ≡ Some (n, b))
  bike_row_of n b found =
      let entry : Has (fin.entries s.bikes) (n, b) = find_has numbers n b (fin.entries s.bikes) (sym (fin.get-entries s.bikes n) ∙ found) in
      let it = read_of bike_in t.bikes (n, b) (subst (λ (es : List (ℕ × Bike)). Has es (n, b)) (bikes_read t up) entry) in
      (it.item, it.has, it.read_is)

  row_bike_of : (row : Row) (n : ℕ) (b : Bike) → Has t.bikes row → bike_in row ≡ Some (n, b) → fin.get s.bikes n ≡ Some b
  row_bike_of row n b has is =
      let entry : Has (fin.entries s.bikes) (n, b) = subst (λ (es : List (ℕ × Bike)). Has es (n, b)) (sym (bikes_read t up)) (has_read bike_in t.bikes row (n, b) has is) in
      has_get numbers.total s.bikes (n, b) entry

  -- a row whose bicycle isn't alone is in a crowd
  alone_unless : (row : Row) → Has t.bikes row → ((e : ℕ × Bike) → bike_in row ≡ Some e → Crowds None ds e.0 → ⊥) → IsAloneRow 0 row
  alone_unless row has none e is other x station dock lower found there here =
      let at = bike_row_of other x found in
      let d : Docked = record { bike = e.0; station = station; dock = dock } in
      let o : Docked = record { bike = other; station = station; dock = dock } in
      let own : Has ds d = of_row row d has (record { bike = e.1; read_is = is; place_is = here }) in
      let its : Has ds o = of_row at.0 o at.1 (record { bike = x; read_is = at.2; place_is = there }) in
      none e is (crowds_of None ds docks_ordered d o own its (record { station_is = refl; dock_is = refl }) lower)

  -- a crowd has a row whose bicycle isn't alone
  record IsBadRow (n : ℕ) : Type 0 where
    row : Row
    has : Has t.bikes row
    key : take 1 row ≡ number_row n
    bad : IsAloneRow 0 row → ⊥

  crowd_bad : (n : ℕ) → Crowds None ds n → IsBadRow n
  crowd_bad n crowds =
      let it = crowd_of None ds docks_ordered tt n crowds in
      let own = row_of it.own it.has in
      let its = row_of it.other (there it.other it.there) in
      record {
        row = own.0;
        has = own.1;
        key = (bike_key own.0 (it.own.bike, own.2.bike) own.2.read_is).0 ∙ ap number_row it.bike_is;
        bad = λ alone.
            alone (it.own.bike, own.2.bike) own.2.read_is it.other.bike its.2.bike it.own.station it.own.dock it.lower (row_bike_of its.0 it.other.bike its.2.bike its.1 its.2.read_is)
            (its.2.place_is ∙ ap₂ place.Dock it.same.station_is it.same.dock_is) own.2.place_is;
      }
    where
      there : (x : Docked) → (None ≡ Some x) ⊎ Has ds x → Has ds x
      there x (inl e) = absurd cc
      there x (inr h) = h

  -- ---- THE VERDICT on bicycles in docks

  -- so it is demanded under a key, where no crowd has the number of its row
  each_alone : (key : Row) → ((n : ℕ) → row_cmp (number_row n) key ≡ Equal → Crowds None ds n → ⊥) → OfEach t Bikes IsAloneRow key
  each_alone key none row is =
      let there = under_has 1 key t.bikes row is in
      alone_unless row there.0 (λ e read crowds. none e.0 (ap (λ (k : Row). row_cmp k key) (sym (bike_key row e read).0) ∙ there.1) crowds)

  verdict_of : (v : Option ℕ) → IsLeastOf (λ n. (None ≡ Some n) ⊎ Crowds None ds n) v → IsFirstFailing t Bikes (OfEach t Bikes IsAloneRow) (option_map number_row v)
  verdict_of None none = λ key. each_alone key (λ n tie crowds. none n (inr crowds))
  verdict_of (Some n) least =
      let it = crowd_bad n (crowded least.0) in
      let under : row_under t Bikes (number_row n) ≡ Some it.row = ap (row_under t Bikes) (sym it.key) ∙ has_under 1 t.bikes it.row (up Bikes) it.has in
      record {
        bad = λ each. it.bad (each it.row under);
        own = subst (λ (o : Option Row). IfSome o (λ row. take (keys_of Bikes) row ≡ number_row n)) (sym under) it.key;
        before = λ key low. each_alone key (λ m tie crowds. least.1 m (lower m key tie low) (inr crowds));
      }
    where
      crowded : (None ≡ Some n) ⊎ Crowds None ds n → Crowds None ds n
      crowded (inl e) = absurd cc
      crowded (inr it) = it

      lower : (m : ℕ) (key : Row) → row_cmp (number_row m) key ≡ Equal → row_cmp key (number_row n) ≡ Less → m < n
      lower m key tie low = ranked m n Less (sym (sym (numbers.compares m n tt tt) ∙ row_cmp_total.congr (number_row m) key (number_row n) tie ∙ low))

  pub docks_verdict : (v : Option ℕ) → dock_pass None None lines ≡ v → IsFirstFailing t Bikes (OfEach t Bikes IsAloneRow) (option_map number_row v)
  unfolding dock_pass
  docks_verdict v is = verdict_of v (subst (IsLeastOf (λ n. (None ≡ Some n) ⊎ Crowds None ds n)) is (pass_least None None ds))
