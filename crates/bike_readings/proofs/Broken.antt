-- The broken docks are those whose rows say so.
use Rattle.std.proofs.Common.{◌≡◌, inl, inr, ℕ, List, [], ◌∷◌, map, Bool, true, false, cond, ◌||◌, Option, Some, None, is_some, refl, sym, ap, ◌∙◌}
use Rattle.std.specs.Prelude.{option_and_then, take}
use Rattle.std.specs.List.{filter_map, list_any}
use Rattle.std.specs.Ordering.{eq_by_cmp}
use Rattle.std.specs.Cmp.{eq_by_cmp_equiv}
use Rattle.std.specs.FinMap as fin
use Rattle.std.specs.FinMap.{FinMap}
use Rattle.std.specs.FinSet as set
use Rattle.std.specs.FinSet.{FinSet}
use Rattle.std.proofs.lemmas.Cmp.{tied_itself}
use Rattle.sqlite_value.specs.Order.{Row, row_cmp}
use Rattle.sqlite_rules.specs.Lists.{Has}
use Rattle.bike_sql.proofs.OrderLemmas.{Rises}
use Rattle.bike_sql.proofs.TreeLemmas.{by_key_total}
use Rattle.bike_sql.proofs.RowListLemmas.{map_has, has_map}
use Rattle.bike_operator.specs.Operator.{DockKey, texts_cmp, dock_key}
use Rattle.bike_laws.proofs.SingleSteps.MapLemmas.{texts_order, tied, there_of}
use Rattle.bike_book.specs.Rows.{dock_row}
use Rattle.bike_book.specs.Stored.{stored_dock}
use Rattle.bike_book.proofs.MapRows.{has_get}
use Rattle.bike_book.proofs.Keys.{docks}
use Rattle.bike_readings.specs.Readings.{dock_read}
use Rattle.bike_readings.proofs.CatalogueRows.{dock_reading}
use Rattle.bike_readings.specs.ReadOff.{broken_in}
use Rattle.bike_readings.proofs.ReadLists.{read_of, has_read}
use Rattle.bike_readings.proofs.Places.{same_key}
use Rattle.bike_readings.proofs.ReadBack.{get_has}

-- ---- members of a list

has_any : (key : DockKey) (ks : List DockKey) → Has ks key → list_any (eq_by_cmp texts_cmp key) ks ≡ true
has_any key [] has = elim has [ ]
has_any key (k ∷ ks) (inl is) = ap (λ (b : Bool). b || list_any (eq_by_cmp texts_cmp key) ks) (ap (eq_by_cmp texts_cmp key) (sym is) ∙ (eq_by_cmp_equiv texts_order.total).refl key)
has_any key (k ∷ ks) (inr later) = go (eq_by_cmp texts_cmp key k) (has_any key ks later) where
  go : (b : Bool) → list_any (eq_by_cmp texts_cmp key) ks ≡ true → (b || list_any (eq_by_cmp texts_cmp key) ks) ≡ true
  go true rest = refl
  go false rest = rest

any_has : (key : DockKey) (ks : List DockKey) → list_any (eq_by_cmp texts_cmp key) ks ≡ true → Has ks key
any_has key [] any = absurd cc
any_has key (k ∷ ks) any = go (eq_by_cmp texts_cmp key k) refl any (any_has key ks) where
  go : (b : Bool) → eq_by_cmp texts_cmp key k ≡ b → (b || list_any (eq_by_cmp texts_cmp key) ks) ≡ true → (list_any (eq_by_cmp texts_cmp key) ks ≡ true → Has ks key) → Has (k ∷ ks) key
  go true tie is rest = inl (tied texts_order key k tie)
  go false apart is rest = inr (rest is)

-- the keys of the rows that say so
abbrev pub broken_docks : List Row → FinSet texts_cmp
broken_docks rows = set.from_list (filter_map broken_in rows)

marked : (rows : List Row) (key : DockKey) → Has (filter_map broken_in rows) key → set.contains (broken_docks rows) key ≡ true
marked rows key has = set.contains-from_list texts_order.total (filter_map broken_in rows) key ∙ has_any key (filter_map broken_in rows) has

has_marked : (rows : List Row) (key : DockKey) → set.contains (broken_docks rows) key ≡ true → Has (filter_map broken_in rows) key
has_marked rows key is = any_has key (filter_map broken_in rows) (sym (set.contains-from_list texts_order.total (filter_map broken_in rows) key) ∙ is)

-- what a row of docks says
says : (row : Row) (station : List ℕ) (dock : ℕ) (b : Bool) → dock_read row ≡ Some (station, dock, b) → broken_in row ≡ cond b (Some (dock_key station dock)) None
says row station dock b is = ap (option_and_then (λ (e : List ℕ × ℕ × Bool). cond e.2 (Some (dock_key e.0 e.1)) None)) is

-- the dock that a row says is broken
record IsBrokenRow (row : Row) (key : DockKey) : Type 0 where
  station : List ℕ
  dock : ℕ
  read_is : dock_read row ≡ Some (station, dock, true)
  key_is : dock_key station dock ≡ key

broken_row : (row : Row) (key : DockKey) → broken_in row ≡ Some key → IsBrokenRow row key
broken_row row key is = go (dock_read row) refl is where
  go : (o : Option (List ℕ × ℕ × Bool)) → dock_read row ≡ o → option_and_then (λ (e : List ℕ × ℕ × Bool). cond e.2 (Some (dock_key e.0 e.1)) None) o ≡ Some key → IsBrokenRow row key
  go None e q = absurd cc
  go (Some x) e q = by x.2 refl q where
    by : (b : Bool) → x.2 ≡ b → cond b (Some (dock_key x.0 x.1)) None ≡ Some key → IsBrokenRow row key
    by true t same = record { station = x.0; dock = x.1; read_is = e ∙ ap (λ (z : Bool). Some (x.0, x.1, z)) t; key_is = cc }
    by false t same = absurd cc

-- ---- written, and read back

module _ (broken : FinSet texts_cmp) (listed : FinMap texts_cmp (Unit {0})) (all : (key : DockKey) → set.contains broken key ≡ true → fin.contains_key listed key ≡ true)
    (back : (key : DockKey) → fin.contains_key listed key ≡ true → (station : List ℕ) × (dock : ℕ) × (key ≡ dock_key station dock)
    × (dock_read (stored_dock broken (key, tt)) ≡ Some (station, dock, set.contains broken key))) where
  rows : List Row
  rows = map (stored_dock broken) (fin.entries listed)

  abbrev of_row : List Row
  of_row = map (stored_dock broken) (fin.entries listed)

  to_member : (key : DockKey) → set.contains broken key ≡ true → Has (filter_map broken_in of_row) key
  to_member key is =
      let there = there_of (fin.get listed key) (all key is) in
      let it = back key (all key is) in
      let row = stored_dock broken (key, tt) in
      let has : Has of_row row = has_map (stored_dock broken) (fin.entries listed) (key, tt) (get_has docks listed key tt there.1) in
      let read : broken_in row ≡ Some key = says row it.0 it.1 (set.contains broken key) it.3 ∙ (ap (λ (b : Bool). cond b (Some (dock_key it.0 it.1)) None) is ∙ ap (λ (k : DockKey). Some k) (sym it.2)) in
      has_read broken_in of_row row key has read

  from_member : (key : DockKey) → Has (filter_map broken_in of_row) key → set.contains broken key ≡ true
  from_member key has =
      let it = read_of broken_in of_row key has in
      let at = map_has (stored_dock broken) (fin.entries listed) it.item it.has in
      let known : fin.contains_key listed at.0.0 ≡ true = ap is_some (has_get texts_order.total listed at.0 at.1) in
      let dock = back at.0.0 known in
      let row = broken_row it.item key it.read_is in
      let read : dock_read it.item ≡ Some (dock.0, dock.1, set.contains broken at.0.0) = ap dock_read at.2 ∙ dock.3 in
      let same : ◌≡◌ {A = Option (List ℕ × ℕ × Bool)} (Some (row.station, row.dock, true)) (Some (dock.0, dock.1, set.contains broken at.0.0)) = sym row.read_is ∙ read in
      let pair : ◌≡◌ {A = List ℕ × ℕ × Bool} (row.station, row.dock, true) (dock.0, dock.1, set.contains broken at.0.0) = cc in
      let is : true ≡ set.contains broken at.0.0 = ap (λ (e : List ℕ × ℕ × Bool). e.2) pair in
      let here : at.0.0 ≡ key = dock.2 ∙ sym (ap (λ (e : List ℕ × ℕ × Bool). dock_key e.0 e.1) pair) ∙ row.key_is in
      ap (set.contains broken) (sym here) ∙ sym is

  pub broken_back : broken_docks (map (stored_dock broken) (fin.entries listed)) ≡ broken
  broken_back = set.same_set texts_order.total texts_order.same (broken_docks of_row) broken (λ key. go key (set.contains (broken_docks of_row) key) refl (set.contains broken key) refl) where
    go : (key : DockKey) (a : Bool) → set.contains (broken_docks of_row) key ≡ a → (b : Bool) → set.contains broken key ≡ b → set.contains (broken_docks of_row) key ≡ set.contains broken key
    go key true e true f = e ∙ sym f
    go key true e false f = let other = from_member key (has_marked of_row key e) in absurd cc
    go key false e true f = let other = marked of_row key (to_member key f) in absurd cc
    go key false e false f = e ∙ sym f

-- ---- read, and written as it stood

module _ (rows : List Row) (up : Rises (by_key_total 2) rows) where
  -- the dock is broken exactly where its row says so
  pub broken_as : (row : Row) (station : List ℕ) (dock : ℕ) (b : Bool) → Has rows row → dock_read row ≡ Some (station, dock, b) → set.contains (broken_docks rows) (dock_key station dock) ≡ b
  broken_as row station dock true has is = marked rows (dock_key station dock) (has_read broken_in rows row (dock_key station dock) has (says row station dock true is))
  broken_as row station dock false has is = go (set.contains (broken_docks rows) (dock_key station dock)) refl where
    go : (c : Bool) → set.contains (broken_docks rows) (dock_key station dock) ≡ c → set.contains (broken_docks rows) (dock_key station dock) ≡ false
    go false e = e
    go true e =
        let it = read_of broken_in rows (dock_key station dock) (has_marked rows (dock_key station dock) e) in
        let other = broken_row it.item (dock_key station dock) it.read_is in
        let row_is : row ≡ dock_row station dock false = (dock_reading.sound row (station, dock, false) is).0 in
        let item_is : it.item ≡ dock_row other.station other.dock true = (dock_reading.sound it.item (other.station, other.dock, true) other.read_is).0 in
        let a : other.station ≡ station = (let k = other.key_is in cc) in
        let n : other.dock ≡ dock = (let k = other.key_is in cc) in
        let keys : take 2 it.item ≡ take 2 row = ap (take 2) item_is ∙ (λ i. take 2 (dock_row (a i) (n i) true)) ∙ ap (take 2) (sym row_is) in
        let tie = ap (λ (k : Row). row_cmp k (take 2 row)) keys ∙ tied_itself (by_key_total 2) row in
        let same : it.item ≡ row = same_key 2 rows it.item row up it.has has tie in
        let both : ◌≡◌ {A = Option (List ℕ × ℕ × Bool)} (Some (other.station, other.dock, true)) (Some (station, dock, false)) = sym other.read_is ∙ ap dock_read same ∙ is in
        absurd cc

  -- what is said to be broken has a row
  pub broken_has : (key : DockKey) → set.contains (broken_docks rows) key ≡ true
      → (row : Row) × (station : List ℕ) × (dock : ℕ) × Has rows row × (dock_read row ≡ Some (station, dock, true)) × (key ≡ dock_key station dock)
  broken_has key is =
      let it = read_of broken_in rows key (has_marked rows key is) in
      let row = broken_row it.item key it.read_is in
      (it.item, row.station, row.dock, it.has, row.read_is, sym row.key_is)
