-- No two lines of the tables that mix tie: those of one table have keys apart, and those of two tables have two places.
-- The lines of one owner are in the order in which their tables are named.
use Rattle.std.proofs.Common.{◌≡◌, inl, inr, ℕ, ◌-◌, ◌<◌, ◌≤◌, List, [], ◌∷◌, ◌++◌, length, map, filter, pos, Bool, true, false, cond, refl, sym, ap, ap₂, subst, ◌∙◌, arith}
use Rattle.std.specs.Prelude.{take}
use Rattle.std.specs.Cmp.{ranked, Equal-is}
use Rattle.std.specs.List.{IsDistinct}
use Rattle.std.specs.Ordering.{eq_by_cmp, is_eq, ordering_then, ordering_reverse}
use Rattle.std.specs.declared.cmp.Ordering.{Ordering}
use Rattle.std.specs.declared.cmp.Ordering.TheVariants.{Less, Equal, Greater}
use Rattle.std.proofs.lemmas.Cmp.{tied_itself}
use Rattle.std.proofs.lemmas.List.Elements.{filter-append}
use Rattle.sqlite_value.specs.declared.value.Value.{Value}
use Rattle.sqlite_value.specs.declared.value.Value.TheVariants.{Int}
use Rattle.sqlite_value.specs.Order.{Row, column, value_cmp, row_cmp}
use Rattle.sqlite_value.proofs.KeyLemmas.{then_tied}
use Rattle.sqlite_value.proofs.OrderLemmas.{value_cmp_total, then-Equal}
use Rattle.sqlite_rules.specs.Lists.{Has}
use Rattle.bike_sql.specs.View.{by_key}
use Rattle.bike_sql.proofs.LineLemmas.{apart_append, has_append}
use Rattle.bike_sql.proofs.RowListLemmas.{map_has, has_filter}
use Rattle.bike_sql.proofs.OrderLemmas.{Rises, all_has, all_from, rises_append}
use Rattle.bike_sql.proofs.SortLemmas.{AreApartAll}
use Rattle.bike_sql.proofs.TreeLemmas.{by_key_total}
use Rattle.bike_book.proofs.Keys.{value_cmp-number_value}
use Rattle.bike_book.specs.Tables.{TableName, Tables, rows_in, keys_of, Stations, Docks, Bikes, Trucks, Orders}
use Rattle.bike_book.specs.declared.columns.stations.TheConstants as stations
use Rattle.bike_book.specs.declared.columns.docks.TheConstants as docks
use Rattle.bike_book.specs.declared.columns.bikes.TheConstants as bikes
use Rattle.bike_book.specs.declared.columns.trucks.TheConstants as trucks
use Rattle.bike_readings.specs.Rules.{AreInOrder}
use Rattle.bike_judges.proofs.FoldOrder.{is_owned}
use Rattle.bike_judges.proofs.StretchLaw.{AreOwnedInOrder}
use Rattle.bike_judges.specs.Lines.{line, station_line, station_dock_line, station_bike_line, truck_line, truck_bike_line, order_line, order_bike_line}

-- Each row has the columns of its key.
abbrev pub AreWhole : Tables → Type 0
AreWhole t = (name : TableName) (row : Row) → Has (rows_in t name) row → keys_of name ≤ length row

pub first_column : (row : Row) → 1 ≤ length row → take 1 row ≡ column row 0 ∷ []
first_column [] wide = absurd (omega (arith, wide))
first_column (x ∷ row) wide = refl

pub first_columns : (row : Row) → 2 ≤ length row → take 2 row ≡ column row 0 ∷ column row 1 ∷ []
first_columns [] wide = absurd (omega (arith, wide))
first_columns (x ∷ []) wide = absurd (omega (arith, wide))
first_columns (x ∷ y ∷ row) wide = refl

-- ---- one table

-- the lines of rows that rise, where two lines tie only if their rows do
pub shown_apart : (show : Row → Row) (width keys : ℕ) (rows : List Row) → Rises (by_key_total keys) rows
    → ((r s : Row) → Has rows r → Has rows s → by_key width (show r) (show s) ≡ Equal → by_key keys r s ≡ Equal)
    → AreApartAll (by_key_total width) (map show rows)
unfolding IsDistinct
shown_apart show width keys [] up ties = tt
shown_apart show width keys (r ∷ rows) up ties = (
  all_from (λ y. eq_by_cmp (by_key width) (show r) y ≡ false) (map show rows) (λ y h.
      let s = map_has show rows y h in
      let low : by_key keys r s.0 ≡ Less = all_has (λ z. by_key keys r z ≡ Less) rows s.0 up.0 s.1 in
      unequal (by_key width (show r) y) (λ tie. let same : by_key keys r s.0 ≡ Equal = ties r s.0 (inl refl) (inr s.1) (ap (by_key width (show r)) (sym s.2) ∙ tie) in cc)),
  shown_apart show width keys rows up.1 (λ a b h k. ties a b (inr h) (inr k)),
)
  where
    unequal : (c : Ordering) → (c ≡ Equal → ⊥) → is_eq c ≡ false
    unequal Less f = refl
    unequal Equal f = absurd (f refl)
    unequal Greater f = refl

-- what ties in lines that tie: their owners, their places, and their own keys
module _ (o p k l : Value) (m n : ℕ) (tie : row_cmp (o ∷ Int (pos m) ∷ k ∷ []) (p ∷ Int (pos n) ∷ l ∷ []) ≡ Equal) where
  owners : value_cmp o p ≡ Equal
  owners = (then_tied (value_cmp o p) _ tie).0

  places : m ≡ n
  places = ranked m n Equal (sym (then_tied (value_cmp (Int (pos m)) (Int (pos n))) _ (then_tied (value_cmp o p) _ tie).1).0 ∙ value_cmp-number_value m n)

  own_keys : value_cmp k l ≡ Equal
  own_keys = (then_tied (value_cmp k l) _ (then_tied (value_cmp (Int (pos m)) (Int (pos n))) _ (then_tied (value_cmp o p) _ tie).1).1).0

abbrev tied : Ordering → Ordering → Ordering
tied a b = ordering_then a (ordering_then b Equal)

pub one_tied : (r s : Row) → 1 ≤ length r → 1 ≤ length s → value_cmp (column r 0) (column s 0) ≡ Equal → by_key 1 r s ≡ Equal
one_tied r s a b tie = ap₂ row_cmp (first_column r a) (first_column s b) ∙ ap (λ (c : Ordering). ordering_then c Equal) tie

pub two_tied : (r s : Row) → 2 ≤ length r → 2 ≤ length s → value_cmp (column r 0) (column s 0) ≡ Equal → value_cmp (column r 1) (column s 1) ≡ Equal → by_key 2 r s ≡ Equal
two_tied r s a b tie also = ap₂ row_cmp (first_columns r a) (first_columns s b) ∙ ap₂ (λ (c d : Ordering). tied c d) tie also

-- ---- the tables

module _ (t : Tables) (up : AreInOrder t) (whole : AreWhole t) where
  -- heads, by their owner
  heads : (name : TableName) → keys_of name ≡ 1 → (spare : ℕ) → AreApartAll (by_key_total 3) (map (λ row. line (column row 0) (pos 0) (Int (pos 0)) spare row) (rows_in t name))
  heads name one spare =
      shown_apart (λ row. line (column row 0) (pos 0) (Int (pos 0)) spare row) 3 1 (rows_in t name) (subst (λ (n : ℕ). Rises (by_key_total n) (rows_in t name)) one (up name))
      (λ r s h k tie. one_tied r s (wide r h) (wide s k) (owners _ _ _ _ _ _ tie))
    where
      wide : (row : Row) → Has (rows_in t name) row → 1 ≤ length row
      wide row h = let it = whole name row h in omega (arith, it, one)

  -- the rows of a table with one key, by that
  numbered : (name : TableName) → keys_of name ≡ 1 → (owner : Row → Value) (place spare : ℕ)
      → AreApartAll (by_key_total 3) (map (λ row. line (owner row) (pos place) (column row 0) spare row) (rows_in t name))
  numbered name one owner place spare =
      shown_apart (λ row. line (owner row) (pos place) (column row 0) spare row) 3 1 (rows_in t name) (subst (λ (n : ℕ). Rises (by_key_total n) (rows_in t name)) one (up name))
      (λ r s h k tie. one_tied r s (wide r h) (wide s k) (own_keys _ _ _ _ _ _ tie))
    where
      wide : (row : Row) → Has (rows_in t name) row → 1 ≤ length row
      wide row h = let it = whole name row h in omega (arith, it, one)

  docks_apart : AreApartAll (by_key_total 3) (map station_dock_line t.docks)
  docks_apart =
      shown_apart station_dock_line 3 2 t.docks (up Docks)
      (λ r s h k tie. two_tied r s (whole Docks r h) (whole Docks s k) (owners _ _ _ _ _ _ tie) (own_keys _ _ _ _ _ _ tie))

  -- the lines of two tables, at two places
  at_two : (o p : Row → Value) (k l : Row → Value) (m n : ℕ) (left right : ℕ) (xs ys : List Row) → m < n → (x y : Row)
      → Has (map (λ row. line (o row) (pos m) (k row) left row) xs) x → Has (map (λ row. line (p row) (pos n) (l row) right row) ys) y → by_key 3 x y ≡ Equal → ⊥
  at_two o p k l m n left right xs ys low x y h g tie =
      let r = map_has (λ row. line (o row) (pos m) (k row) left row) xs x h in
      let s = map_has (λ row. line (p row) (pos n) (l row) right row) ys y g in
      let both : by_key 3 (line (o r.0) (pos m) (k r.0) left r.0) (line (p s.0) (pos n) (l s.0) right s.0) ≡ Equal = sym (ap₂ (by_key 3) r.2 s.2) ∙ tie in
      let same : m ≡ n = places _ _ _ _ m n both in
      absurd (omega (arith, same, low))

  abbrev zero_value : Row → Value
  zero_value row = Int (pos 0)

  abbrev at : ℕ → Row → Value
  at n row = column row n

  pub trucks_apart : AreApartAll (by_key_total 3) (map truck_line t.trucks ++ map truck_bike_line t.bikes)
  trucks_apart =
      apart_append (by_key_total 3) (map truck_line t.trucks) (map truck_bike_line t.bikes) (heads Trucks refl (bikes.COLUMNS - trucks.COLUMNS)) (numbered Bikes refl (at 6) 1 0)
      (at_two (at 0) (at 6) zero_value (at 0) 0 1 (bikes.COLUMNS - trucks.COLUMNS) 0 t.trucks t.bikes (omega arith))

  pub order_bikes_apart : AreApartAll (by_key_total 3) (map order_line t.orders ++ map order_bike_line t.bikes)
  order_bikes_apart =
      apart_append (by_key_total 3) (map order_line t.orders) (map order_bike_line t.bikes) (heads Orders refl 0) (numbered Bikes refl (at 7) 1 0)
      (at_two (at 0) (at 7) zero_value (at 0) 0 1 0 0 t.orders t.bikes (omega arith))

  pub stations_apart : AreApartAll (by_key_total 3) ((map station_line t.stations ++ map station_dock_line t.docks) ++ map station_bike_line t.bikes)
  stations_apart =
      apart_append (by_key_total 3) (map station_line t.stations ++ map station_dock_line t.docks) (map station_bike_line t.bikes)
      (apart_append (by_key_total 3) (map station_line t.stations) (map station_dock_line t.docks) (heads Stations refl 0) docks_apart
      (at_two (at 0) (at 0) zero_value (at 1) 0 1 0 (stations.COLUMNS - docks.COLUMNS) t.stations t.docks (omega arith)))
      (numbered Bikes refl (at 3) 2 (stations.COLUMNS - bikes.COLUMNS))
      (λ x y h g. elim (has_append (map station_line t.stations) (map station_dock_line t.docks) x h) [
        | inl first ↦ at_two (at 0) (at 3) zero_value (at 0) 0 2 0 (stations.COLUMNS - bikes.COLUMNS) t.stations t.bikes (omega arith) x y first g
        | inr second ↦ at_two (at 0) (at 3) (at 1) (at 0) 1 2 (stations.COLUMNS - docks.COLUMNS) (stations.COLUMNS - bikes.COLUMNS) t.docks t.bikes (omega arith) x y second g
      ])

-- ---- the lines of one owner, in their order

both_owned : (a b v : Value) → is_eq (value_cmp a v) ≡ true → is_eq (value_cmp b v) ≡ true → value_cmp a b ≡ Equal
both_owned a b v first second =
    value_cmp_total.congr a v b ((Equal-is (value_cmp a v)).0 first) ∙ value_cmp_total.antisymm v b ∙ ap ordering_reverse ((Equal-is (value_cmp b v)).0 second)

-- those of rows that rise, where two lines of one owner are in the order of their rows
owned_rise : (show : Row → Row) (keys : ℕ) (v : Value) (rows : List Row) → Rises (by_key_total keys) rows
    → ((r s : Row) → Has rows r → Has rows s → by_key keys r s ≡ Less → value_cmp (column (show r) 0) (column (show s) 0) ≡ Equal → by_key 3 (show r) (show s) ≡ Less)
    → Rises (by_key_total 3) (filter (is_owned v) (map show rows))
owned_rise show keys v [] up each = tt
owned_rise show keys v (r ∷ rows) up each = go (is_owned v (show r)) refl (owned_rise show keys v rows up.1 (λ a b h k. each a b (inr h) (inr k))) where
  go : (b : Bool) → is_owned v (show r) ≡ b → Rises (by_key_total 3) (filter (is_owned v) (map show rows))
      → Rises (by_key_total 3) (cond b (show r ∷ filter (is_owned v) (map show rows)) (filter (is_owned v) (map show rows)))
  go false e rest = rest
  go true e rest = (
    all_from (λ y. by_key 3 (show r) y ≡ Less) (filter (is_owned v) (map show rows)) (λ y h.
        let it = has_filter (is_owned v) (map show rows) y h in
        let s = map_has show rows y it.0 in
        let low : by_key keys r s.0 ≡ Less = all_has (λ z. by_key keys r z ≡ Less) rows s.0 up.0 s.1 in
        ap (by_key 3 (show r)) s.2 ∙ each r s.0 (inl refl) (inr s.1) low (both_owned (column (show r) 0) (column (show s.0) 0) v e (ap (is_owned v) (sym s.2) ∙ it.1))),
    rest,
  )

owned_low : (o p k l : Value) (n : ℕ) → value_cmp o p ≡ Equal → value_cmp k l ≡ Less → row_cmp (o ∷ Int (pos n) ∷ k ∷ []) (p ∷ Int (pos n) ∷ l ∷ []) ≡ Less
owned_low o p k l n tie low =
    let same : value_cmp (Int (pos n)) (Int (pos n)) ≡ Equal = tied_itself value_cmp_total (Int (pos n)) in
    λ i. ordering_then (tie i) (ordering_then (same i) (ordering_then (low i) Equal))

-- the rows of a table with one key, by that
pub numbered_owned : (owner : Row → Value) (place spare : ℕ) (rows : List Row) → Rises (by_key_total 1) rows → ((row : Row) → Has rows row → take 1 row ≡ column row 0 ∷ [])
    → AreOwnedInOrder (map (λ row. line (owner row) (pos place) (column row 0) spare row) rows)
numbered_owned owner place spare rows up first v =
    owned_rise (λ row. line (owner row) (pos place) (column row 0) spare row) 1 v rows up (λ r s h k low tie.
    let own : value_cmp (column r 0) (column s 0) ≡ Less = sym (then-Equal (value_cmp (column r 0) (column s 0))) ∙ sym (ap₂ row_cmp (first r h) (first s k)) ∙ low in
    owned_low (owner r) (owner s) (column r 0) (column s 0) place tie own)

module _ (t : Tables) (up : AreInOrder t) (whole : AreWhole t) where
  docks_owned : AreOwnedInOrder (map station_dock_line t.docks)
  docks_owned v = owned_rise station_dock_line 2 v t.docks (up Docks) (λ r s h k low tie.
      let both : by_key 2 r s ≡ tied (value_cmp (column r 0) (column s 0)) (value_cmp (column r 1) (column s 1)) = ap₂ row_cmp (first_columns r (whole Docks r h)) (first_columns s (whole Docks s k)) in
      let own : value_cmp (column r 1) (column s 1) ≡ Less =
      sym (then-Equal (value_cmp (column r 1) (column s 1))) ∙ sym (ap (λ (c : Ordering). tied c (value_cmp (column r 1) (column s 1))) tie) ∙ sym both ∙ low in
      owned_low (column r 0) (column s 0) (column r 1) (column s 1) 1 tie own)

  one_first : (name : TableName) → keys_of name ≡ 1 → (row : Row) → Has (rows_in t name) row → take 1 row ≡ column row 0 ∷ []
  one_first name one row h = first_column row (let it = whole name row h in omega (arith, it, one))

  -- the docks of a station come before its bicycles
  pub stations_owned : AreOwnedInOrder (map station_dock_line t.docks ++ map station_bike_line t.bikes)
  stations_owned v =
      subst (Rises (by_key_total 3)) (sym (filter-append (is_owned v) (map station_dock_line t.docks) (map station_bike_line t.bikes)))
      (rises_append (by_key_total 3) (filter (is_owned v) (map station_dock_line t.docks)) (filter (is_owned v) (map station_bike_line t.bikes))
      (docks_owned v) (numbered_owned (λ row. column row 3) 2 (stations.COLUMNS - bikes.COLUMNS) t.bikes (up Bikes) (one_first Bikes refl) v)
      (λ x y h k.
      let dock = has_filter (is_owned v) (map station_dock_line t.docks) x h in
      let bike = has_filter (is_owned v) (map station_bike_line t.bikes) y k in
      let r = map_has station_dock_line t.docks x dock.0 in
      let s = map_has station_bike_line t.bikes y bike.0 in
      let tie : value_cmp (column r.0 0) (column s.0 3) ≡ Equal = both_owned (column r.0 0) (column s.0 3) v (ap (is_owned v) (sym r.2) ∙ dock.1) (ap (is_owned v) (sym s.2) ∙ bike.1) in
      let low : value_cmp (Int (pos 1)) (Int (pos 2)) ≡ Less = value_cmp-number_value 1 2 in
      ap₂ (by_key 3) r.2 s.2 ∙ (λ i. ordering_then (tie i) (ordering_then (low i) (ordering_then (value_cmp (column r.0 1) (column s.0 0)) Equal)))))

  pub trucks_owned : AreOwnedInOrder (map truck_bike_line t.bikes)
  trucks_owned = numbered_owned (λ row. column row 6) 1 0 t.bikes (up Bikes) (one_first Bikes refl)

  pub order_bikes_owned : AreOwnedInOrder (map order_bike_line t.bikes)
  order_bikes_owned = numbered_owned (λ row. column row 7) 1 0 t.bikes (up Bikes) (one_first Bikes refl)
