-- The first bad row is the lesser of the audit's and of the first station over the bound.
use Rattle.std.proofs.Common.{◌≡◌, ◌<◌, ◌⊎◌, inl, inr, ℕ, zero, suc, true, false, List, [], ◌∷◌, ◌++◌, map, Option, Some, None, slice_get, Ordering, Less, Equal, Greater, if◌then◌else◌, refl, sym, ap}
use Rattle.std.proofs.Common.{subst, ◌∙◌, arith}
use Rattle.std.specs.Prelude.{take, option_map, IfSome}
use Rattle.std.specs.Ordering.{is_lt}
use Rattle.std.specs.Cmp.{ranked}
use Rattle.std.proofs.lemmas.Bool.{eq-eqb, true≢false}
use Rattle.std.proofs.lemmas.List.{map-append}
use Rattle.sqlite_value.specs.Order.{Row, row_cmp}
use Rattle.sqlite_value.proofs.OrderLemmas.{row_cmp_total}
use Rattle.sqlite_rules.specs.Lists.{Has}
use Rattle.bike_sql.specs.View.{by_key}
use Rattle.bike_sql.proofs.RowListLemmas.{map_has, has_map, same_some}
use Rattle.bike_sql.proofs.OrderLemmas.{Rises, all_has}
use Rattle.bike_sql.proofs.TreeLemmas.{by_key_total}
use Rattle.bike_book.specs.Tables.{TableName, Tables, keys_of, table_place, Stations}
use Rattle.bike_schema.proofs.TableLemmas.{same_table}
use Rattle.bike_readings.specs.Rules.{AreInOrder, row_under, IsGoodKey, IsFirstBad, IsVerdict}
use Rattle.bike_readings.proofs.Places.{has_under, under_has}
use Rattle.bike_judges.specs.Least.{least_key}
use Rattle.bike_recognition.specs.EarlierVersions.Earlier.{completed}
use Rattle.bike_migrate.specs.Stations.{has_few, AreCopies, IsFirstOver, IsOver}
use Rattle.bike_migrate.specs.Verdicts.{KeepsBound, IsFirstBadBefore, IsVerdictBefore, lesser_of, against_stations, first_of}

-- ---- lists

-- the rows before one at a place, and those after it
record SplitsAt (rows : List Row) (row : Row) : Type 0 where
  front : List Row
  back : List Row
  rows_are : rows ≡ front ++ row ∷ back
  few : (r : Row) → Has front r → has_few r ≡ true

split_at : (rows : List Row) (at : ℕ) (row : Row) → slice_get rows at ≡ Some row → ((k : ℕ) (other : Row) → k < at → slice_get rows k ≡ Some other → has_few other ≡ true) → SplitsAt rows row
split_at [] at row is few = absurd cc
split_at (x ∷ xs) zero row is few = record { front = []; back = xs; rows_are = ap (λ y. y ∷ xs) (same_some is); few = λ r none. absurd none }
split_at (x ∷ xs) (suc at) row is few =
    let it = split_at xs at row is (λ k other less there. few (suc k) other (omega (arith, less)) there) in record {
      front = x ∷ it.front;
      back = it.back;
      rows_are = ap (λ l. x ∷ l) it.rows_are;
      few = λ r h. elim h [ inl is ↦ subst (λ y. has_few y ≡ true) (sym is) (few 0 x (omega arith) refl) | inr later ↦ it.few r later ];
    }

-- the place of an element
record HasPlace (rows : List Row) (row : Row) : Type 0 where
  at : ℕ
  there : slice_get rows at ≡ Some row

place_of : (rows : List Row) (row : Row) → Has rows row → HasPlace rows row
place_of [] row has = absurd has
place_of (x ∷ xs) row (inl is) = record { at = 0; there = ap Some (sym is) }
place_of (x ∷ xs) row (inr later) = let it = place_of xs row later in record { at = suc it.at; there = it.there }

has_parts : (front : List Row) (row : Row) (back : List Row) (r : Row) → Has (front ++ row ∷ back) r → (Has front r) ⊎ ((r ≡ row) ⊎ Has back r)
has_parts [] row back r (inl is) = inr (inl is)
has_parts [] row back r (inr later) = inr (inr later)
has_parts (x ∷ front) row back r (inl is) = inl (inl is)
has_parts (x ∷ front) row back r (inr later) = elim (has_parts front row back r later) [ inl there ↦ inl (inr there) | inr rest ↦ inr rest ]

has_middle : (front : List Row) (row : Row) (back : List Row) → Has (front ++ row ∷ back) row
has_middle [] row back = inl refl
has_middle (x ∷ front) row back = inr (has_middle front row back)

above_middle : (front : List Row) (row : Row) (back : List Row) → Rises (by_key_total 1) (front ++ row ∷ back) → (r : Row) → Has back r → by_key 1 row r ≡ Less
above_middle [] row back up r has = all_has (λ y. by_key 1 row y ≡ Less) back r up.0 has
above_middle (x ∷ front) row back up r has = above_middle front row back up.1 r has

-- ---- the bound

bound_other : (t : Tables) (name : TableName) (key : Row) → (name ≡ Stations → ⊥) → KeepsBound t name key
bound_other t Stations key other = absurd (other refl)
bound_other t name key other = tt

apart : (name : TableName) → (table_place name ≡ table_place Stations → ⊥) → name ≡ Stations → ⊥
apart name other same = other (ap table_place same)

module _ (t : Tables) (up : AreInOrder t) (rows : List Row) (copies : AreCopies rows t.stations) where
  abbrev station_row : Row → Row
  station_row = completed copies.counts

  -- the copy that stands under a key
  abbrev Under : Row → Row → Type 0
  Under key y = (r : Row) × Has rows r × (y ≡ station_row r) × (row_cmp (take 1 y) key ≡ Equal)

  under : (key y : Row) → row_under t Stations key ≡ Some y → Under key y
  under key y found =
      let there = under_has 1 key t.stations y found in
      let it = map_has station_row rows y (subst (λ ys. Has ys y) (sym copies.are) there.0) in
      (it.0, it.1, it.2, there.1)

  bound_by : (key : Row) → ((y r : Row) → Has rows r → y ≡ station_row r → row_cmp (take 1 y) key ≡ Equal → has_few r ≡ true) → KeepsBound t Stations key
  bound_by key few = by (row_under t Stations key) refl
    where
      by : (o : Option Row) → row_under t Stations key ≡ o → IfSome o (λ row. has_few row ≡ true)
      by None found = tt
      by (Some y) found = let it = under key y found in subst (λ z. has_few z ≡ true) (sym it.2) (few y it.0 it.1 it.2 it.3)

  -- ---- no station is over it

  module _ (none : (k : ℕ) (other : Row) → slice_get rows k ≡ Some other → has_few other ≡ true) where
    all_keep : (name : TableName) (key : Row) → KeepsBound t name key
    all_keep Stations key = bound_by key (λ y r has is tie. let it = place_of rows r has in none it.at r it.there)
    all_keep name key = tt

    none_over : (found : Option (TableName × Row)) → IsVerdict t found → IsVerdictBefore t found
    none_over None all = λ name key. record { good = all name key; few = all_keep name key }
    none_over (Some bad) first = record {
      bad = λ good. first.bad good.good;
      own = first.own;
      before = λ other less. record { good = first.before other less; few = all_keep bad.0 other };
      earlier = λ table other less. record { good = first.earlier table other less; few = all_keep table other };
    }

  -- ---- one is

  module _ (row : Row) (over : IsFirstOver rows row) where
    split : SplitsAt rows row
    split = split_at rows over.at row over.there over.before

    abbrev copy : Row
    copy = station_row row

    abbrev key : Row
    key = take 1 row

    key_is : take 1 copy ≡ key
    key_is = copies.keyed row (subst (λ rs. Has rs row) (sym split.rows_are) (has_middle split.front row split.back))

    copies_are : t.stations ≡ map station_row split.front ++ copy ∷ map station_row split.back
    copies_are = sym copies.are ∙ ap (map station_row) split.rows_are ∙ map-append station_row split.front (row ∷ split.back)

    there : row_under t Stations key ≡ Some copy
    there = subst (λ k. row_under t Stations k ≡ Some copy) key_is
        (has_under 1 t.stations copy (up Stations) (subst (λ ys. Has ys copy) (sym copies_are) (has_middle (map station_row split.front) copy (map station_row split.back))))

    too_many : KeepsBound t Stations key → ⊥
    too_many keeps = let few = subst (λ o. IfSome o (λ r. has_few r ≡ true)) there keeps in true≢false (sym few ∙ over.over)

    own_key : IfSome (row_under t Stations key) (λ r. take (keys_of Stations) r ≡ key)
    own_key = subst (λ o. IfSome o (λ r. take 1 r ≡ key)) (sym there) key_is

    -- a station of a lesser key is no later one
    before_it : (other : Row) → row_cmp other key ≡ Less → KeepsBound t Stations other
    before_it other less = bound_by other (λ y r has is tie. elim (has_parts split.front row split.back r (subst (λ rs. Has rs r) split.rows_are has)) [
      | inl front ↦ split.few r front
      | inr (inl same) ↦ absurd (let itself : row_cmp key other ≡ Equal = subst (λ k. row_cmp k other ≡ Equal) (ap (λ x. take 1 x) (is ∙ ap station_row same) ∙ key_is) tie in
          let back : row_cmp other key ≡ Equal = rw itself at (row_cmp_total.antisymm other key) in cc)
      | inr (inr later) ↦ absurd (
          let above : by_key 1 copy (station_row r) ≡ Less = above_middle (map station_row split.front) copy (map station_row split.back) (subst (Rises (by_key_total 1)) copies_are (up Stations)) (station_row r) (has_map station_row split.back r later) in
          let higher : row_cmp key (take 1 y) ≡ Less = subst (λ k. row_cmp k (take 1 y) ≡ Less) key_is (subst (λ z. row_cmp (take 1 copy) (take 1 z) ≡ Less) (sym is) above) in
          let lower : row_cmp (take 1 y) key ≡ Less = row_cmp_total.congr (take 1 y) other key tie ∙ less in
          let back : row_cmp (take 1 y) key ≡ Greater = rw higher at (row_cmp_total.antisymm (take 1 y) key) in cc)
    ])

    earlier_keeps : (table : TableName) (other : Row) → table_place table < table_place Stations → KeepsBound t table other
    earlier_keeps table other less = bound_other t table other (apart table (λ same. omega (arith, less, same)))

    -- it is the first bad row
    over_first : ((other : Row) → row_cmp other key ≡ Less → IsGoodKey t Stations other) → ((table : TableName) (other : Row) → table_place table < table_place Stations → IsGoodKey t table other)
        → IsFirstBadBefore t Stations key
    over_first below earlier = record {
      bad = λ good. too_many good.few;
      own = own_key;
      before = λ other less. record { good = below other less; few = before_it other less };
      earlier = λ table other less. record { good = earlier table other less; few = earlier_keeps table other less };
    }

    -- the audit's is
    audit_first : (name : TableName) (bad : Row) → IsFirstBad t name bad → ((other : Row) → row_cmp other bad ≡ Less → KeepsBound t name other)
        → ((table : TableName) (other : Row) → table_place table < table_place name → KeepsBound t table other)
        → IsFirstBadBefore t name bad
    audit_first name bad first below earlier = record {
      bad = λ good. first.bad good.good;
      own = first.own;
      before = λ other less. record { good = first.before other less; few = below other less };
      earlier = λ table other less. record { good = first.earlier table other less; few = earlier table other less };
    }

    -- both are stations
    two_stations : (bad : Row) → IsFirstBad t Stations bad → IsVerdictBefore t (option_map (λ k. (Stations, k)) (least_key (Some bad) (Some key)))
    two_stations bad first = by (row_cmp key bad) refl
      where
        up_to : (o : Ordering) → row_cmp key bad ≡ o → is_lt o ≡ false → (other : Row) → row_cmp other bad ≡ Less → row_cmp other key ≡ Less
        up_to Less is not_less other less = absurd (true≢false not_less)
        up_to Equal is not_less other less =
            let above : row_cmp bad other ≡ Greater = rw less at (row_cmp_total.antisymm bad other) in
            let same : row_cmp key other ≡ Greater = row_cmp_total.congr key bad other is ∙ above in
            rw same at (row_cmp_total.antisymm other key)
        up_to Greater is not_less other less =
            let lower : row_cmp bad key ≡ Less = rw is at (row_cmp_total.antisymm bad key) in
            row_cmp_total.trans other bad key less lower

        by : (o : Ordering) → row_cmp key bad ≡ o → IsVerdictBefore t (option_map (λ k. (Stations, k)) (if is_lt o then Some key else Some bad))
        by Less is = over_first (λ other less. first.before other (row_cmp_total.trans other key bad less is)) first.earlier
        by Equal is = audit_first Stations bad first (λ other less. before_it other (up_to Equal is refl other less)) earlier_keeps
        by Greater is = audit_first Stations bad first (λ other less. before_it other (up_to Greater is refl other less)) earlier_keeps

    some_over : (found : Option (TableName × Row)) → IsVerdict t found → IsVerdictBefore t (first_of found (Some key))
    some_over None all = over_first (λ other less. all Stations other) (λ table other less. all table other)
    some_over (Some bad) first = by (against_stations bad.0) refl
      where
        by : (o : Ordering) → o ≡ against_stations bad.0 → IsVerdictBefore t (lesser_of o bad key)
        by Less is =
            let less : table_place bad.0 < table_place Stations = ranked (table_place bad.0) (table_place Stations) Less is in
            audit_first bad.0 bad.1 first (λ other below. bound_other t bad.0 other (apart bad.0 (λ same. omega (arith, less, same))))
            (λ table other before. earlier_keeps table other (omega (arith, less, before)))
        by Equal is =
            let place : table_place bad.0 ≡ table_place Stations = ranked (table_place bad.0) (table_place Stations) Equal is in
            let same : bad.0 ≡ Stations = same_table bad.0 Stations (eq-eqb (table_place bad.0) (table_place Stations) place) in
            two_stations bad.1 (subst (λ name. IsFirstBad t name bad.1) same first)
        by Greater is =
            let more : table_place Stations < table_place bad.0 = ranked (table_place bad.0) (table_place Stations) Greater is in
            over_first (λ other less. first.earlier Stations other more) (λ table other before. first.earlier table other (omega (arith, more, before)))

  pub judged : (found : Option (TableName × Row)) → IsVerdict t found → (over : Option Row) → IsOver rows over → IsVerdictBefore t (first_of found (option_map (take 1) over))
  judged found verdict None over = none_over over found verdict
  judged found verdict (Some row) over = some_over row over found verdict
