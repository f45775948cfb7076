-- What a change of a tree is to the rows that its table shows.
use Rattle.std.proofs.Common.{◌≡◌, ℕ, List, [], ◌∷◌, Bool, true, false, map, filter, not, cond, Ordering, Less, Equal, Greater, refl, sym, ap, ◌∙◌, subst, inl, inr}
use Rattle.std.specs.Cmp.{IsTotalOrder}
use Rattle.std.specs.Ordering.{is_eq, match_ordering}
use Rattle.std.specs.List.{AllByRecursion}
use Rattle.std.proofs.lemmas.Cmp.{on_total}
use Rattle.std.proofs.lemmas.Bool.{or_parts, true≢false}
use Rattle.sqlite_value.specs.Order.{Row, value_cmp}
use Rattle.sqlite_value.proofs.OrderLemmas.{value_cmp_total, row_cmp_total}
use Rattle.sqlite_trees.specs.Tree.{rowid, put_row, without_rowid, has_rowid}
use Rattle.sqlite_trees.specs.View.{is_int}
use Rattle.sqlite_schema.specs.declared.schema.Table.{Table}
use Rattle.sqlite_rules.specs.Lists.{Has}
use Rattle.sqlite_rules.specs.Edit.{is_taken}
use Rattle.sqlite_rules.proofs.TableLemmas.{has_put, put_has}
use Rattle.bike_sql.specs.Keyed.{put_in, in_order}
use Rattle.bike_sql.specs.View.{columns_of, by_key, AreSpread, AreNumbered, IsKeyed}
use Rattle.bike_sql.proofs.OrderLemmas.{AreApart, order_put, order_filter, all_has}
use Rattle.bike_sql.proofs.RowListLemmas.{has_map, map_has, has_filter}

pub by_key_total : (keys : ℕ) → IsTotalOrder (by_key keys)
by_key_total keys = on_total _ row_cmp_total

-- the row has another rowid
abbrev IsApart : Row → Row → Type 0
IsApart a b = value_cmp (rowid a) (rowid b) ≡ Equal → ⊥

tie_back : (a b : Row) → value_cmp (rowid a) (rowid b) ≡ Equal → value_cmp (rowid b) (rowid a) ≡ Equal
tie_back a b tie = rw tie at (value_cmp_total.antisymm (rowid b) (rowid a))

-- stored rows with one rowid are one
pub one_row : (rows : List Row) → AreSpread rows → (a b : Row) → Has rows a → Has rows b → value_cmp (rowid a) (rowid b) ≡ Equal → a ≡ b
one_row [] spread a b p q tie = elim p [ ]
one_row (r ∷ rows) spread a b (inl p) (inl q) tie = p ∙ sym q
one_row (r ∷ rows) spread a b (inl p) (inr q) tie = absurd (all_has (IsApart r) rows b spread.0 q (subst (λ x. value_cmp (rowid x) (rowid b) ≡ Equal) p tie))
one_row (r ∷ rows) spread a b (inr p) (inl q) tie = absurd (all_has (IsApart r) rows a spread.0 p (tie_back a r (subst (λ x. value_cmp (rowid a) (rowid x) ≡ Equal) q tie)))
one_row (r ∷ rows) spread a b (inr p) (inr q) tie = one_row rows spread.1 a b p q tie

-- ---- rowids

pub free_apart : (rows : List Row) (new r : Row) → is_taken rows new ≡ false → Has rows r → IsApart r new
free_apart [] new r free h tie = h
free_apart (x ∷ rows) new r free (inl is) tie =
    let other : is_eq (value_cmp (rowid x) (rowid new)) ≡ false = (or_parts _ _ free).0 in
    let same : value_cmp (rowid x) (rowid new) ≡ Equal = subst (λ y. value_cmp (rowid y) (rowid new) ≡ Equal) is tie in
    absurd (true≢false (rw same at other))
free_apart (x ∷ rows) new r free (inr later) tie = free_apart rows new r (or_parts _ _ free).1 later tie

pub spread_put : (new : Row) (rows : List Row) → is_taken rows new ≡ false → AreSpread rows → AreSpread (put_row new rows)
spread_put new [] free spread = (tt, tt)
spread_put new (r ∷ rows) free spread = by (value_cmp (rowid r) (rowid new)) refl (spread_put new rows (or_parts _ _ free).1 spread.1)
  where
    far : (xs : List Row) → is_taken xs new ≡ false → AllByRecursion (IsApart new) xs
    far [] f = tt
    far (x ∷ xs) f = (λ tie. free_apart (x ∷ xs) new x f (inl refl) (tie_back new x tie), far xs (or_parts (is_eq (value_cmp (rowid x) (rowid new))) _ f).1)

    near : (xs : List Row) → IsApart r new → AllByRecursion (IsApart r) xs → AllByRecursion (IsApart r) (put_row new xs)
    near [] it all = (it, tt)
    near (x ∷ xs) it all =
        elim (value_cmp (rowid x) (rowid new)) as (λ o. AllByRecursion (IsApart r)
        (match_ordering o (x ∷ put_row new xs) (new ∷ xs) (new ∷ x ∷ xs))) [ Less ↦ (all.0, near xs it all.1) | Equal ↦ (it, all.1) | Greater ↦ (it, all) ]

    by : (o : Ordering) → value_cmp (rowid r) (rowid new) ≡ o → AreSpread (put_row new rows) → AreSpread (match_ordering o (r ∷ put_row new rows) (new ∷ rows) (new ∷ r ∷ rows))
    by Less e rest = (near rows (λ tie. cc) spread.0, rest)
    by Equal e rest = absurd (true≢false (rw e at (or_parts (is_eq (value_cmp (rowid r) (rowid new))) _ free).0))
    by Greater e rest = (far (r ∷ rows) free, spread)

pub spread_without : (n : _) (rows : List Row) → AreSpread rows → AreSpread (without_rowid n rows)
spread_without n [] spread = tt
spread_without n (r ∷ rows) spread =
    elim (not (has_rowid n r)) as (λ b. AreSpread (cond b (r ∷ without_rowid n rows)
    (without_rowid n rows))) [ true ↦ (without rows spread.0, spread_without n rows spread.1) | false ↦ spread_without n rows spread.1 ]
  where
    without : (xs : List Row) → AllByRecursion (IsApart r) xs → AllByRecursion (IsApart r) (without_rowid n xs)
    without [] all = tt
    without (x ∷ xs) all =
        elim (not (has_rowid n x)) as (λ b. AllByRecursion (IsApart r) (cond b (x ∷ without_rowid n xs) (without_rowid n xs))) [ true ↦ (all.0, without xs all.1) | false ↦ without xs all.1 ]

pub numbered_put : (new : Row) (rows : List Row) → is_int (rowid new) ≡ true → AreNumbered rows → AreNumbered (put_row new rows)
numbered_put new rows it numbered r h = elim (put_has new rows r h) [ inl is ↦ rw is it | inr was ↦ numbered r was ]

pub numbered_without : (n : _) (rows : List Row) → AreNumbered rows → AreNumbered (without_rowid n rows)
numbered_without n rows numbered r h = numbered r (has_filter (λ x. not (has_rowid n x)) rows r h).0

pub keyed_without : (keys : ℕ) (table : Table) (n : _) (rows : List Row) → IsKeyed keys table rows → IsKeyed keys table (without_rowid n rows)
keyed_without keys table n rows keyed =
    let was = has_filter (λ x. not (has_rowid n x)) rows in record {
      spread = spread_without n rows keyed.spread;
      numbered = numbered_without n rows keyed.numbered;
      apart = λ a b p q. keyed.apart a b (was a p).0 (was b q).0;
    }

pub put_keeps : (new : Row) (rows : List Row) (x : Row) → is_taken rows new ≡ false → Has rows x → Has (put_row new rows) x
put_keeps new [] x free h = elim h [ ]
put_keeps new (r ∷ rows) x free h = by (value_cmp (rowid r) (rowid new)) (or_parts _ _ free).0 h (put_keeps new rows x (or_parts _ _ free).1)
  where
    by : (o : Ordering) → is_eq o ≡ false → Has (r ∷ rows) x → (Has rows x → Has (put_row new rows) x) → Has (match_ordering o (r ∷ put_row new rows) (new ∷ rows) (new ∷ r ∷ rows)) x
    by Less other (inl is) rest = inl is
    by Less other (inr later) rest = inr (rest later)
    by Equal other here rest = absurd (true≢false other)
    by Greater other here rest = inr here

-- ---- rows shown

-- no two rows that show have one key
pub shown_apart : (keys : ℕ) (table : Table) (rows : List Row) → IsKeyed keys table rows → AreApart (by_key_total keys) (map (columns_of table) rows)
shown_apart keys table rows keyed a b p q tie =
    let x = map_has (columns_of table) rows a p in
    let y = map_has (columns_of table) rows b q in
    let t : by_key keys (columns_of table x.0) (columns_of table y.0) ≡ Equal = rw (← x.2, ← y.2) tie in
    x.2 ∙ ap (columns_of table) (one_row rows keyed.spread x.0 y.0 x.1 y.1 (keyed.apart x.0 y.0 x.1 y.1 t)) ∙ sym y.2

-- A row came in under a rowid that is free among the rows that were left, and those that were taken out have its key.
pub shows_put : (keys : ℕ) (table : Table) (old left : List Row) (new : Row) → IsKeyed keys table old → IsKeyed keys table (put_row new left) → is_taken left new ≡ false
    → ((x : Row) → Has left x → Has old x) → ((x : Row) → Has old x → (by_key keys (columns_of table x) (columns_of table new) ≡ Equal → ⊥) → Has left x)
    → in_order (by_key keys) (map (columns_of table) (put_row new left)) ≡ put_in (by_key keys) (columns_of table new) (in_order (by_key keys) (map (columns_of table) old))
shows_put keys table old left new was now free kept stays =
    let f = columns_of table in
    let after = put_row new left in
    order_put (by_key_total keys) (map f old) (map f after) (f new) (shown_apart keys table old was) (shown_apart keys table after now) (has_map f after new (has_put new left))
    (λ x h. let it = map_has f after x h in elim (put_has new left it.0 it.1) [
      | inl is ↦ inl (it.2 ∙ ap f is)
      | inr there ↦ inr (
        rw it.2 (has_map f old it.0 (kept it.0 there)),
        λ tie. let t : by_key keys (f it.0) (f new) ≡ Equal = rw (← it.2) tie in free_apart left new it.0 free there (now.apart it.0 new it.1 (has_put new left) t),
      )
    ])
    (λ x h apart. let it = map_has f old x h in rw it.2 (has_map f after it.0 (put_keeps new left it.0 free (stays it.0 it.1 (λ tie. apart (rw it.2 tie))))))

-- Rows were taken out, and those were left that pass a test of what shows.
pub shows_left : (keys : ℕ) (table : Table) (old left : List Row) (p : Row → Bool) → IsKeyed keys table old → IsKeyed keys table left
    → ((x : Row) → Has left x → Has old x × (p (columns_of table x) ≡ true)) → ((x : Row) → Has old x → p (columns_of table x) ≡ true → Has left x)
    → in_order (by_key keys) (map (columns_of table) left) ≡ filter p (in_order (by_key keys) (map (columns_of table) old))
shows_left keys table old left p was now kept stays =
    let f = columns_of table in
    order_filter (by_key_total keys) p (map f old) (map f left) (shown_apart keys table old was) (shown_apart keys table left now)
    (λ x h. let it = map_has f left x h in let stayed = kept it.0 it.1 in (rw it.2 (has_map f old it.0 stayed.0), ap p it.2 ∙ stayed.1))
    (λ x h passes. let it = map_has f old x h in rw it.2 (has_map f left it.0 (stays it.0 it.1 (ap p (sym it.2) ∙ passes))))
