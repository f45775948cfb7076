-- What an INSERT of a row, and an UPDATE of the row with a key, make of the rows that a table shows.
use Rattle.std.proofs.Common.{◌≡◌, ◌⊎◌, inl, inr, ℕ, ℤ, List, [], ◌∷◌, map, filter, length, Bool, true, false, not, cond, Some, None, Ordering, Less, Equal, Greater, refl, sym, ap, subst, ◌∙◌, take}
use Rattle.std.specs.Ordering.{is_eq}
use Rattle.std.specs.List.Sorted.{IsPermutation}
use Rattle.std.proofs.lemmas.Bool.{and_parts, not-true}
use Rattle.std.proofs.lemmas.List.Sorted.{length_permutation}
use Rattle.sqlite_value.specs.declared.value.Value.TheVariants.{Int}
use Rattle.sqlite_value.specs.declared.keys.Key.{Key}
use Rattle.sqlite_value.specs.Order.{Row, value_cmp, row_cmp}
use Rattle.sqlite_trees.specs.Tree.{Trees, rowid, has_rowid, put_row, without_rowid}
use Rattle.sqlite_trees.specs.View.{is_int}
use Rattle.sqlite_sql.specs.Term.{Term, eval_all}
use Rattle.sqlite_sql.specs.Query.{Output}
use Rattle.sqlite_schema.specs.declared.schema.Schema.{Schema}
use Rattle.sqlite_schema.specs.declared.schema.Table.{Table}
use Rattle.sqlite_schema.specs.declared.schema.Keys.TheVariants.{Enforced}
use Rattle.sqlite_schema.specs.declared.schema.Kind.TheVariants.{Integer}
use Rattle.sqlite_rules.specs.declared.error.Rowids.TheVariants.{Chosen, Given}
use Rattle.sqlite_rules.specs.Lists.{Has}
use Rattle.sqlite_rules.specs.Calls.{ids_of}
use Rattle.sqlite_rules.specs.Cast.{cast, cast_all, cast_row}
use Rattle.sqlite_rules.specs.Edit.{edit_of, with_rowid, Applies, is_taken, id_in}
use Rattle.sqlite_rules.proofs.TableLemmas.{int_is, has_put}
use Rattle.sqlite.proofs.Callers.{one_permutation}
use Rattle.bike_sql.specs.Keyed.{in_order}
use Rattle.bike_sql.specs.Layout.{Layout, table_of}
use Rattle.bike_sql.specs.View.{columns_of, by_key, rows_in, row_with, IsFree, put_row_by, rows_after_replacement, AreSpread, AreNumbered, IsKeyed}
use Rattle.bike_sql.proofs.OrderLemmas.{all_has, order_has, has_order}
use Rattle.bike_sql.proofs.RowListLemmas.{has_map, map_has, has_filter, filter_has, filter_none, find_only, find_none, no_list}
use Rattle.bike_sql.proofs.TreeLemmas.{by_key_total, one_row, free_apart, put_keeps, spread_put, spread_without, numbered_put, numbered_without, shown_apart, shows_put}
use Rattle.bike_sql.proofs.CastLemmas.{suit_all, suits_row, cast_same, cast_all_same, cast_row_same}
use Rattle.bike_sql.proofs.TestLemmas.{tie_of}
use Rattle.bike_sql.proofs.AnswerLemmas.{passes, out, Answered}

-- of rows whose rowids are apart, one at most passes a test that fixes the rowid
pub one_passes : (p : Row → Bool) (rows : List Row) → AreSpread rows → ((a b : Row) → Has rows a → Has rows b → p a ≡ true → p b ≡ true → value_cmp (rowid a) (rowid b) ≡ Equal)
    → (filter p rows ≡ []) ⊎ ((r : Row) × Has rows r × (p r ≡ true) × (filter p rows ≡ r ∷ []))
one_passes p [] spread one = inl refl
one_passes p (x ∷ rows) spread one = by (p x) refl (one_passes p rows spread.1 (λ a b q r. one a b (inr q) (inr r)))
  where
    by : (b : Bool) → p x ≡ b → (filter p rows ≡ []) ⊎ ((r : Row) × Has rows r × (p r ≡ true) × (filter p rows ≡ r ∷ []))
        → (cond b (x ∷ filter p rows) (filter p rows) ≡ []) ⊎ ((r : Row) × Has (x ∷ rows) r × (p r ≡ true) × (cond b (x ∷ filter p rows) (filter p rows) ≡ r ∷ []))
    by true e rest = inr (x, inl refl, e, ap (λ l. x ∷ l) (filter_none p rows (λ y has. fails y has (p y) refl)))
      where
        fails : (y : Row) → Has rows y → (b : Bool) → p y ≡ b → p y ≡ false
        fails y has true f = absurd (all_has (λ z. value_cmp (rowid x) (rowid z) ≡ Equal → ⊥) rows y spread.0 has (one x y (inl refl) (inr has) e f))
        fails y has false f = f
    by false e (inl none) = inl none
    by false e (inr it) = inr (it.0, inr it.1, it.2, it.3)

module _ (keys : ℕ) (layout : Layout) (tree : ℕ) (schema : Schema) (db next : Trees) where
  abbrev table : Table
  table = table_of layout tree

  abbrev f : Row → Row
  f = columns_of table

  -- as soon as the rowids are numbers and apart, the first columns are a key
  abbrev KeyFollows : Type 0
  KeyFollows = AreSpread (next tree) → AreNumbered (next tree) → IsKeyed keys table (next tree)

  -- ---- INSERT

  -- what came in has a key that no row had, as the first columns are a key after it
  none_there : (new row : Row) → f new ≡ row → is_taken (db tree) new ≡ false → IsKeyed keys table (put_row new (db tree)) → IsFree keys row (rows_in keys table db)
  none_there new row is free now = find_none (λ x. is_eq (row_cmp (take keys x) (take keys row))) (rows_in keys table db) (λ y h.
      let it = map_has f (db tree) y (order_has (by_key_total keys) (map f (db tree)) y h) in rw it.2 (by it.0 it.1 (is_eq (by_key keys (f it.0) row)) refl))
    where
      by : (r : Row) → Has (db tree) r → (b : Bool) → is_eq (by_key keys (f r) row) ≡ b → is_eq (by_key keys (f r) row) ≡ false
      by r has true e =
          absurd (let tie : by_key keys (f r) (f new) ≡ Equal = rw is (tie_of _ e) in free_apart (db tree) new r free has
          (now.apart r new (put_keeps new (db tree) r free has) (has_put new (db tree)) tie))
      by r has false e = e

  pub puts_row : (source row : Row) → Applies schema Enforced db (edit_of db table [] Chosen 0 (source ∷ [])) next → suits_row layout.columns source ≡ true
      → ((rows : List Row) → f (with_rowid Chosen rows source) ≡ row) → IsKeyed keys table (db tree) → KeyFollows
      → IsKeyed keys table (next tree) × (rows_in keys table next ≡ put_row_by keys row (rows_in keys table db)) × IsFree keys row (rows_in keys table db)
  puts_row source row it suit shows was follows =
      let new = with_rowid Chosen (db tree) source in
      let is : with_rowid Chosen (db tree) (cast_row table source) ≡ new = ap (with_rowid Chosen (db tree)) (cast_row_same table source suit) in
      let all : next tree ≡ put_row new (db tree) = it.rows ∙ ap (λ r. put_row r (db tree)) is in
      let free : is_taken (db tree) new ≡ false = subst (λ r. is_taken (db tree) r ≡ false) is (not-true (is_taken (db tree) (with_rowid Chosen (db tree) (cast_row table source))) (and_parts _ _ it.fresh).0) in
      let number : is_int (rowid new) ≡ true = subst (λ r. is_int (rowid r) ≡ true) is (and_parts (is_int (rowid (with_rowid Chosen (db tree) (cast_row table source)))) true it.keyed).0 in
      let now : IsKeyed keys table (next tree) = follows (rw all (spread_put new (db tree) free was.spread)) (rw all (numbered_put new (db tree) number was.numbered)) in
      let shown = shows_put keys table (db tree) (db tree) new was (subst (IsKeyed keys table) all now) free (λ x h. h) (λ x h apart. h) in (
        now,
        ap (λ rows. in_order (by_key keys) (map f rows)) all ∙ shown ∙ ap (λ r. put_row_by keys r (rows_in keys table db)) (shows (db tree)),
        none_there new row (shows (db tree)) free
            (subst (IsKeyed keys table) all now),
      )

  -- ---- UPDATE

  module _ (tests : List Term) (order : List (Term × Key)) (project : List Term) (params values row : Row) where
    abbrev test : Row → Bool
    test = passes tree tests order project db params

    abbrev Replaced : Type 0
    Replaced = IsKeyed keys table (next tree) × (rows_in keys table next ≡ rows_after_replacement keys row (rows_in keys table db))

    -- The test finds the row with the new row's key, and the new row takes its rowid.
    pub replaces_row : (rows : List Row) → Answered tree tests order project db params rows → Applies schema Enforced db (edit_of db table (ids_of rows) Given 1 rows) next
        → suit_all layout.columns values ≡ true
        → ((r : Row) → eval_all project (params ∷ r ∷ []) ≡ rowid r ∷ rowid r ∷ values) → ((r : Row) → test r ≡ is_eq (by_key keys (f r) row))
        → ((r : Row) → Has (db tree) r → test r ≡ true → f (rowid r ∷ values) ≡ row) → IsKeyed keys table (db tree) → KeyFollows
        → Replaced
    replaces_row rows a it suit projects tested shows was follows = elim (one_passes test (db tree) was.spread same_id) [ inl none ↦ nothing none | inr one ↦ something one.0 one.1 one.2 one.3 ]
      where
        tie : (r : Row) → test r ≡ true → by_key keys (f r) row ≡ Equal
        tie r pass = tie_of _ (sym (tested r) ∙ pass)

        same_id : (x y : Row) → Has (db tree) x → Has (db tree) y → test x ≡ true → test y ≡ true → value_cmp (rowid x) (rowid y) ≡ Equal
        same_id x y p q s t = was.apart x y p q ((by_key_total keys).congr (f x) row (f y) (tie x s) ∙ (rw (tie y t) at ((by_key_total keys).antisymm row (f y))))

        nothing : filter test (db tree) ≡ [] → Replaced
        nothing none =
            let outs : a.outs ≡ [] = no_list a.outs (length_permutation (map (out tree tests order project db params) (filter test (db tree))) a.outs a.same ∙ ap (λ xs. length (map (out tree tests order project db params) xs)) none) in
            let empty : rows ≡ [] = a.shown ∙ ap (map (λ (o : Output). o.1)) outs in
            let all : next tree ≡ db tree = rw empty at it.rows in
            let miss : row_with keys (take keys row) (rows_in keys table db) ≡ None = find_none (λ x. is_eq (row_cmp (take keys x) (take keys row))) (rows_in keys table db) (λ y h.
            let r = map_has f (db tree) y (order_has (by_key_total keys) (map f (db tree)) y h) in rw r.2 (sym (tested r.0) ∙ fails r.0 r.1 (test r.0) refl)) in
            (rw all was, rw miss (ap (λ rs. in_order (by_key keys) (map f rs)) all))
          where
            fails : (r : Row) → Has (db tree) r → (b : Bool) → test r ≡ b → test r ≡ false
            fails r has true e = absurd (subst (λ xs. Has xs r) none (filter_has test (db tree) r has e))
            fails r has false e = e

        something : (r : Row) → Has (db tree) r → test r ≡ true → filter test (db tree) ≡ r ∷ [] → Replaced
        something r has pass only =
            let n = id_in (rowid r) in
            let o = out tree tests order project db params in
            let new = Int n ∷ values in
            let left = without_rowid n (db tree) in
            let outs : a.outs ≡ o r ∷ [] = one_permutation (o r) a.outs (subst (λ xs. IsPermutation (map o xs) a.outs) only a.same) in
            let id : rowid r ≡ Int n = int_is (rowid r) (was.numbered r has) in
            let given : rows ≡ (Int n ∷ Int n ∷ values) ∷ [] = a.shown ∙ ap (map (λ (x : Output). x.1)) outs ∙ ap (λ x. x ∷ []) (projects r ∙ ap (λ v. v ∷ v ∷ values) id) in
            let one : cast Integer (Int n) ≡ Int n = cast_same Integer (Int n) refl in
            let others : cast_all layout.columns values ≡ values = cast_all_same layout.columns values suit in
            let all : next tree ≡ put_row new left = rw (given, one, others) at it.rows in
            let free : is_taken left new ≡ false = not-true _ (and_parts _ _ (rw (given, one) at it.fresh)).0 in
            let now : IsKeyed keys table (next tree) = follows (rw all (spread_put new left free (spread_without n (db tree) was.spread))) (rw all (numbered_put new left refl (numbered_without n (db tree) was.numbered))) in
            let shown : f new ≡ row = subst (λ v. f (v ∷ values) ≡ row) id (shows r has pass) in
            let found : row_with keys (take keys row) (rows_in keys table db) ≡ Some (f r) = find_only (λ x. is_eq (row_cmp (take keys x) (take keys row))) (rows_in keys table db) (f r)
            (has_order (by_key_total keys) (map f (db tree)) (shown_apart keys table (db tree) was) (f r) (has_map f (db tree) r has)) (sym (tested r) ∙ pass)
            (λ y h t. let s = map_has f (db tree) y (order_has (by_key_total keys) (map f (db tree)) y h) in
            let q : test s.0 ≡ true = tested s.0 ∙ subst (λ z. is_eq (row_cmp (take keys z) (take keys row)) ≡ true) s.2 t in
            s.2 ∙ ap f (one_row (db tree) was.spread s.0 r s.1 has (same_id s.0 r s.1 has q pass))) in
            let put = shows_put keys table (db tree) left new was (subst (IsKeyed keys table) all now) free (λ x h. (has_filter (λ y. not (has_rowid n y)) (db tree) x h).0)
            (λ x h apart. filter_has (λ y. not (has_rowid n y)) (db tree) x h (stays x h n id (λ e. apart (rw shown e)))) in
            (now, rw found (ap (λ rs. in_order (by_key keys) (map f rs)) all ∙ put ∙ ap (λ v. put_row_by keys v (rows_in keys table db)) shown))
          where
            stays : (x : Row) → Has (db tree) x → (n : ℤ) → rowid r ≡ Int n → (by_key keys (f x) row ≡ Equal → ⊥) → not (has_rowid n x) ≡ true
            stays x h n id apart = by (value_cmp (rowid x) (Int n)) refl
              where
                by : (o : Ordering) → value_cmp (rowid x) (Int n) ≡ o → not (is_eq o) ≡ true
                by Less e = refl
                by Equal e = absurd (let t : value_cmp (rowid x) (rowid r) ≡ Equal = rw id e in let same : x ≡ r = one_row (db tree) was.spread x r h has t in apart (rw same (tie r pass)))
                by Greater e = refl
