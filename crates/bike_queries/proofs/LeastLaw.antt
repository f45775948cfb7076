-- SELECT a column FROM a table WHERE tests ORDER BY that column LIMIT 1 answers the least of its values that pass, though the column be no key: rows that share a value show it alike.
use Rattle.std.proofs.Common.{◌≡◌, inl, inr, ℕ, List, [], ◌∷◌, map, filter, take, Bool, true, false, Less, Equal, Ordering, refl, sym, ap, ap₂, subst, ◌∙◌}
use Rattle.std.specs.List.{list_all}
use Rattle.std.specs.List.Sorted.{IsSorted}
use Rattle.std.specs.Ordering.{is_lt}
use Rattle.std.proofs.lemmas.Bool.{true≢false}
use Rattle.sqlite_value.specs.declared.value.Value.{Value}
use Rattle.sqlite_value.specs.declared.value.Value.TheVariants.{Null}
use Rattle.sqlite_value.specs.declared.keys.Key.{Key}
use Rattle.sqlite_value.specs.Order.{Row, column, value_cmp, row_cmp}
use Rattle.sqlite_value.proofs.OrderLemmas.{row_cmp_total, then-Equal}
use Rattle.sqlite_sql.specs.Query.{Output, output_cmp}
use Rattle.sqlite_sql.specs.Term.{Term, col, holds}
use Rattle.sqlite_sql.proofs.QueryLemmas.{output_cmp_total}
use Rattle.sqlite_rules.specs.Lists.{Has}
use Rattle.sqlite.specs.Effect.{Database}
use Rattle.bike_sql.specs.Answer.{MeansQuery, HasOneAnswer}
use Rattle.bike_sql.specs.Keyed.{in_order}
use Rattle.bike_sql.specs.Layout.{Layout, table_of}
use Rattle.bike_sql.specs.Queries.{table_query, limit_query, only_one, by_columns}
use Rattle.bike_sql.specs.Stands.{rows_of, Stands}
use Rattle.bike_sql.specs.View.{columns_of}
use Rattle.bike_sql.proofs.AnswerLemmas.{out, passes, Answered, answered_page, out_from}
use Rattle.bike_sql.proofs.FrameLemmas.{rows_of_is}
use Rattle.bike_sql.proofs.KeyOrderLemmas.{compares}
use Rattle.bike_sql.proofs.RowListLemmas.{has_map, map_has, has_filter, filter_has, permuted}
use Rattle.bike_sql.proofs.OrderLemmas.{AreApart, Rises, all_has, rises, order_has, has_order}
use Rattle.bike_sql.proofs.SortLemmas.{ascends}
use Rattle.bike_sql.proofs.TreeLemmas.{by_key_total, shown_apart}
use Rattle.bike_sql.proofs.WalkLaw.{one_answer}

-- The tests decide by the column alone, and no two values that pass tie and differ.
module _ (keys : ℕ) (layout : Layout) (db : Database) (was : Stands db keys layout) (text : List ℕ) (params : Row) (place : ℕ) (tests : List Term) (names : List (List ℕ))
    (means : MeansQuery db.schema text (limit_query only_one (table_query was.tree tests (by_columns (place ∷ [])) (col 1 place ∷ []))) names)
    (at : ℕ) (shown : (r : Row) → column (columns_of (table_of layout was.tree) r) at ≡ column r place)
    (test : Value → Bool) (decides : (r : Row) → list_all (holds (params ∷ r ∷ [])) tests ≡ test (column r place))
    (same : (v w : Value) → test v ≡ true → test w ≡ true → value_cmp v w ≡ Equal → v ≡ w) where
  abbrev f : Row → Row
  f = columns_of (table_of layout was.tree)

  abbrev show : Row → Row
  show row = column row at ∷ []

  abbrev passing : Row → Bool
  passing row = test (column row 0)

  abbrev stored : List Row
  stored = db.trees was.tree

  abbrev order : List (Term × Key)
  order = by_columns (place ∷ [])

  abbrev project : List Term
  project = col 1 place ∷ []

  abbrev passed : Row → Bool
  passed = passes was.tree tests order project db.trees params

  abbrev o : Row → Output
  o = out was.tree tests order project db.trees params

  abbrev cmp : Output → Output → Ordering
  cmp = output_cmp (table_query was.tree tests order project)

  abbrev rows : List Row
  rows = rows_of keys layout.name db

  -- the values that pass, as rows of one column
  abbrev values : List Row
  values = filter passing (map show rows)

  -- ---- each value is what the query shows of a stored row that passes

  value_of : (v : Row) → Has values v → (r : Row) × Has (filter passed stored) r × (v ≡ (o r).1)
  value_of v has =
      let x = has_filter passing (map show rows) v has in
      let y = map_has show rows v x.0 in
      let z = map_has f stored y.0 (order_has (by_key_total keys) (map f stored) y.0 (subst (λ l. Has l y.0) (rows_of_is db keys layout was) y.1)) in
      let is : v ≡ (o z.0).1 = y.2 ∙ ap show z.2 ∙ ap (λ u. u ∷ []) (shown z.0) in
      (z.0, filter_has passed stored z.0 z.1 (decides z.0 ∙ ap passing (sym is) ∙ x.1), is)

  has_value : (r : Row) → Has (filter passed stored) r → Has values (o r).1
  has_value r has =
      let it = has_filter passed stored r has in
      let there : Has rows (f r) = subst (λ l. Has l (f r)) (sym (rows_of_is db keys layout was)) (has_order (by_key_total keys) (map f stored) (shown_apart keys (table_of layout was.tree) stored was.keyed) (f r) (has_map f stored r it.0)) in
      filter_has passing (map show rows) (o r).1 (subst (Has (map show rows)) (ap (λ u. u ∷ []) (shown r)) (has_map show rows (f r) there)) (sym (decides r) ∙ it.1)

  apart : AreApart row_cmp_total values
  apart a b p q tie =
      let x = has_filter passing (map show rows) a p in
      let y = has_filter passing (map show rows) b q in
      let v = map_has show rows a x.0 in
      let w = map_has show rows b y.0 in
      let t : row_cmp (show v.0) (show w.0) ≡ Equal = sym (ap₂ row_cmp v.2 w.2) ∙ tie in
      v.2 ∙ ap (λ u. u ∷ []) (same (column v.0 at) (column w.0 at) (ap passing (sym v.2) ∙ x.1) (ap passing (sym w.2) ∙ y.1) (sym (then-Equal _) ∙ t)) ∙ sym w.2

  -- ---- the query shows the least first

  module _ (all : List Row) (a : Answered was.tree tests order project db.trees params all) where
    here : (outs : List Output) → a.outs ≡ outs → (r : Row) → Has (filter passed stored) r → Has outs (o r)
    here outs is r has = subst (λ xs. Has xs (o r)) is (permuted (map o (filter passed stored)) a.outs (o r) a.same (has_map o (filter passed stored) r has))

    no_value : a.outs ≡ [] → (vs : List Row) → values ≡ vs → [] ≡ take 1 (in_order row_cmp vs)
    no_value is [] are = refl
    no_value is (v ∷ vs) are = let it = value_of v (subst (λ l. Has l v) (sym are) (inl refl)) in elim (here [] is it.0 it.1) [ ]

    first_value : (x : Output) (outs : List Output) → a.outs ≡ x ∷ outs → x.1 ∷ [] ≡ take 1 (in_order row_cmp values)
    first_value x outs is = by (in_order row_cmp values) refl (has_order row_cmp_total values apart x.1 (rw from.2 (has_value from.0 from.1)))
      where
        from : (r : Row) × Has (filter passed stored) r × (x ≡ o r)
        from = out_from was.tree tests order project db.trees params all a x (subst (λ xs. Has xs x) (sym is) (inl refl))

        -- no other value is below it
        not_below : (r : Row) → Has outs (o r) → row_cmp (o r).1 x.1 ≡ Less → ⊥
        not_below r behind low =
            let above : is_lt (cmp (o r) x) ≡ false = all_has (λ z. is_lt (cmp z x) ≡ false) outs (o r) (ascends (output_cmp_total (table_query was.tree tests order project)) (x ∷ outs) (subst (IsSorted cmp) is a.sorted)).0 behind in
            let below : row_cmp (o r).1 (o from.0).1 ≡ Less = ap (λ (z : Output). row_cmp (o r).1 z.1) (sym from.2) ∙ low in
            true≢false (sym (ap is_lt (ap (cmp (o r)) from.2 ∙ compares (place ∷ []) params r from.0 [] [] ∙ below)) ∙ above)

        by : (vs : List Row) → in_order row_cmp values ≡ vs → Has vs x.1 → x.1 ∷ [] ≡ take 1 vs
        by [] are there = elim there [ ]
        by (v ∷ vs) are (inl first) = ap (λ y. y ∷ []) first
        by (v ∷ vs) are (inr later) =
            let low : row_cmp v x.1 ≡ Less = all_has (λ y. row_cmp v y ≡ Less) vs x.1 (subst (Rises row_cmp_total) are (rises row_cmp_total values)).0 later in
            let it = value_of v (order_has row_cmp_total values v (subst (λ l. Has l v) (sym are) (inl refl))) in
            elim (here (x ∷ outs) is it.0 it.1) [
              | inl same ↦ ap (λ y. y ∷ []) (sym (it.2 ∙ ap (λ (y : Output). y.1) same))
              | inr behind ↦ absurd (not_below it.0 behind (ap (λ y. row_cmp y x.1) (sym it.2) ∙ low))
            ]

    first_shown : (outs : List Output) → a.outs ≡ outs → take 1 (map (λ (x : Output). x.1) outs) ≡ take 1 (in_order row_cmp values)
    first_shown [] is = no_value is values refl
    first_shown (x ∷ outs) is = first_value x outs is

  pub least_answer : HasOneAnswer db text params (take 1 (in_order row_cmp values))
  least_answer = one_answer db text params (limit_query only_one (table_query was.tree tests order project)) names (take 1 (in_order row_cmp values)) means (λ all answer.
      let it = answered_page was.tree tests order project db.trees params only_one Null all answer in
      it.2 ∙ ap (take 1) it.1.shown ∙ first_shown it.0 it.1 it.1.outs refl)
