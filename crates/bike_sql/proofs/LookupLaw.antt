-- A look-up by key answers exactly the row with that key, or none.
use Rattle.std.proofs.Common.{◌≡◌, inl, inr, ℕ, List, [], ◌∷◌, map, filter, take, length, Bool, true, false, Some, None, Result, IfOk, OnErr, Equal, refl, sym, ap, subst, ◌∙◌}
use Rattle.std.specs.Ordering.{is_eq}
use Rattle.std.specs.Option.{option_to_list}
use Rattle.std.specs.List.{list_any}
use Rattle.std.specs.List.Sorted.{IsPermutation}
use Rattle.std.proofs.lemmas.List.Sorted.{length_permutation}
use Rattle.sqlite_value.specs.declared.value.Value.TheVariants.{Null}
use Rattle.sqlite_value.specs.Order.{Row, column, value_cmp, row_cmp}
use Rattle.sqlite_value.proofs.OrderLemmas.{row_cmp_total}
use Rattle.sqlite_trees.specs.Tree.{rowid}
use Rattle.sqlite_sql.specs.Ops.{is_null}
use Rattle.sqlite_sql.specs.Term.{Term, eval_all}
use Rattle.sqlite_sql.specs.Query.{Query, Output}
use Rattle.sqlite_rules.specs.Lists.{Has}
use Rattle.sqlite.specs.declared.error.Error.{Error}
use Rattle.sqlite.specs.Effect.{Database}
use Rattle.sqlite.specs.State.{State, QueriesRow, IsUnchanged}
use Rattle.sqlite.proofs.Callers.{one_permutation}
use Rattle.bike_sql.specs.Answer.{MeansQuery}
use Rattle.bike_sql.specs.Outcome.{IsLeft, if_any}
use Rattle.bike_sql.specs.Keyed.{in_order}
use Rattle.bike_sql.specs.Layout.{Layout, table_of}
use Rattle.bike_sql.specs.View.{columns_of, by_key, row_with}
use Rattle.bike_sql.specs.Stands.{rows_of, Stands}
use Rattle.bike_sql.specs.Queries.{table_query, key_tests, key_in}
use Rattle.bike_sql.proofs.OrderLemmas.{order_has, has_order}
use Rattle.bike_sql.proofs.RowListLemmas.{has_map, map_has, filter_has, find_only, find_none, no_list}
use Rattle.bike_sql.proofs.TreeLemmas.{by_key_total, one_row, shown_apart}
use Rattle.bike_sql.proofs.AnswerLemmas.{passes, out, Answered, answered}
use Rattle.bike_sql.proofs.ChangeLemmas.{one_passes}
use Rattle.bike_sql.proofs.TestLemmas.{tests_key, tie_of}
use Rattle.bike_sql.proofs.FrameLemmas.{rows_of_is}
use Rattle.bike_sql.proofs.WalkLaw.{one_answer, Finds, finds_first, of_option}

-- WHERE compares the key's columns, at `places`, with the first parameters, and the query shows each column.
module _ (keys : ℕ) (layout : Layout) (db : Database) (was : Stands db keys layout) (text : List ℕ) (params : Row) (places : List ℕ) (project : List Term) (names : List (List ℕ))
    (means : MeansQuery db.schema text (table_query was.tree (key_tests 0 places) [] project) names) (first : (r : Row) → take keys (columns_of (table_of layout was.tree) r) ≡ map (column r) places)
    (solid : list_any is_null (key_in 0 places params) ≡ false) (shows : (r : Row) → eval_all project (params ∷ r ∷ []) ≡ columns_of (table_of layout was.tree) r) where
  abbrev f : Row → Row
  f = columns_of (table_of layout was.tree)

  abbrev key : Row
  key = key_in 0 places params

  abbrev query : Query
  query = table_query was.tree (key_tests 0 places) [] project

  abbrev stored : List Row
  stored = db.trees was.tree

  abbrev all : List Row
  all = in_order (by_key keys) (map f stored)

  abbrev test : Row → Bool
  test = passes was.tree (key_tests 0 places) [] project db.trees params

  abbrev o : Row → Output
  o = out was.tree (key_tests 0 places) [] project db.trees params

  tested : (r : Row) → test r ≡ is_eq (row_cmp (take keys (f r)) key)
  tested r = tests_key 0 places params r solid ∙ ap (λ k. is_eq (row_cmp k key)) (sym (first r))

  same_id : (x y : Row) → Has stored x → Has stored y → test x ≡ true → test y ≡ true → value_cmp (rowid x) (rowid y) ≡ Equal
  same_id x y p q s t =
      let a : row_cmp (take keys (f x)) key ≡ Equal = tie_of _ (sym (tested x) ∙ s) in
      let b : row_cmp (take keys (f y)) key ≡ Equal = tie_of _ (sym (tested y) ∙ t) in
      was.keyed.apart x y p q (row_cmp_total.congr (take keys (f x)) key (take keys (f y)) a ∙ (rw b at (row_cmp_total.antisymm key (take keys (f y)))))

  -- the stored row that an element of the table's rows shows
  back : (y : Row) → Has all y → (r : Row) × Has stored r × (y ≡ f r)
  back y has = map_has f stored y (order_has (by_key_total keys) (map f stored) y has)

  abbrev Looked : List Row → Type 0
  Looked = Answered was.tree (key_tests 0 places) [] project db.trees params

  found : (rows : List Row) → Looked rows → rows ≡ option_to_list (row_with keys key all)
  found rows a = elim (one_passes test stored was.keyed.spread same_id) [ inl none ↦ nothing none | inr one ↦ something one.0 one.1 one.2 one.3 ]
    where
      nothing : filter test stored ≡ [] → rows ≡ option_to_list (row_with keys key all)
      nothing none =
          let outs : a.outs ≡ [] = no_list a.outs (length_permutation (map o (filter test stored)) a.outs a.same ∙ ap (λ xs. length (map o xs)) none) in
          let miss : row_with keys key all ≡ None = find_none (λ r. is_eq (row_cmp (take keys r) key)) all (λ y h. let r = back y h in rw r.2 (sym (tested r.0) ∙ fails r.0 r.1 (test r.0) refl)) in
          a.shown ∙ ap (map (λ (x : Output). x.1)) outs ∙ ap option_to_list (sym miss)
        where
          fails : (r : Row) → Has stored r → (b : Bool) → test r ≡ b → test r ≡ false
          fails r has true e = absurd (subst (λ xs. Has xs r) none (filter_has test stored r has e))
          fails r has false e = e

      something : (r : Row) → Has stored r → test r ≡ true → filter test stored ≡ r ∷ [] → rows ≡ option_to_list (row_with keys key all)
      something r has pass only =
          let outs : a.outs ≡ o r ∷ [] = one_permutation (o r) a.outs (subst (λ xs. IsPermutation (map o xs) a.outs) only a.same) in
          let hit : row_with keys key all ≡ Some (f r) = find_only (λ x. is_eq (row_cmp (take keys x) key)) all (f r) (has_order (by_key_total keys) (map f stored) (shown_apart keys (table_of layout was.tree) stored was.keyed) (f r) (has_map f stored r has)) (sym (tested r) ∙ pass)
          (λ y h t.
          let s = back y h in
          let passed : test s.0 ≡ true = tested s.0 ∙ subst (λ z. is_eq (row_cmp (take keys z) key) ≡ true) s.2 t in
          s.2 ∙ ap f (one_row stored was.keyed.spread s.0 r s.1 has (same_id s.0 r s.1 has passed pass))) in
          a.shown ∙ ap (map (λ (x : Output). x.1)) outs ∙ ap (λ row. row ∷ []) (shows r) ∙ ap option_to_list (sym hit)

  pub lookup_finds : Finds db text params (row_with keys key (rows_of keys layout.name db))
  lookup_finds = record {
    all = option_to_list (row_with keys key (rows_of keys layout.name db));
    one = one_answer db text params query names (option_to_list (row_with keys key (rows_of keys layout.name db))) means (λ rows answer.
        found rows (answered was.tree (key_tests 0 places) [] project db.trees params Null rows answer) ∙ ap (λ rs. option_to_list (row_with keys key rs)) (sym (rows_of_is db keys layout was)));
    first = of_option (row_with keys key (rows_of keys layout.name db));
  }

-- An answer is the row with the key, or that there is none, and changes nothing; a failure leaves all as it was or undoes the transaction.
pub looked_up : (keys : ℕ) (layout : Layout) (old new : State) (was : Stands old.now keys layout) (text : List ℕ) (params : Row) (places : List ℕ) (project : List Term) (names : List (List ℕ))
    → MeansQuery old.now.schema text (table_query was.tree (key_tests 0 places) [] project) names → ((r : Row) → take keys (columns_of (table_of layout was.tree) r) ≡ map (column r) places)
    → list_any is_null (key_in 0 places params) ≡ false → ((r : Row) → eval_all project (params ∷ r ∷ []) ≡ columns_of (table_of layout was.tree) r)
    → (r : Result Row Error) → QueriesRow text params old new r → IfOk (if_any r) (λ row. (row_with keys (key_in 0 places params) (rows_of keys layout.name old.now) ≡ row) × IsUnchanged old new)
    × OnErr (if_any r) (IsLeft old new)
looked_up keys layout old new was text params places project names means first solid shows =
    finds_first text params old new _ (lookup_finds keys layout old.now was text params places project names means first solid shows)
