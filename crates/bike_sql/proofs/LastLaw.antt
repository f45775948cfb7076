-- ORDER BY key DESC LIMIT 1 answers the row with the last key.
use Rattle.std.proofs.Common.{◌≡◌, inl, inr, ℕ, pos, List, [], ◌∷◌, length, map, filter, take, true, false, Less, Equal, refl, sym, ap, subst, ◌∙◌}
use Rattle.std.specs.Ordering.{is_lt}
use Rattle.std.specs.List.Sorted.{IsSorted}
use Rattle.std.proofs.lemmas.Cmp.{tied_itself}
use Rattle.std.proofs.lemmas.Bool.{true≢false}
use Rattle.std.proofs.lemmas.List.Sorted.{length_permutation}
use Rattle.std.proofs.lemmas.List.{length-map}
use Rattle.sqlite_value.specs.declared.value.Value.TheVariants.{Null, Int}
use Rattle.sqlite_value.specs.declared.keys.Key.{Key}
use Rattle.sqlite_value.specs.declared.keys.Collation.TheVariants.{Binary}
use Rattle.sqlite_value.specs.Order.{Row, row_cmp}
use Rattle.sqlite_trees.specs.Tree.{rowid, IsAscending}
use Rattle.sqlite_sql.specs.Term.{Term, lit, col, eval_all}
use Rattle.sqlite_sql.specs.Query.{Output, output_cmp}
use Rattle.sqlite_sql.proofs.QueryLemmas.{output_cmp_total}
use Rattle.sqlite_rules.specs.Lists.{Has}
use Rattle.sqlite.specs.Effect.{Database}
use Rattle.bike_sql.specs.Keyed.{in_order}
use Rattle.bike_sql.specs.Layout.{Layout, table_of}
use Rattle.bike_sql.specs.View.{columns_of, by_key, last_of}
use Rattle.bike_sql.specs.Stands.{rows_of, Stands}
use Rattle.bike_sql.specs.Queries.{last_query}
use Rattle.bike_sql.specs.Answer.{MeansQuery, HasOneAnswer}
use Rattle.bike_sql.proofs.OrderLemmas.{all_has, rises, order_has, has_order}
use Rattle.bike_sql.proofs.RowListLemmas.{has_map, map_has, filter_has, has_filter, permuted, no_list}
use Rattle.bike_sql.proofs.TreeLemmas.{by_key_total, shown_apart}
use Rattle.bike_sql.proofs.AnswerLemmas.{out, Answered, answered_page, out_from}
use Rattle.bike_sql.proofs.FrameLemmas.{rows_of_is}
use Rattle.bike_sql.proofs.SortLemmas.{ascends}
use Rattle.bike_sql.proofs.WalkLaw.{one_answer}

-- the last of rows that rise is the one that is below none
last_is : (keys : ℕ) (rows : List Row) (row : Row) → IsAscending (λ a b. by_key keys a b ≡ Less) rows → Has rows row → ((y : Row) → Has rows y → by_key keys row y ≡ Less → ⊥) → last_of rows ≡ row ∷ []
last_is keys [] row up has below = elim has [ ]
last_is keys (x ∷ []) row up (inl is) below = ap (λ r. r ∷ []) (sym is)
last_is keys (x ∷ []) row up (inr none) below = elim none [ ]
last_is keys (x ∷ y ∷ rows) row up (inl is) below = absurd (below y (inr (inl refl)) (subst (λ r. by_key keys r y ≡ Less) (sym is) up.0.0))
last_is keys (x ∷ y ∷ rows) row up (inr later) below = last_is keys (y ∷ rows) row up.1 later (λ z h. below z (inr h))

-- The key is an INTEGER PRIMARY KEY, and the query shows each column.
module _ (layout : Layout) (db : Database) (was : Stands db 1 layout) (text : List ℕ) (params : Row) (project : List Term) (names : List (List ℕ))
    (means : MeansQuery db.schema text (last_query was.tree project) names)
    (first : (r : Row) → take 1 (columns_of (table_of layout was.tree) r) ≡ rowid r ∷ []) (shows : (r : Row) → eval_all project (params ∷ r ∷ []) ≡ columns_of (table_of layout was.tree) r) where
  abbrev f : Row → Row
  f = columns_of (table_of layout was.tree)

  abbrev stored : List Row
  stored = db.trees was.tree

  abbrev down : List (Term × Key)
  down = (col 1 0, record { collation = Binary; descending = true }) ∷ []

  abbrev o : Row → Output
  o = out was.tree [] down project db.trees params

  abbrev all : List Row
  all = in_order (by_key 1) (map f stored)

  all_pass : (rows : List Row) → filter (λ (r : Row). true) rows ≡ rows
  all_pass [] = refl
  all_pass (r ∷ rows) = ap (λ rs. r ∷ rs) (all_pass rows)

  cut : (outs : List Output) (rows : List Row) → (a : Answered was.tree [] down project db.trees params rows) → a.outs ≡ outs → take 1 (map (λ (x : Output). x.1) outs) ≡ last_of all
  cut [] rows a is =
      let none : stored ≡ [] = sym (all_pass stored) ∙ no_list (filter (λ r. true) stored) (sym (length-map (filter (λ r. true) stored) o) ∙ sym (length_permutation (map o (filter (λ r. true) stored)) a.outs a.same) ∙ ap length is) in
      sym (ap (λ rs. last_of (in_order (by_key 1) (map f rs))) none)
  cut (x ∷ outs) rows a is =
      let from = out_from was.tree [] down project db.trees params rows a x (subst (λ xs. Has xs x) (sym is) (inl refl)) in
      let r = from.0 in
      let there = (has_filter (λ y. true) stored r from.1).0 in
      let shown : x.1 ≡ f r = ap (λ (y : Output). y.1) from.2 ∙ shows r in
      let sorted = ascends (output_cmp_total (last_query was.tree project)) (x ∷ outs) (subst (IsSorted (output_cmp (last_query was.tree project))) is a.sorted) in
      sym (last_is 1 all x.1 (rises (by_key_total 1) (map f stored)) (rw shown
      (has_order (by_key_total 1) (map f stored) (shown_apart 1 (table_of layout was.tree) stored was.keyed) (f r) (has_map f stored r there)))
      (λ y has low.
      let s = map_has f stored y (order_has (by_key_total 1) (map f stored) y has) in
      let out_s : Has (x ∷ outs) (o s.0) = subst (λ xs. Has xs (o s.0)) is (permuted (map o (filter (λ z. true) stored)) a.outs (o s.0) a.same (has_map o (filter (λ z. true) stored) s.0 (filter_has (λ z. true) stored s.0 s.1 refl))) in
      elim out_s [
        | inl same ↦ (
            let one : y ≡ x.1 = s.2 ∙ sym (shows s.0) ∙ ap (λ (z : Output). z.1) same in
            let tie : by_key 1 x.1 x.1 ≡ Equal = tied_itself (by_key_total 1) x.1 in
            let less : by_key 1 x.1 x.1 ≡ Less = subst (λ z. by_key 1 x.1 z ≡ Less) one low in
            absurd (let e : Less ≡ Equal = sym less ∙ tie in cc)
            )
        | inr later ↦ (
            let not_below : is_lt (output_cmp (last_query was.tree project) (o s.0) x) ≡ false = all_has (λ z. is_lt (output_cmp (last_query was.tree project) z x) ≡ false) outs (o s.0) sorted.0 later in
            let compared : is_lt (output_cmp (last_query was.tree project) (o s.0) (o r)) ≡ false = subst (λ z. is_lt (output_cmp (last_query was.tree project) (o s.0) z) ≡ false) from.2 not_below in
            let less : row_cmp (rowid r ∷ []) (rowid s.0 ∷ []) ≡ Less = subst₂' r s.0 (rw (← shown, ← s.2) low) in
            absurd (true≢false (rw less at compared))
            )
      ]))
    where
      subst₂' : (a b : Row) → by_key 1 (f a) (f b) ≡ Less → row_cmp (rowid a ∷ []) (rowid b ∷ []) ≡ Less
      subst₂' a b h = rw (first a, first b) at h

  pub last_answer : HasOneAnswer db text params (last_of (rows_of 1 layout.name db))
  last_answer = one_answer db text params (last_query was.tree project) names (last_of (rows_of 1 layout.name db)) means (λ rows answer.
      let it = answered_page was.tree [] down project db.trees params (lit (Int (pos 1))) Null rows answer in
      it.2 ∙ ap (take 1) it.1.shown ∙ cut it.1.outs it.0 it.1 refl ∙ ap last_of (sym (rows_of_is db 1 layout was)))
