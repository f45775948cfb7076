-- A LEFT JOIN with a table's key answers each row with its partner, in the order of the first table's keys.
use Rattle.std.proofs.Common.{◌≡◌, ◌⊎◌, inl, inr, ℕ, List, [], ◌∷◌, ◌++◌, map, filter, flat_map, take, length, Bool, true, false, ◌&&◌, Option, Some, None, if◌then◌else◌, Equal, refl, sym, ap, ap₂}
use Rattle.std.proofs.Common.{subst, ◌∙◌, arith}
use Rattle.std.specs.List.{list_any, list_all}
use Rattle.std.specs.Ordering.{is_eq}
use Rattle.std.specs.List.Sorted.{IsPermutation}
use Rattle.std.proofs.lemmas.Bool.{true≢false, or_parts, cases_Bool}
use Rattle.sqlite_value.specs.declared.value.Value.{Value}
use Rattle.sqlite_value.specs.declared.value.Value.TheVariants.{Null, Int, Real, Text, Blob}
use Rattle.sqlite_value.specs.declared.keys.Collation.TheVariants.{Binary}
use Rattle.sqlite_value.specs.Order.{Row, column, value_cmp, row_cmp}
use Rattle.sqlite_value.proofs.OrderLemmas.{row_cmp_total}
use Rattle.sqlite_trees.specs.Tree.{rowid}
use Rattle.sqlite_sql.specs.Ops.{binary, is_true, is_null}
use Rattle.sqlite_sql.specs.Term.{Term, eval_all, holds}
use Rattle.sqlite_sql.specs.Query.{Query, or_nulls, matches_as, IsAnswerAs, output, output_cmp, Output}
use Rattle.sqlite_sql.specs.Program.{overlay}
use Rattle.sqlite_sql.specs.declared.ops.BinaryOp.TheVariants.{Compare}
use Rattle.sqlite_sql.specs.declared.ops.CompareOp.TheVariants.{Eq}
use Rattle.sqlite_sql.proofs.QueryLemmas.{output_cmp_total}
use Rattle.sqlite_rules.specs.Lists.{Has}
use Rattle.sqlite.specs.Effect.{Database}
use Rattle.bike_sql.specs.Keyed.{in_order}
use Rattle.bike_sql.specs.Layout.{Layout, table_of}
use Rattle.bike_sql.specs.View.{columns_of, by_key, row_with, partner, left_joined}
use Rattle.bike_sql.specs.Stands.{rows_of, Stands}
use Rattle.bike_sql.specs.Queries.{by_columns, join_tests, left_query}
use Rattle.bike_sql.specs.Answer.{MeansQuery, HasOneAnswer}
use Rattle.bike_sql.proofs.OrderLemmas.{order_has, has_order}
use Rattle.bike_sql.proofs.RowListLemmas.{has_map, map_has, map_map, map_same, filter_has, filter_none, find_only, find_none}
use Rattle.bike_sql.proofs.TreeLemmas.{by_key_total, one_row, shown_apart}
use Rattle.bike_sql.proofs.TestLemmas.{eq_test, then_eq, tie_of}
use Rattle.bike_sql.proofs.SortLemmas.{sorted_is, order_map, apart_map}
use Rattle.bike_sql.proofs.AnswerLemmas.{no_overlay}
use Rattle.bike_sql.proofs.KeyOrderLemmas.{compares, keyed_apart}
use Rattle.bike_sql.proofs.ChangeLemmas.{one_passes}
use Rattle.bike_sql.proofs.FrameLemmas.{rows_of_is}
use Rattle.bike_sql.proofs.WalkLaw.{one_answer}

-- ---- ON

-- nothing equals NULL
null_test : (v k : Value) → is_null k ≡ true → is_true (binary (Compare Eq Binary) v k) ≡ false
unfolding binary
null_test Null k h = refl
null_test (Int n) k h = rw h refl
null_test (Real x) k h = rw h refl
null_test (Text t) k h = rw h refl
null_test (Blob b) k h = rw h refl

pub on_null : (places columns : List ℕ) (params r s : Row) → length places ≡ length columns → list_any is_null (map (column r) columns) ≡ true
    → list_all (holds (params ∷ r ∷ s ∷ [])) (join_tests places columns) ≡ false
on_null [] [] params r s same null = absurd (true≢false (sym null))
on_null [] (c ∷ cs) params r s same null = absurd (omega (arith, same))
on_null (p ∷ ps) [] params r s same null = absurd (omega (arith, same))
on_null (p ∷ ps) (c ∷ cs) params r s same null = by (is_null (column r c)) refl (λ rest. on_null ps cs params r s (omega (arith, same)) rest)
  where
    and_false : (b : Bool) → (b && false) ≡ false
    and_false true = refl
    and_false false = refl

    by : (b : Bool) → is_null (column r c) ≡ b → (list_any is_null (map (column r) cs) ≡ true → list_all (holds (params ∷ r ∷ s ∷ [])) (join_tests ps cs) ≡ false)
        → list_all (holds (params ∷ r ∷ s ∷ [])) (join_tests (p ∷ ps) (c ∷ cs)) ≡ false
    by true e later = let none = null_test (column s p) (column r c) e in rw none refl
    by false e later = let rest = later (rw e at null) in rw rest (and_false (is_true (binary (Compare Eq Binary) (column s p) (column r c))))

pub on_solid : (places columns : List ℕ) (params r s : Row) → length places ≡ length columns → list_any is_null (map (column r) columns) ≡ false
    → list_all (holds (params ∷ r ∷ s ∷ [])) (join_tests places columns) ≡ is_eq (row_cmp (map (column s) places) (map (column r) columns))
on_solid [] [] params r s same solid = refl
on_solid [] (c ∷ cs) params r s same solid = absurd (omega (arith, same))
on_solid (p ∷ ps) [] params r s same solid = absurd (omega (arith, same))
on_solid (p ∷ ps) (c ∷ cs) params r s same solid =
    let both = or_parts (is_null (column r c)) (list_any is_null (map (column r) cs)) solid in
    ap₂ ◌&&◌ (eq_test (column s p) (column r c) both.0) (on_solid ps cs params r s (omega (arith, same)) both.1)
    ∙ sym (then_eq (value_cmp (column s p) (column r c)) (row_cmp (map (column s) ps) (map (column r) cs)))

-- the first row, or a row with no column
abbrev pub first_of : List Row → Row
first_of [] = []
first_of (s ∷ ss) = s

pub each_one : {A B : Type 0} (f : A → List B) (g : A → B) → ((x : A) → f x ≡ g x ∷ []) → (xs : List A) → flat_map f xs ≡ map g xs
each_one f g one [] = refl
each_one f g one (x ∷ xs) = let e = one x in let rest = each_one f g one xs in ap₂ ◌++◌ e rest

-- The first table is sorted by its key, at `places`; the second is joined by its key, at `other_places`, to the first one's columns at `joined`, which show at `columns`.
module _ (keys : ℕ) (layout : Layout) (more : ℕ) (other : Layout) (db : Database) (was : Stands db keys layout) (with_ : Stands db more other) (text : List ℕ) (params : Row)
    (places other_places joined columns : List ℕ) (project : List Term) (names : List (List ℕ))
    (means : MeansQuery db.schema text (left_query was.tree with_.tree (join_tests other_places joined) (by_columns places) project) names)
    (first : (r : Row) → take keys (columns_of (table_of layout was.tree) r) ≡ map (column r) places)
    (second : (r : Row) → take more (columns_of (table_of other with_.tree) r) ≡ map (column r) other_places)
    (as_many : length other_places ≡ length joined) (same : (r : Row) → map (column (columns_of (table_of layout was.tree) r)) columns ≡ map (column r) joined)
    (show : Row → Option Row → Row) (shows_none : (r : Row) → eval_all project (params ∷ r ∷ [] ∷ []) ≡ show (columns_of (table_of layout was.tree) r) None)
    (shows_some : (r s : Row) → eval_all project (params ∷ r ∷ s ∷ []) ≡ show (columns_of (table_of layout was.tree) r) (Some (columns_of (table_of other with_.tree) s))) where
  abbrev f : Row → Row
  f = columns_of (table_of layout was.tree)

  abbrev h : Row → Row
  h = columns_of (table_of other with_.tree)

  abbrev stored : List Row
  stored = db.trees was.tree

  abbrev others : List Row
  others = db.trees with_.tree

  abbrev on : Row → Row → Bool
  on r s = list_all (holds (params ∷ r ∷ s ∷ [])) (join_tests other_places joined)

  abbrev query : Query
  query = left_query was.tree with_.tree (join_tests other_places joined) (by_columns places) project

  -- the one row that is joined to a row
  abbrev match : Row → Row
  match r = first_of (filter (on r) others)

  abbrev o : Row → Output
  o r = output query (params ∷ r ∷ match r ∷ [])

  -- the row as it shows, with its partner
  abbrev g : Row → Row
  g row = show row (partner more (map (column row) columns) (rows_of more other.name db))

  solid_or : (r : Row) → (list_any is_null (map (column r) joined) ≡ true) ⊎ (list_any is_null (map (column r) joined) ≡ false)
  solid_or r = cases_Bool (list_any is_null (map (column r) joined))

  key_is : (r s : Row) → list_any is_null (map (column r) joined) ≡ false → on r s ≡ is_eq (row_cmp (take more (h s)) (map (column (f r)) columns))
  key_is r s solid = on_solid other_places joined params r s as_many solid ∙ ap₂ (λ a b. is_eq (row_cmp a b)) (sym (second s)) (sym (same r))

  one_id : (r x y : Row) → Has others x → Has others y → on r x ≡ true → on r y ≡ true → value_cmp (rowid x) (rowid y) ≡ Equal
  one_id r x y p q s t = elim (solid_or r) [
    | inl null ↦ absurd (true≢false (sym s ∙ on_null other_places joined params r x as_many null))
    | inr solid ↦ (
        let key = map (column (f r)) columns in
        let a : row_cmp (take more (h x)) key ≡ Equal = tie_of _ (sym (key_is r x solid) ∙ s) in
        let b : row_cmp (take more (h y)) key ≡ Equal = tie_of _ (sym (key_is r y solid) ∙ t) in
        with_.keyed.apart x y p q (row_cmp_total.congr (take more (h x)) key (take more (h y)) a ∙ (rw b at (row_cmp_total.antisymm key (take more (h y)))))
        )
  ]

  one_match : (r : Row) → (filter (on r) others ≡ []) ⊎ ((s : Row) × Has others s × (on r s ≡ true) × (filter (on r) others ≡ s ∷ []))
  one_match r = one_passes (on r) others with_.keyed.spread (one_id r)

  joins : (r : Row) → flat_map (λ s. (params ∷ r ∷ s ∷ []) ∷ []) (or_nulls (filter (on r) others)) ≡ (params ∷ r ∷ match r ∷ []) ∷ []
  joins r = elim (one_match r) [ inl none ↦ rw none refl | inr one ↦ let e = one.3 in rw e refl ]

  shows_joined : (r : Row) → eval_all project (params ∷ r ∷ match r ∷ []) ≡ g (f r)
  shows_joined r = elim (solid_or r) [
    | inl null ↦ (
        let none : filter (on r) others ≡ [] = filter_none (on r) others (λ s has. on_null other_places joined params r s as_many null) in
        let is_null_key : list_any is_null (map (column (f r)) columns) ≡ true = ap (list_any is_null) (same r) ∙ null in
        ap (λ ss. eval_all project (params ∷ r ∷ first_of ss ∷ [])) none ∙ shows_none r
        ∙ ap (λ b. show (f r) (if b then None else row_with more (map (column (f r)) columns) (rows_of more other.name db))) (sym is_null_key)
        )
    | inr solid ↦ (
        let key = map (column (f r)) columns in
        let is_solid : list_any is_null key ≡ false = ap (list_any is_null) (same r) ∙ solid in
        let all = in_order (by_key more) (map h others) in
        let rest = ap (row_with more key) (sym (rows_of_is db more other with_)) in
        let found : (p : Option Row) → row_with more key all ≡ p → show (f r) p ≡ g (f r) = λ p e. ap (show (f r)) (sym e ∙ rest) ∙ ap (λ b. show (f r) (if b then None else row_with more key (rows_of more other.name db))) (sym is_solid) in
        elim (one_match r) [
          | inl none ↦ ap (λ ss. eval_all project (params ∷ r ∷ first_of ss ∷ [])) none ∙ shows_none r
              ∙ found None (find_none (λ y. is_eq (row_cmp (take more y) key)) all (λ y has.
              let s = map_has h others y (order_has (by_key_total more) (map h others) y has) in
              rw s.2 (sym (key_is r s.0 solid) ∙ fails r s.0 (on r s.0) refl none s.1)))
          | inr one ↦ (
              let s = one.0 in
              let apart = shown_apart more (table_of other with_.tree) others with_.keyed in
              ap (λ ss. eval_all project (params ∷ r ∷ first_of ss ∷ [])) one.3 ∙ shows_some r s
              ∙ found (Some (h s)) (find_only (λ y. is_eq (row_cmp (take more y) key)) all (h s) (has_order (by_key_total more) (map h others) apart (h s) (has_map h others s one.1))
              (sym (key_is r s solid) ∙ one.2)
              (λ y has t.
              let x = map_has h others y (order_has (by_key_total more) (map h others) y has) in
              let passed : on r x.0 ≡ true = key_is r x.0 solid ∙ subst (λ z. is_eq (row_cmp (take more z) key) ≡ true) x.2 t in
              x.2 ∙ ap h (one_row others with_.keyed.spread x.0 s x.1 one.1 (one_id r x.0 s x.1 one.1 passed one.2))))
              )
        ]
        )
  ]
    where
      fails : (q s : Row) (b : Bool) → on q s ≡ b → filter (on q) others ≡ [] → Has others s → on q s ≡ false
      fails q s true e none has = absurd (subst (λ xs. Has xs s) none (filter_has (on q) others s has e))
      fails q s false e none has = e

  unlaid : overlay db.trees [] ≡ db.trees
  unlaid = λ i tree. no_overlay db.trees tree i

  pub left_join_answer : HasOneAnswer db text params (left_joined show columns more (rows_of more other.name db) (rows_of keys layout.name db))
  left_join_answer = one_answer db text params query names (left_joined show columns more (rows_of more other.name db) (rows_of keys layout.name db)) means (λ rows answer.
      let a : IsAnswerAs Null query db.trees params rows = subst (λ trees. IsAnswerAs Null query trees params rows) unlaid answer in
      let matched : matches_as Null db.trees [] query.from (params ∷ []) ≡ map (λ r. params ∷ r ∷ match r ∷ []) stored =
      each_one (λ r. flat_map (λ s. (params ∷ r ∷ s ∷ []) ∷ []) (or_nulls (filter (on r) others))) (λ r. params ∷ r ∷ match r ∷ []) joins stored in
      let same_rows = subst (λ k. IsPermutation k a.ordered) (a.distinct ∙ ap (map (output query)) (a.grouped ∙ matched) ∙ map_map (λ r. params ∷ r ∷ match r ∷ []) (output query) stored) a.same in
      let by = λ (x y : Row). by_key keys (f x) (f y) in
      let same_order = λ (x y : Row). compares places params x y (match x ∷ []) (match y ∷ []) ∙ sym (ap₂ row_cmp (first x) (first y)) in
      let apart = apart_map (by_key keys) (output_cmp query) f o same_order stored (keyed_apart keys (table_of layout was.tree) stored was.keyed) in
      let outs : a.ordered ≡ in_order (output_cmp query) (map o stored) = sorted_is (output_cmp_total query) (map o stored) a.ordered same_rows a.sorted apart in
      a.shown ∙ ap (map (λ (x : Output). x.1)) (outs ∙ order_map by (output_cmp query) o same_order stored)
      ∙ map_map o (λ (x : Output). x.1) (in_order by stored)
      ∙ map_same (λ r. eval_all project (params ∷ r ∷ match r ∷ [])) (λ r. g (f r)) shows_joined (in_order by stored)
      ∙ sym (map_map f g (in_order by stored))
      ∙ ap (map g) (sym (order_map by (by_key keys) f (λ x y. refl) stored) ∙ sym (rows_of_is db keys layout was)))
