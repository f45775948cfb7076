-- A query that is sorted by the key answers the table's rows that pass its WHERE, in the order of their keys.
use Rattle.std.proofs.Common.{◌≡◌, inl, inr, ℕ, ℤ, List, [], ◌∷◌, map, filter, take, not, ◌&&◌, Bool, true, false, cond, Ordering, Less, Equal, Greater, refl, sym, ap, ap₂, subst, ◌∙◌}
use Rattle.std.specs.Cmp.{IsTotalOrder}
use Rattle.std.specs.Ordering.{is_eq, is_lt, is_ge}
use Rattle.std.specs.List.{AllByRecursion, list_any}
use Rattle.sqlite_value.specs.declared.value.Value.{Value}
use Rattle.sqlite_value.specs.declared.value.Value.TheVariants.{Null, Int}
use Rattle.sqlite_value.specs.declared.keys.Collation.TheVariants.{Binary}
use Rattle.sqlite_value.specs.Order.{Row, column, value_cmp, row_cmp}
use Rattle.sqlite_trees.specs.Tree.{rowid, IsAscending}
use Rattle.sqlite_trees.proofs.ListLemmas.{filter-map}
use Rattle.sqlite_sql.specs.Ops.{binary, is_true, is_null}
use Rattle.sqlite_sql.specs.Term.{Term, col, op2, eval_all}
use Rattle.sqlite_sql.specs.declared.ops.BinaryOp.TheVariants.{Compare}
use Rattle.sqlite_sql.specs.declared.ops.CompareOp.TheVariants.{Ge, Lt}
use Rattle.sqlite_rules.specs.Lists.{Has}
use Rattle.sqlite.specs.Effect.{Database}
use Rattle.bike_sql.specs.Keyed.{in_order}
use Rattle.bike_sql.specs.Layout.{Layout, table_of}
use Rattle.bike_sql.specs.View.{columns_of, by_key, rows_where, rows_between}
use Rattle.bike_sql.specs.Stands.{rows_of, Stands}
use Rattle.bike_sql.specs.Queries.{table_query, key_tests, key_in, by_columns}
use Rattle.bike_sql.specs.Answer.{MeansQuery, HasOneAnswer}
use Rattle.bike_sql.proofs.OrderLemmas.{AreApart, rises, order_is, order_has, has_order}
use Rattle.bike_sql.proofs.RowListLemmas.{has_filter, filter_has, filter_all}
use Rattle.bike_sql.proofs.TreeLemmas.{by_key_total, shown_apart}
use Rattle.bike_sql.proofs.AnswerLemmas.{passes, answered}
use Rattle.bike_sql.proofs.KeyLemmas.{int_whole}
use Rattle.bike_sql.proofs.KeyOrderLemmas.{in_key_order}
use Rattle.bike_sql.proofs.TestLemmas.{tests_key, truth_of}
use Rattle.bike_sql.proofs.FrameLemmas.{rows_of_is}
use Rattle.bike_sql.proofs.WalkLaw.{one_answer}

rises_filter : {X : Type 0} (R : X → X → Type 0) (p : X → Bool) (xs : List X) → IsAscending R xs → IsAscending R (filter p xs)
rises_filter R p [] h = tt
rises_filter {X} R p (x ∷ xs) h =
    elim (p x) as (λ b. IsAscending R (cond b (x ∷ filter p xs) (filter p xs))) [ true ↦ (each xs h.0, rises_filter R p xs h.1) | false ↦ rises_filter R p xs h.1 ]
  where
    each : (ys : List X) → AllByRecursion (R x) ys → AllByRecursion (R x) (filter p ys)
    each [] all = tt
    each (y ∷ ys) all = elim (p y) as (λ b. AllByRecursion (R x) (cond b (y ∷ filter p ys) (filter p ys))) [ true ↦ (all.0, each ys all.1) | false ↦ each ys all.1 ]

pub order_filter : {X : Type 0} {R : X → X → Ordering} (o : IsTotalOrder R) (p : X → Bool) (xs : List X) → AreApart o xs → in_order R (filter p xs) ≡ filter p (in_order R xs)
order_filter {R = R} o p xs apart =
    order_is o (filter p xs) (filter p (in_order R xs)) (λ a b g h tie. apart a b (has_filter p xs a g).0 (has_filter p xs b h).0 tie)
    (rises_filter (λ a b. R a b ≡ Less) p (in_order R xs) (rises o xs))
    (λ x h. let it = has_filter p xs x h in filter_has p (in_order R xs) x (has_order o xs apart x it.0) it.1)
    (λ x h. let it = has_filter p (in_order R xs) x h in filter_has p xs x (order_has o xs x it.0) it.1)

pub filter_has_same : {X : Type 0} (p q : X → Bool) (xs : List X) → ((x : X) → Has xs x → p x ≡ q x) → filter p xs ≡ filter q xs
filter_has_same p q [] same = refl
filter_has_same p q (x ∷ xs) same = rw (same x (inl refl)) (ap (λ l. cond (q x) (x ∷ l) l) (filter_has_same p q xs (λ y h. same y (inr h))))

-- ORDER BY the key's columns, at `places`; the query shows each column.
module _ (keys : ℕ) (layout : Layout) (db : Database) (was : Stands db keys layout) (text : List ℕ) (params : Row) (places : List ℕ) (tests : List Term) (project : List Term) (names : List (List ℕ))
    (means : MeansQuery db.schema text (table_query was.tree tests (by_columns places) project) names) (first : (r : Row) → take keys (columns_of (table_of layout was.tree) r) ≡ map (column r) places)
    (shows : (r : Row) → eval_all project (params ∷ r ∷ []) ≡ columns_of (table_of layout was.tree) r) where
  abbrev f : Row → Row
  f = columns_of (table_of layout was.tree)

  abbrev stored : List Row
  stored = db.trees was.tree

  abbrev passed : Row → Bool
  passed = passes was.tree tests (by_columns places) project db.trees params

  -- WHERE decides of a stored row what the test decides of the row that shows
  pub filter_answer : (test : Row → Bool) → ((r : Row) → Has stored r → passed r ≡ test (f r)) → HasOneAnswer db text params (filter test (rows_of keys layout.name db))
  filter_answer test same = one_answer db text params (table_query was.tree tests (by_columns places) project) names (filter test (rows_of keys layout.name db)) means (λ rows answer.
      in_key_order was.tree tests places project db.trees params keys (table_of layout was.tree) first shows rows was.keyed
      (answered was.tree tests (by_columns places) project db.trees params Null rows answer)
      ∙ ap (λ rs. in_order (by_key keys) (map f rs)) (filter_has_same passed (λ r. test (f r)) stored same)
      ∙ ap (in_order (by_key keys)) (sym (filter-map test f stored))
      ∙ order_filter (by_key_total keys) test (map f stored) (shown_apart keys (table_of layout was.tree) stored was.keyed)
      ∙ ap (filter test) (sym (rows_of_is db keys layout was)))

-- SELECT each column FROM the table ORDER BY its key: all rows
pub ordered_answer : (keys : ℕ) (layout : Layout) (db : Database) (was : Stands db keys layout) (text : List ℕ) (params : Row) (places : List ℕ) (project : List Term) (names : List (List ℕ))
    → MeansQuery db.schema text (table_query was.tree [] (by_columns places) project) names → ((r : Row) → take keys (columns_of (table_of layout was.tree) r) ≡ map (column r) places)
    → ((r : Row) → eval_all project (params ∷ r ∷ []) ≡ columns_of (table_of layout was.tree) r) → HasOneAnswer db text params (rows_of keys layout.name db)
ordered_answer keys layout db was text params places project names means first shows =
    subst (HasOneAnswer db text params) (filter_all (rows_of keys layout.name db)) (filter_answer keys layout db was text params places [] project names means first shows (λ _. true) (λ r has. refl))

-- WHERE columns = parameters from one on: the rows that have those values there
pub where_answer : (keys : ℕ) (layout : Layout) (db : Database) (was : Stands db keys layout) (text : List ℕ) (params : Row) (places : List ℕ) (at : ℕ) (tested columns : List ℕ) (project : List Term)
    (names : List (List ℕ))
    → MeansQuery db.schema text (table_query was.tree (key_tests at tested) (by_columns places) project) names
    → ((r : Row) → take keys (columns_of (table_of layout was.tree) r) ≡ map (column r) places)
    → ((r : Row) → eval_all project (params ∷ r ∷ []) ≡ columns_of (table_of layout was.tree) r) → list_any is_null (key_in at tested params) ≡ false
    → ((r : Row) → map (column (columns_of (table_of layout was.tree) r)) columns ≡ map (column r) tested)
    → HasOneAnswer db text params (rows_where columns (key_in at tested params) (rows_of keys layout.name db))
where_answer keys layout db was text params places at tested columns project names means first shows solid same =
    filter_answer keys layout db was text params places (key_tests at tested) project names means first shows (λ row. is_eq (row_cmp (map (column row) columns) (key_in at tested params)))
    (λ r has. tests_key at tested params r solid ∙ ap (λ k. is_eq (row_cmp k (key_in at tested params))) (sym (same r)))

-- ---- a range of numbers

pub ge_test : (v k : Value) → is_null v ≡ false → is_null k ≡ false → is_true (binary (Compare Ge Binary) v k) ≡ not (is_lt (value_cmp v k))
unfolding binary
ge_test v k p q = rw (p, q) (truth_of (is_ge (value_cmp v k)) ∙ by (value_cmp v k))
  where
    by : (o : Ordering) → is_ge o ≡ not (is_lt o)
    by Less = refl
    by Equal = refl
    by Greater = refl

pub lt_test : (v k : Value) → is_null v ≡ false → is_null k ≡ false → is_true (binary (Compare Lt Binary) v k) ≡ is_lt (value_cmp v k)
unfolding binary
lt_test v k p q = rw (p, q) (truth_of (is_lt (value_cmp v k)))

-- key >= the first parameter AND key < the second
abbrev pub range_tests : List Term
range_tests = op2 (Compare Ge Binary) (col 1 0) (col 0 0) ∷ op2 (Compare Lt Binary) (col 1 0) (col 0 1) ∷ []

-- WHERE key >= ?1 AND key < ?2 ORDER BY key, where the key is an INTEGER PRIMARY KEY
pub range_answer : (layout : Layout) (db : Database) (was : Stands db 1 layout) (text : List ℕ) (from to : ℤ) (project : List Term) (names : List (List ℕ))
    → MeansQuery db.schema text (table_query was.tree range_tests (by_columns (0 ∷ [])) project) names → ((r : Row) → take 1 (columns_of (table_of layout was.tree) r) ≡ rowid r ∷ [])
    → ((r : Row) → eval_all project ((Int from ∷ Int to ∷ []) ∷ r ∷ []) ≡ columns_of (table_of layout was.tree) r) → ((r : Row) → column (columns_of (table_of layout was.tree) r) 0 ≡ rowid r)
    → HasOneAnswer db text (Int from ∷ Int to ∷ []) (rows_between (Int from) (Int to) (rows_of 1 layout.name db))
range_answer layout db was text from to project names means first shows head =
    filter_answer 1 layout db was text (Int from ∷ Int to ∷ []) (0 ∷ []) range_tests project names means first shows
    (λ row. not (is_lt (value_cmp (column row 0) (Int from))) && is_lt (value_cmp (column row 0) (Int to)))
    (λ r has.
    let whole = int_whole (rowid r) (was.keyed.numbered r has) in
    ap₂ (λ a b. a && (b && true)) (ge_test (rowid r) (Int from) whole refl) (lt_test (rowid r) (Int to) whole refl)
    ∙ ap (λ b. not (is_lt (value_cmp (rowid r) (Int from))) && b) (and_true (is_lt (value_cmp (rowid r) (Int to))))
    ∙ ap (λ v. not (is_lt (value_cmp v (Int from))) && is_lt (value_cmp v (Int to))) (sym (head r)))
  where
    and_true : (b : Bool) → (b && true) ≡ b
    and_true true = refl
    and_true false = refl
