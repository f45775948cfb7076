-- SELECT .. WHERE tests ORDER BY the key LIMIT a number answers what it shows of the rows that pass, in the order of their keys, up to that number.
use Rattle.std.proofs.Common.{◌≡◌, ℕ, ℤ, not, List, [], ◌∷◌, ◌++◌, map, filter, take, slice_get, ◌&&◌, Bool, true, false, cond, refl, sym, ap, ap₂, ◌∙◌}
use Rattle.std.specs.List.{list_all}
use Rattle.std.specs.Ordering.{is_lt}
use Rattle.sqlite_value.specs.declared.value.Value.{Value}
use Rattle.sqlite_value.specs.declared.value.Value.TheVariants.{Null, Int, Real, Text, Blob}
use Rattle.sqlite_value.specs.declared.keys.Collation.TheVariants.{Binary}
use Rattle.sqlite_value.specs.Order.{Row, column, value_cmp}
use Rattle.sqlite_trees.proofs.ListLemmas.{filter-map}
use Rattle.sqlite_sql.specs.Ops.{binary, is_true, is_null}
use Rattle.sqlite_sql.specs.Term.{Term, eval, eval_all, holds}
use Rattle.sqlite_sql.specs.Query.{as_count, limited}
use Rattle.sqlite_sql.specs.declared.ops.BinaryOp.TheVariants.{Is, Compare}
use Rattle.sqlite_sql.specs.declared.ops.CompareOp.TheVariants.{Ge, Lt}
use Rattle.sqlite_rules.specs.Lists.{Has}
use Rattle.sqlite.specs.Effect.{Database}
use Rattle.bike_sql.specs.Keyed.{in_order}
use Rattle.bike_sql.specs.Layout.{Layout, table_of}
use Rattle.bike_sql.specs.View.{columns_of, by_key}
use Rattle.bike_sql.specs.Stands.{rows_of, Stands}
use Rattle.bike_sql.specs.Queries.{table_query, limit_query, null_tests, by_columns}
use Rattle.bike_sql.specs.Answer.{MeansQuery, HasOneAnswer}
use Rattle.bike_sql.proofs.TreeLemmas.{by_key_total, shown_apart}
use Rattle.bike_sql.proofs.AnswerLemmas.{passes, answered_page}
use Rattle.bike_sql.proofs.KeyOrderLemmas.{shown_in_key_order}
use Rattle.bike_sql.proofs.RangeLaw.{order_filter, filter_has_same, ge_test, lt_test}
use Rattle.bike_sql.proofs.FrameLemmas.{rows_of_is}
use Rattle.bike_sql.proofs.WalkLaw.{one_answer}

-- ---- IS NULL

null_test : (v : Value) → is_true (binary (Is Binary) v Null) ≡ is_null v
unfolding binary value_cmp lib.Ieee.is_nan lib.Ieee.lt
null_test Null = refl
null_test (Int n) = refl
null_test (Real x) = refl
null_test (Text t) = refl
null_test (Blob b) = refl

pub tests_null : (places : List ℕ) (params r : Row) → list_all (holds (params ∷ r ∷ [])) (null_tests places) ≡ list_all is_null (map (column r) places)
tests_null [] params r = refl
tests_null (place ∷ places) params r = ap₂ ◌&&◌ (null_test (column r place)) (tests_null places params r)

-- ---- comparison of what may be NULL with a number

pub at_least_test : (v : Value) (n : ℤ) → is_true (binary (Compare Ge Binary) v (Int n)) ≡ not (is_lt (value_cmp v (Int n)))
unfolding binary value_cmp
at_least_test Null n = refl
at_least_test (Int m) n = ge_test (Int m) (Int n) refl refl
at_least_test (Real x) n = ge_test (Real x) (Int n) refl refl
at_least_test (Text t) n = ge_test (Text t) (Int n) refl refl
at_least_test (Blob b) n = ge_test (Blob b) (Int n) refl refl

pub below_test : (v : Value) (n : ℤ) → is_true (binary (Compare Lt Binary) v (Int n)) ≡ (not (is_null v) && is_lt (value_cmp v (Int n)))
unfolding binary
below_test Null n = refl
below_test (Int m) n = lt_test (Int m) (Int n) refl refl
below_test (Real x) n = lt_test (Real x) (Int n) refl refl
below_test (Text t) n = lt_test (Text t) (Int n) refl refl
below_test (Blob b) n = lt_test (Blob b) (Int n) refl refl

-- ---- lists of tests, and of rows

pub all_both : {X : Type 0} (p : X → Bool) (xs ys : List X) → list_all p (xs ++ ys) ≡ (list_all p xs && list_all p ys)
all_both p [] ys = refl
all_both p (x ∷ xs) ys = elim (p x) as (λ b. (b && list_all p (xs ++ ys)) ≡ ((b && list_all p xs) && list_all p ys)) [ true ↦ all_both p xs ys | false ↦ refl ]

pub filter_filter : {X : Type 0} (p q : X → Bool) (xs : List X) → filter (λ x. q x && p x) xs ≡ filter p (filter q xs)
filter_filter p q [] = refl
filter_filter {X} p q (x ∷ xs) =
    elim (q x) as (λ b. cond (b && p x) (x ∷ filter (λ y. q y && p y) xs) (filter (λ y. q y && p y) xs) ≡ filter p (cond b (x ∷ filter q xs) (filter q xs))) [
      | true ↦ ap (λ l. cond (p x) (x ∷ l) l) (filter_filter p q xs)
      | false ↦ filter_filter p q xs
    ]

pub first_taken : {X : Type 0} (xs : List X) → slice_get (take 1 xs) 0 ≡ slice_get xs 0
first_taken [] = refl
first_taken (x ∷ xs) = refl

pub map_same_list : {X : Type 0} (xs : List X) → map (λ x. x) xs ≡ xs
map_same_list [] = refl
map_same_list (x ∷ xs) = ap (λ l. x ∷ l) (map_same_list xs)

-- The key's columns stand at `places`, and `show` is what the query shows of a row.
module _ (keys : ℕ) (layout : Layout) (db : Database) (was : Stands db keys layout) (text : List ℕ) (params : Row) (places : List ℕ) (tests : List Term) (limit : Term) (project : List Term)
    (names : List (List ℕ))
    (means : MeansQuery db.schema text (limit_query limit (table_query was.tree tests (by_columns places) project)) names)
    (first : (r : Row) → take keys (columns_of (table_of layout was.tree) r) ≡ map (column r) places)
    (show : Row → Row) (shows : (r : Row) → eval_all project (params ∷ r ∷ []) ≡ show (columns_of (table_of layout was.tree) r)) where
  abbrev f : Row → Row
  f = columns_of (table_of layout was.tree)

  abbrev stored : List Row
  stored = db.trees was.tree

  abbrev passed : Row → Bool
  passed = passes was.tree tests (by_columns places) project db.trees params

  abbrev paged : List Row → List Row
  paged = limited (as_count (eval limit (params ∷ [])))

  -- the rows that pass are those of which `test` holds, as their columns show them
  pub page_answer : (test : Row → Bool) → ((r : Row) → Has stored r → passed r ≡ test (f r)) → HasOneAnswer db text params (paged (map show (filter test (rows_of keys layout.name db))))
  page_answer test same =
      one_answer db text params (limit_query limit (table_query was.tree tests (by_columns places) project)) names (paged (map show (filter test (rows_of keys layout.name db)))) means (λ rows answer.
      let it = answered_page was.tree tests (by_columns places) project db.trees params limit Null rows answer in
      let all = shown_in_key_order was.tree tests places project db.trees params keys (table_of layout was.tree) first show shows it.0 was.keyed it.1
      ∙ ap (λ rs. map show (in_order (by_key keys) (map f rs))) (filter_has_same passed (λ r. test (f r)) stored same)
      ∙ ap (λ rs. map show (in_order (by_key keys) rs)) (sym (filter-map test f stored))
      ∙ ap (map show) (order_filter (by_key_total keys) test (map f stored) (shown_apart keys (table_of layout was.tree) stored was.keyed))
      ∙ ap (λ rs. map show (filter test rs)) (sym (rows_of_is db keys layout was)) in
      it.2 ∙ ap paged all)
