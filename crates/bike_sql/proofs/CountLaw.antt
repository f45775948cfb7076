-- count(*) answers how many rows pass.
use Rattle.std.proofs.Common.{◌≡◌, ℕ, List, [], ◌∷◌, map, filter, length, true, false, Some, sym, ap, subst, ◌∙◌}
use Rattle.std.specs.List.{AllZip, list_any}
use Rattle.std.specs.List.Sorted.{IsPermutation}
use Rattle.std.specs.Ordering.{is_eq}
use Rattle.std.proofs.lemmas.List.{length-map}
use Rattle.std.proofs.lemmas.List.Sorted.{length_permutation}
use Rattle.sqlite_value.specs.declared.value.Value.{Value}
use Rattle.sqlite_value.specs.declared.value.Value.TheVariants.{Null}
use Rattle.sqlite_value.specs.Order.{Row, column, row_cmp}
use Rattle.sqlite_trees.specs.Tree.{Trees}
use Rattle.sqlite_trees.proofs.ListLemmas.{filter-map, IsPermutation-filter}
use Rattle.sqlite_value.specs.declared.keys.Collation.TheVariants.{Binary}
use Rattle.sqlite_sql.specs.declared.aggregate.AggregateOp.TheVariants.{CountRows}
use Rattle.sqlite_sql.specs.Aggregate.{count}
use Rattle.sqlite_sql.specs.Group.{Aggregate, Grouping, IsSummary, Summarizes, value_over}
use Rattle.sqlite_sql.specs.Ops.{is_null}
use Rattle.sqlite_sql.specs.Query.{Query, IsAnswerAs, inner, end, matches_as, output}
use Rattle.sqlite_sql.specs.Program.{overlay}
use Rattle.sqlite_sql.specs.Term.{Term, Env, lit, eval}
use Rattle.sqlite.specs.Effect.{Database}
use Rattle.sqlite.proofs.Callers.{one_permutation}
use Rattle.bike_sql.specs.Keyed.{in_order}
use Rattle.bike_sql.specs.Layout.{Layout, table_of}
use Rattle.bike_sql.specs.View.{columns_of, by_key, rows_where}
use Rattle.bike_sql.specs.Stands.{rows_of, Stands}
use Rattle.bike_sql.specs.Queries.{count_query, key_tests, key_in}
use Rattle.bike_sql.specs.Answer.{MeansQuery, HasOneAnswer}
use Rattle.bike_sql.proofs.RowListLemmas.{filter_same}
use Rattle.bike_sql.proofs.TreeLemmas.{by_key_total}
use Rattle.bike_sql.proofs.TestLemmas.{tests_key}
use Rattle.bike_sql.proofs.SortLemmas.{order_permutes}
use Rattle.bike_sql.proofs.AnswerLemmas.{passes, matched}
use Rattle.bike_sql.proofs.KeyOrderLemmas.{keyed_apart}
use Rattle.bike_sql.proofs.FrameLemmas.{rows_of_is}
use Rattle.bike_sql.proofs.WalkLaw.{one_answer}

module _ (tree : ℕ) (tests : List Term) (params : Row) where
  abbrev query : Query
  query = count_query tree tests

  abbrev counted : Aggregate
  counted = record { op = CountRows; distinct = false; collation = Binary; argument = lit Null }

  abbrev group : Grouping
  group = record { keys = []; collations = []; aggregates = counted ∷ []; having = [] }

  value_is : (order : List Env) (v : Value) → value_over order counted ≡ Some v → v ≡ count (length order)
  value_is order v is = let same : count (length (map (eval (lit Null)) order)) ≡ v = cc in sym same ∙ ap count (length-map order (eval (lit Null)))

  summary_is : (order : List Env) (row : Row) → IsSummary group order row → row ≡ count (length order) ∷ []
  summary_is order row (values, all, is) = is ∙ by values all
    where
      by : (vs : Row) → AllZip (λ a v. value_over order a ≡ Some v) (counted ∷ []) vs → vs ≡ count (length order) ∷ []
      by [] h = elim h [ ]
      by (v ∷ []) h = ap (λ x. x ∷ []) (value_is order v h.0)
      by (v ∷ w ∷ vs) h = elim h.1 [ ]

  staged_is : (all staged : List Env) → Summarizes group params all staged → staged ≡ (params ∷ (count (length all) ∷ []) ∷ []) ∷ []
  staged_is all staged s = s.having ∙ by s.rows (subst (λ gs. AllZip (IsSummary group) gs s.rows) s.grouping.2 s.summaries)
    where
      by : (rows : List Row) → AllZip (IsSummary group) (s.grouping.0 ∷ []) rows → filter (λ (e : Env). true) (map (λ r. params ∷ r ∷ []) rows) ≡ (params ∷ (count (length all) ∷ []) ∷ []) ∷ []
      by [] h = elim h [ ]
      by (row ∷ []) h = ap (λ r. (params ∷ r ∷ []) ∷ []) (summary_is s.grouping.0 row h.0 ∙ ap (λ n. count n ∷ []) (length_permutation all s.grouping.0 s.grouping.1))
      by (row ∷ next ∷ rows) h = elim h.1 [ ]

  pub counts : (db : Trees) (rows : List Row) → IsAnswerAs Null query (overlay db []) params rows → rows ≡ (count (length (filter (passes tree tests [] [] db params) (db tree))) ∷ []) ∷ []
  counts db rows a =
      let all = matches_as Null (overlay db []) tests (inner tree end) (params ∷ []) in
      let found = filter (passes tree tests [] [] db params) (db tree) in
      let many : length all ≡ length found = ap length (matched tree tests [] [] db params Null) ∙ length-map found (λ r. params ∷ r ∷ []) in
      let kept = a.distinct ∙ ap (map (output query)) (staged_is all a.staged a.grouped) in
      let one = one_permutation (output query (params ∷ (count (length all) ∷ []) ∷ [])) a.ordered (subst (λ k. IsPermutation k a.ordered) kept a.same) in
      a.shown ∙ ap (map (λ (o : Row × Row). o.1)) one ∙ ap (λ n. (count n ∷ []) ∷ []) many

-- WHERE columns = parameters from one on: how many rows have those values there
pub count_answer : (keys : ℕ) (layout : Layout) (db : Database) (was : Stands db keys layout) (text : List ℕ) (params : Row) (at : ℕ) (tested columns : List ℕ) (names : List (List ℕ))
    → MeansQuery db.schema text (count_query was.tree (key_tests at tested)) names
    → list_any is_null (key_in at tested params) ≡ false → ((r : Row) → map (column (columns_of (table_of layout was.tree) r)) columns ≡ map (column r) tested)
    → HasOneAnswer db text params ((count (length (rows_where columns (key_in at tested params) (rows_of keys layout.name db))) ∷ []) ∷ [])
count_answer keys layout db was text params at tested columns names means solid same =
    one_answer db text params (count_query was.tree (key_tests at tested)) names ((count (length (rows_where columns (key_in at tested params) (rows_of keys layout.name db))) ∷ []) ∷ []) means
    (λ rows answer.
    let f = columns_of (table_of layout was.tree) in
    let stored = db.trees was.tree in
    let test = λ (row : Row). is_eq (row_cmp (map (column row) columns) (key_in at tested params)) in
    let passed = passes was.tree (key_tests at tested) [] [] db.trees params in
    let decides = λ (r : Row). tests_key at tested params r solid ∙ ap (λ k. is_eq (row_cmp k (key_in at tested params))) (sym (same r)) in
    let permuted = order_permutes (by_key_total keys) (map f stored) (keyed_apart keys (table_of layout was.tree) stored was.keyed) in
    let many : length (filter passed stored) ≡ length (filter test (rows_of keys layout.name db)) =
    ap length (filter_same passed (λ r. test (f r)) decides stored)
    ∙ sym (length-map (filter (λ r. test (f r)) stored) f) ∙ ap length (sym (filter-map test f stored))
    ∙ sym (length_permutation (filter test (map f stored)) (filter test (in_order (by_key keys) (map f stored)))
    (IsPermutation-filter test (map f stored) (in_order (by_key keys) (map f stored)) permuted))
    ∙ ap (λ rs. length (filter test rs)) (sym (rows_of_is db keys layout was)) in
    counts was.tree (key_tests at tested) params db.trees rows answer ∙ ap (λ n. (count n ∷ []) ∷ []) many)
