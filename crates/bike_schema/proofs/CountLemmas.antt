-- How many rows pass any tests, as count(*) answers it.
use Rattle.std.proofs.Common.{◌≡◌, List, ℕ, [], ◌∷◌, map, filter, length, Bool, true, Some, refl, sym, ap, subst, ◌∙◌}
use Rattle.std.specs.List.{list_all}
use Rattle.std.proofs.lemmas.List.{length-map}
use Rattle.std.proofs.lemmas.List.Sorted.{length_permutation}
use Rattle.sqlite_value.specs.Order.{Row}
use Rattle.sqlite_trees.proofs.ListLemmas.{filter-map, IsPermutation-filter}
use Rattle.sqlite_sql.specs.Aggregate.{count}
use Rattle.sqlite_sql.specs.Term.{Term, holds}
use Rattle.sqlite.specs.Effect.{Database}
use Rattle.bike_sql.specs.Keyed.{in_order}
use Rattle.bike_sql.specs.Layout.{Layout, table_of}
use Rattle.bike_sql.specs.Queries.{count_query}
use Rattle.bike_sql.specs.Stands.{rows_of, Stands}
use Rattle.bike_sql.specs.View.{columns_of, by_key}
use Rattle.bike_sql.proofs.AnswerLemmas.{passes}
use Rattle.bike_sql.proofs.CountLaw.{counts}
use Rattle.bike_sql.proofs.FrameLemmas.{rows_of_is}
use Rattle.bike_sql.proofs.KeyOrderLemmas.{keyed_apart}
use Rattle.bike_sql.proofs.RowListLemmas.{filter_same, filter_all}
use Rattle.bike_sql.proofs.SortLemmas.{order_permutes}
use Rattle.bike_sql.proofs.TextLemmas.{IsSelect, select_means}
use Rattle.bike_sql.proofs.TreeLemmas.{by_key_total}
use Rattle.bike_sql.proofs.WalkLaw.{Finds, one_answer}
use Rattle.bike_book.specs.Tables.{TableName, keys_of, rows_in}
use Rattle.bike_schema.specs.Layouts.{layout_of, name_of}
use Rattle.bike_schema.proofs.AnswerLemmas.{FindsIn, in_table}

-- SELECT count(*) FROM the table WHERE each of the tests. Of a row, as its columns show it, the tests decide `test`.
pub counted_passing : (keys : ℕ) (layout : Layout) (db : Database) (was : Stands db keys layout) (text : List ℕ) (params : Row) (tests : List Term) (test : Row → Bool)
    → IsSelect (count_query 0 tests) layout text
    → ((r : Row) → list_all (holds (params ∷ r ∷ [])) tests ≡ test (columns_of (table_of layout 0) r)) → Finds db text params (Some (count (length (filter test (rows_of keys layout.name db))) ∷ []))
counted_passing keys layout db was text params tests test is decides =
    let f = columns_of (table_of layout was.tree) in
    let stored = db.trees was.tree in
    let it = select_means (count_query 0 tests) layout text is db.schema was.at was.tree was.has in
    let permuted = order_permutes (by_key_total keys) (map f stored) (keyed_apart keys (table_of layout was.tree) stored was.keyed) in
    let many : length (filter (passes was.tree tests [] [] db.trees params) stored) ≡ length (filter test (rows_of keys layout.name db)) =
    ap length (filter_same (passes was.tree tests [] [] db.trees params) (λ r. test (f r)) decides stored)
    ∙ sym (length-map (filter (λ r. test (f r)) stored) f) ∙ ap length (sym (filter-map test f stored))
    ∙ sym (length_permutation (filter test (map f stored)) (filter test (in_order (by_key keys) (map f stored)))
    (IsPermutation-filter test (map f stored) (in_order (by_key keys) (map f stored)) permuted))
    ∙ ap (λ rs. length (filter test rs)) (sym (rows_of_is db keys layout was)) in record {
      all = _;
      one =
          one_answer db text params (count_query was.tree tests) it.0 ((count (length (filter test (rows_of keys layout.name db))) ∷ []) ∷ []) it.1
          (λ rows answer. counts was.tree tests params db.trees rows answer ∙ ap (λ n. (count n ∷ []) ∷ []) many);
      first = refl;
    }

-- SELECT count(*) FROM the table
pub counted_in : (t : TableName) {text : List ℕ} → IsSelect (count_query 0 []) (layout_of t) text → FindsIn text [] (λ tables. Some (count (length (rows_in tables t)) ∷ []))
counted_in t {text} is =
    in_table t (λ rows. Some (count (length rows) ∷ [])) (λ db has. subst (λ rows. Finds db text [] (Some (count (length rows) ∷ []))) (filter_all (rows_of (keys_of t) (name_of t) db))
    (counted_passing (keys_of t) (layout_of t) db (has t) text [] [] (λ row. true) is (λ r. refl)))
