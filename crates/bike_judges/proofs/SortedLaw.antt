-- The rows of one table in the order of other columns than its key.
use Rattle.std.proofs.Common.{◌≡◌, ℕ, List, [], map, take, length, sym, subst, ◌∙◌, ◌∷◌}
use Rattle.std.specs.List.Sorted.{IsPermutation}
use Rattle.std.proofs.lemmas.List.Sorted.{IsPermutation-map, IsPermutation-sym, IsPermutation-trans}
use Rattle.sqlite_value.specs.declared.value.Value.TheVariants.{Null}
use Rattle.sqlite_value.specs.Order.{Row, column}
use Rattle.sqlite_sql.specs.Term.{Term, eval_all}
use Rattle.sqlite_sql.specs.Query.{Query, IsAnswerAs}
use Rattle.sqlite_sql.specs.Program.{overlay}
use Rattle.sqlite.specs.Effect.{Database}
use Rattle.bike_sql.specs.Answer.{HasOneAnswer}
use Rattle.bike_sql.specs.Keyed.{in_order}
use Rattle.bike_sql.specs.Layout.{Layout, table_of}
use Rattle.bike_sql.specs.Queries.{table_query, by_columns}
use Rattle.bike_sql.specs.Stands.{rows_of, Stands}
use Rattle.bike_sql.specs.View.{columns_of, by_key}
use Rattle.bike_sql.proofs.AnswerLemmas.{no_overlay}
use Rattle.bike_sql.proofs.FrameLemmas.{rows_of_is}
use Rattle.bike_sql.proofs.KeyOrderLemmas.{keyed_apart}
use Rattle.bike_sql.proofs.LineLemmas.{lines_apart}
use Rattle.bike_sql.proofs.RowListLemmas.{map_map, map_same}
use Rattle.bike_sql.proofs.SelectLaws.{TiesOnlyByKey}
use Rattle.bike_sql.proofs.SortLemmas.{ordered_is, order_permutes}
use Rattle.bike_sql.proofs.TextLemmas.{IsSelect, select_means}
use Rattle.bike_sql.proofs.TreeLemmas.{by_key_total}
use Rattle.bike_sql.proofs.UnionLaw.{union_rows}
use Rattle.bike_sql.proofs.WalkLaw.{one_answer}

module _ {keys : ℕ} {layout : Layout} {db : Database} (was : Stands db keys layout) (params : Row) (places : List ℕ) (project : List Term) (show : Row → Row)
    (keyed_by : (r : Row) → take (length places) (eval_all project (params ∷ r ∷ [])) ≡ map (column r) places)
    (shows : (r : Row) → eval_all project (params ∷ r ∷ []) ≡ show (columns_of (table_of layout 0) r)) (ties : TiesOnlyByKey (length places) keys layout show) where
  abbrev query : Query
  query = table_query was.tree [] (by_columns places) project

  abbrev f : Row → Row
  f = columns_of (table_of layout was.tree)

  abbrev stored : List Row
  stored = db.trees was.tree

  abbrev shown : Row → Row
  shown r = eval_all project (params ∷ r ∷ [])

  abbrev lines : List Row
  lines = map show (rows_of keys layout.name db)

  moved : IsPermutation lines (map shown stored)
  moved =
      let sorted : IsPermutation (map f stored) (rows_of keys layout.name db) =
      subst (IsPermutation (map f stored)) (sym (rows_of_is db keys layout was)) (order_permutes (by_key_total keys) (map f stored) (keyed_apart keys (table_of layout was.tree) stored was.keyed)) in
      subst (IsPermutation lines) (map_map f show stored ∙ sym (map_same shown (λ r. show (f r)) shows stored))
      (IsPermutation-sym _ _ (IsPermutation-map show (map f stored) (rows_of keys layout.name db) sorted))

  only : (rows : List Row) → IsAnswerAs Null query (overlay db.trees []) params rows → rows ≡ in_order (by_key (length places)) lines
  only rows answer =
      let it = union_rows was.tree (length places) places project db.trees params keyed_by rows (subst (λ d. IsAnswerAs Null query d params rows) (λ i t. no_overlay db.trees t i) answer) in
      ordered_is (by_key_total (length places)) lines rows (IsPermutation-trans _ _ _ moved it.0) it.1 (lines_apart (length places) db params project keys layout was show ties)

  -- SELECT project FROM the table ORDER BY the columns at these places, which are what it shows first
  pub rows_sorted : {text : List ℕ} → IsSelect (table_query 0 [] (by_columns places) project) layout text → HasOneAnswer db text params (in_order (by_key (length places)) lines)
  rows_sorted {text} is =
      let it = select_means (table_query 0 [] (by_columns places) project) layout text is db.schema was.at was.tree was.has in
      one_answer db text params query it.0 (in_order (by_key (length places)) lines) it.1 only
