-- The statement of a page of the history.
use Rattle.std.proofs.Common.{ℕ, List, [], ◌∷◌, codes, filter, take, pos, refl, ap, subst, ◌∙◌}
use Rattle.sqlite_value.specs.declared.value.Value.TheVariants.{Int}
use Rattle.sqlite_value.specs.declared.keys.Collation.TheVariants.{Binary}
use Rattle.sqlite_value.specs.Order.{column}
use Rattle.sqlite_sql.specs.Term.{Term, lit, col, op2}
use Rattle.sqlite_sql.specs.declared.ops.BinaryOp.TheVariants.{Compare}
use Rattle.sqlite_sql.specs.declared.ops.CompareOp.TheVariants.{Gt}
use Rattle.sqlite_tied.specs.Compute.{everything}
use Rattle.bike_sql.specs.Answer.{HasOneAnswer}
use Rattle.bike_sql.proofs.PageLaw.{map_same_list}
use Rattle.bike_sql.proofs.SelectLaws.{every_column, rows_passing}
use Rattle.bike_book.specs.Tables.{History}
use Rattle.bike_book.specs.Rows.{number_value}
use Rattle.bike_schema.specs.Layouts.{layout_of}
use Rattle.bike_schema.proofs.KeyLemmas.{table_key}
use Rattle.bike_schema.proofs.ListedLemmas.{ListsIn}
use Rattle.bike_schema.proofs.WithinLaw.{and_true, shows_every}
use Rattle.bike_queries.specs.Requests.{is_behind}
use Rattle.bike_queries.proofs.SpanLaw.{over_test}

-- the rowid > the first parameter
abbrev behind_tests : List Term
behind_tests = op2 (Compare Gt Binary) (col 1 0) (col 0 0) ∷ []

pub lists_requests_behind : (number : ℕ) → ListsIn (codes "SELECT * FROM history WHERE number > ?1 ORDER BY number LIMIT 64") (number_value number ∷ [])
    (λ t. take 64 (filter (is_behind number) t.history))
unfolding everything
lists_requests_behind number = record {
  lists = λ db has. subst (HasOneAnswer db _ (number_value number ∷ [])) (ap (take 64) (map_same_list _))
      (rows_passing (table_key History) (has History) (every_column (layout_of History)) (λ row. row) (shows_every History (number_value number ∷ [])) behind_tests (lit (Int (pos 64)))
      (is_behind number) (λ tree. refl, refl)
      (λ r. and_true _ ∙ over_test (column r 0) (pos number)));
}
