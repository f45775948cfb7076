-- The query that answers requests in the order of their callers and keys.
use Rattle.std.proofs.Common.{ℕ, List, [], ◌∷◌, refl}
use Rattle.sqlite_sql.specs.Term.{Term, col}
use Rattle.bike_sql.specs.Queries.{table_query, by_columns}
use Rattle.bike_sql.proofs.SelectLaws.{TiesOnlyByKey}
use Rattle.bike_sql.proofs.TextLemmas.{IsSelect}
use Rattle.bike_book.specs.Tables.{History}
use Rattle.bike_schema.specs.Layouts.{layout_of}
use Rattle.bike_judges.specs.Lines.{history_key_line}
use Rattle.bike_judges.specs.declared.query.Query.TheVariants as query
use Rattle.bike_judges.specs.Texts.{AsksLines}
use Rattle.bike_judges.proofs.SortedLaw.{rows_sorted}
use Rattle.bike_judges.proofs.TieLemmas.{third_ties}

-- the caller, the key and the number
abbrev pub key_terms : List Term
key_terms = col 1 3 ∷ col 1 4 ∷ col 1 0 ∷ []

abbrev pub key_columns : List ℕ
key_columns = 3 ∷ 4 ∷ 0 ∷ []

history_ties : TiesOnlyByKey 3 1 (layout_of History) history_key_line
history_ties r s tie = third_ties _ _ _ _ _ _ tie

pub history_key_lines : {text : List ℕ} → IsSelect (table_query 0 [] (by_columns key_columns) key_terms) (layout_of History) text → AsksLines text query.HistoryKeys
history_key_lines is db has = rows_sorted (has History) [] key_columns key_terms history_key_line (λ r. refl) (λ r. refl) history_ties is
