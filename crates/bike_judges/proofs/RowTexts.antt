-- The queries that answer the rows of one table.
use Rattle.std.proofs.Common.{ℕ, List, []}
use Rattle.sqlite.specs.Effect.{Database}
use Rattle.bike_sql.specs.Answer.{HasOneAnswer}
use Rattle.bike_sql.specs.Stands.{rows_of}
use Rattle.bike_sql.proofs.SelectLaws.{ordered_rows}
use Rattle.bike_book.specs.Tables.{TableName, keys_of}
use Rattle.bike_schema.specs.Layouts.{name_of}
use Rattle.bike_schema.specs.Tables.{HasTables}
use Rattle.bike_schema.proofs.KeyLemmas.{table_key}
use Rattle.bike_judges.proofs.Forms.{IsListOf}

pub table_lines : (t : TableName) {text : List ℕ} → IsListOf t text → (db : Database) → HasTables db → HasOneAnswer db text [] (rows_of (keys_of t) (name_of t) db)
table_lines t is db has = ordered_rows (table_key t) (has t) is
