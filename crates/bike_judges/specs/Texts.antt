-- What the text of a query answers.
use Rattle.std.specs.Prelude.{ℕ, List, []}
use Rattle.sqlite.specs.Effect.{Database}
use Rattle.bike_sql.specs.Answer.{HasOneAnswer}
use Rattle.bike_schema.specs.Tables.{HasTables, tables_of}
use Rattle.bike_judges.specs.declared.query.Query.{Query}
use Rattle.bike_judges.specs.Lines.{lines_of}

-- In a database that has the tables, the text answers the lines of the query, and nothing else.
abbrev pub AsksLines : List ℕ → Query → Type 0
AsksLines text query = (db : Database) → HasTables db → HasOneAnswer db text [] (lines_of query (tables_of db))
