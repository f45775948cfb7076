-- Queries that have one answer.
use Rattle.std.specs.Prelude.{◌≡◌, ℕ, List, [], ◌++◌}
use Rattle.sqlite_value.specs.Order.{Row}
use Rattle.sqlite_sql.specs.Query.{Query}
use Rattle.sqlite_sql.specs.Program.{IsProgramAnswer, IsProgramStart}
use Rattle.sqlite_schema.specs.declared.program.Program.{Program}
use Rattle.sqlite_schema.specs.declared.schema.Schema.{Schema}
use Rattle.sqlite_schema.specs.declared.command.Command.TheVariants.{Select}
use Rattle.sqlite_schema.specs.Program.{lets_of}
use Rattle.sqlite.specs.Effect.{Database}
use Rattle.bike_sql.specs.Laws.{Reads}

-- in the schema the text is this query, with columns of these names
abbrev pub MeansQuery : Schema → List ℕ → Query → List (List ℕ) → Type 0
MeansQuery schema text query names = Reads schema text (Select (record { lets = []; body = query }) names)

-- In this database the text is a query whose only answer is these rows, in this order.
pub record HasOneAnswer (db : Database) (text : List ℕ) (params : Row) (all : List Row) : Type 0 where
  pub program : Program
  pub names : List (List ℕ)
  pub means : Reads db.schema text (Select program names)
  pub whole : (rows : List Row) → IsProgramAnswer (lets_of program) program.body db.trees params rows → rows ≡ all
  pub begins : (rows : List Row) → IsProgramStart (lets_of program) program.body db.trees params rows
      → (tail : List Row) × (rows ++ tail ≡ all)
