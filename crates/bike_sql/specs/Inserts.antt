-- What the text of an INSERT of VALUES means in any schema that has its table.
use Rattle.std.specs.Prelude.{◌≡◌, ℕ, [], Ok, Err}
use Rattle.sqlite_ast.specs.declared.Statement.{Statement}
use Rattle.sqlite_ast.specs.declared.Statement.TheVariants as written
use Rattle.sqlite_ast.specs.declared.Rows.{Rows}
use Rattle.sqlite_ast.specs.declared.Rows.TheVariants.{Defaults}
use Rattle.sqlite_ast.specs.declared.Conflict.TheVariants.{Abort}
use Rattle.sqlite_syntax.specs.declared.statement.Parsed.{Parsed}
use Rattle.sqlite_schema.specs.declared.schema.Schema.{Schema}
use Rattle.sqlite_schema.specs.declared.schema.Table.{Table}
use Rattle.sqlite_schema.specs.declared.command.Source.{Source}
use Rattle.sqlite_resolve.specs.Lowering.{Checked}
use Rattle.sqlite_resolve.specs.Compile.{new_rows}

-- the rows that an INSERT writes
abbrev pub rows_of : Statement → Rows
rows_of (written.Insert how name columns rows clauses shown) = rows
rows_of _ = Defaults

-- The statement inserts these rows into the table with all its columns
-- in order, and has no ON CONFLICT, no RETURNING and no clock.
abbrev pub IsInsert : Schema → Table → Checked Parsed → Source → Type 0
IsInsert s table (Ok p) from =
    (p.statement ≡ written.Insert Abort table.name [] (rows_of p.statement) [] []) × (p.formats ≡ [])
    × (table.stamps.formats ≡ []) × ((base : ℕ) → new_rows s table base [] (rows_of p.statement) ≡ Ok from)
IsInsert s table (Err e) from = ⊥
