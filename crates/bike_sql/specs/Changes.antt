-- What the text of an UPDATE or a DELETE means under a small schema, that of its own tables.
use Rattle.std.specs.Prelude.{◌≡◌, ℕ, Bool, true, false, ◌&&◌, if◌then◌else◌, List, [], Ok, Err}
use Rattle.sqlite_ast.specs.declared.Statement.{Statement}
use Rattle.sqlite_ast.specs.declared.Statement.TheVariants as written
use Rattle.sqlite_sql.specs.Query.{Query}
use Rattle.sqlite_schema.specs.declared.schema.Schema.{Schema}
use Rattle.sqlite_schema.specs.declared.schema.Table.{Table}
use Rattle.sqlite_schema.specs.declared.command.Command.{Command}
use Rattle.sqlite_schema.specs.declared.command.Command.TheVariants.{Update, Delete}
use Rattle.sqlite_draft.specs.declared.query.Draft.{Draft}
use Rattle.sqlite_draft.specs.Query.{query_of}
use Rattle.sqlite_resolve.specs.declared.error.CompileError.TheVariants.{Misuse}
use Rattle.sqlite_resolve.specs.Scope.{Name}
use Rattle.sqlite_resolve.specs.Lowering.{Checked, and_then}
use Rattle.sqlite_resolve.specs.Body.{table_at}
use Rattle.sqlite_resolve.specs.Write.{updated, deleted}
use Rattle.sqlite_resolve.specs.Compile.{first, target}
use Rattle.bike_sql.specs.Fragment.{is_nil, covers, covers_option, covers_sets}

-- the place of the changed table, the rows that take the place of its rows, and whether it is an UPDATE
abbrev pub Change : Type 0
Change = ℕ × Draft × Bool

-- the change of the table with this name
abbrev pub change_on : Schema → Name → (ℕ → Table → Checked Draft) → Bool → Checked Change
change_on s name change is_update =
    and_then (target s name) (λ k. and_then (table_at s k)
    (λ table. and_then (change k table) (λ d. Ok (k, d, is_update))))

-- the change that a covered UPDATE or DELETE makes, with no RETURNING and no clock; any other statement is refused
abbrev pub change_at : Schema → List Name → Statement → Checked Change
change_at s formats (written.Update name sets test shown) =
    if is_nil formats && (is_nil shown && (covers_sets s sets && covers_option (covers s) test))
    then change_on s name (λ k table. updated s k table sets test) true else Err Misuse
change_at s formats (written.Delete name test shown) =
    if is_nil formats && (is_nil shown && covers_option (covers s) test)
    then change_on s name (λ k table. deleted s k table test) false else Err Misuse
change_at s formats _ = Err Misuse

abbrev pub change_of : Schema → List ℕ → Checked Change
change_of s text = and_then (first text) (λ p. change_at s p.formats p.statement)

-- The change is of the table at this place, by this query, and an UPDATE or a DELETE.
abbrev pub IsChange : Checked Change → ℕ → Query → Bool → Type 0
IsChange (Ok c) k q is_update = (c.0 ≡ k) × (query_of c.1 ≡ q) × (c.2 ≡ is_update)
IsChange (Err e) k q is_update = ⊥

abbrev pub changes : Bool → ℕ → Query → Command
changes true at q = Update at (record { lets = []; body = q })
changes false at q = Delete at (record { lets = []; body = q })
