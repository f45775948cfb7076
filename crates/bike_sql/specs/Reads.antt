-- What the text of a query means under a small schema, that of its own tables.
use Rattle.std.specs.Prelude.{◌≡◌, ◌&&◌, not, ℕ, negsuc, Bool, true, if◌then◌else◌, List, [], ◌∷◌, Ok, Err, is_ok}
use Rattle.sqlite_value.specs.declared.value.Value.TheVariants.{Int}
use Rattle.sqlite_ast.specs.declared.Core.{Core}
use Rattle.sqlite_ast.specs.declared.Compound.{Compound}
use Rattle.sqlite_ast.specs.declared.Select.{Select, out-Select}
use Rattle.sqlite_ast.specs.declared.Statement.{Statement}
use Rattle.sqlite_ast.specs.declared.Statement.TheVariants as written
use Rattle.sqlite_sql.specs.Term.{Term, lit}
use Rattle.sqlite_sql.specs.Query.{Query}
use Rattle.sqlite_schema.specs.declared.schema.Schema.{Schema}
use Rattle.sqlite_schema.specs.declared.program.Table.{Table as Let}
use Rattle.sqlite_draft.specs.Query.{query_of}
use Rattle.sqlite_resolve.specs.declared.error.CompileError.TheVariants.{Misuse}
use Rattle.sqlite_resolve.specs.Scope.{Name}
use Rattle.sqlite_resolve.specs.Terms.{number}
use Rattle.sqlite_resolve.specs.Lowering.{Checked, and_then}
use Rattle.sqlite_resolve.specs.Select.{named, paging}
use Rattle.sqlite_resolve.specs.Program.{Shown, query}
use Rattle.sqlite_resolve.specs.Compile.{first}
use Rattle.bike_sql.specs.Fragment.{is_nil, covers, covers_order, covers_core, covers_page, covers_select}

-- what a reading gives of a statement that is a query and reads no clock; any other is refused
abbrev pub of_query : {A : Type 0} → (Select → Checked A) → List Name → Statement → Checked A
of_query reading formats (written.Select q) = if is_nil formats then reading q else Err Misuse
of_query reading formats _ = Err Misuse

-- ---- one SELECT

-- the draft of a covered query that is one SELECT
abbrev pub one_select : Schema → Select → Checked Shown
one_select s q =
    if covers_select s q then and_then (paging s q) (λ page. named s (out-Select q).first (out-Select q).order page)
    else Err Misuse

abbrev pub draft_of : Schema → List ℕ → Checked Shown
draft_of s text = and_then (first text) (λ p. of_query (one_select s) p.formats p.statement)

-- The draft is this query, and its columns have these names.
abbrev pub IsDraft : Checked Shown → Query → List Name → Type 0
IsDraft (Ok shown) q names = (query_of shown.0 ≡ q) × (shown.1 ≡ names)
IsDraft (Err e) q names = ⊥

-- ---- SELECTs joined by UNION, UNION ALL, EXCEPT or INTERSECT

-- a part has neither order nor limit
abbrev pub whole_part : Term × Term
whole_part = (lit (Int (negsuc 0)), number 0)

abbrev pub covers_part : Schema → Core → Bool
covers_part s core = covers_core s core [] && is_ok (named s core [] whole_part)

abbrev pub covers_parts : Schema → List (Compound × Core) → Bool
covers_parts s [] = true
covers_parts s (c ∷ more) = covers_part s c.1 && covers_parts s more

-- a query of two or more covered parts, with no WITH
abbrev pub covers_union : Schema → Select → Bool
covers_union s q =
    (covers_part s (out-Select q).first && (covers_parts s (out-Select q).others
    && covers_order (covers s) (out-Select q).order))
    && (covers_page s q && (is_nil (out-Select q).with && not (is_nil (out-Select q).others)))

-- the draft that reads the rows of all parts, and the tables that are computed for it
abbrev pub one_union : Schema → Select → Checked (Shown × List Let)
one_union s q = if covers_union s q then query s q else Err Misuse

abbrev pub union_of : Schema → List ℕ → Checked (Shown × List Let)
union_of s text = and_then (first text) (λ p. of_query (one_union s) p.formats p.statement)

-- The draft is this query over these computed tables, and its columns have these names.
abbrev pub IsUnion : Checked (Shown × List Let) → List Let → Query → List Name → Type 0
IsUnion (Ok r) lets q names = (r.1 ≡ lets) × (query_of r.0.0 ≡ q) × (r.0.1 ≡ names)
IsUnion (Err e) lets q names = ⊥
