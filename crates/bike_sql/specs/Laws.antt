-- The laws of this crate: what a text means in any schema that
-- has its tables, from what it means where nothing else is.
use Rattle.std.specs.Prelude.{◌≡◌, ℕ, Bool, true, false, List, [], map}
use Rattle.sqlite_sql.specs.Query.{Query}
use Rattle.sqlite_schema.specs.declared.schema.Schema.{Schema}
use Rattle.sqlite_schema.specs.declared.schema.Table.{Table}
use Rattle.sqlite_schema.specs.declared.schema.Index.{Index}
use Rattle.sqlite_schema.specs.declared.command.Command.{Command}
use Rattle.sqlite_schema.specs.declared.command.Command.TheVariants.{Select, Insert, CreateTable, CreateIndex}
use Rattle.sqlite_schema.specs.declared.command.Source.{Source}
use Rattle.sqlite_schema.specs.declared.program.Table.{Table as Let}
use Rattle.sqlite_schema.specs.Program.{let_in}
use Rattle.sqlite_typing.specs.Types.{accepts_program}
use Rattle.sqlite_resolve.specs.Scope.{Name}
use Rattle.sqlite_resolve.specs.Compile.{first}
use Rattle.sqlite.specs.Given.{IsPlain}
use Rattle.sqlite.specs.Listing.{understood, reads_listing}
use Rattle.sqlite.proofs.Callers.{command_of}
use Rattle.bike_sql.specs.Has.{HasTable, HaveTables, of_tables, place}
use Rattle.bike_sql.specs.Reads.{draft_of, IsDraft, union_of, IsUnion}
use Rattle.bike_sql.specs.Changes.{change_of, IsChange, changes}
use Rattle.bike_sql.specs.Inserts.{IsInsert}
use Rattle.bike_sql.specs.Makes.{IsFree, IsCreate, IsIndex}

-- In the schema the text is this command, with no RETURNING and no clock.
abbrev pub Means : Schema → List ℕ → Command → Type 0
Means s text command = (command_of (understood s text) ≡ command) × IsPlain (understood s text)

-- In the schema the text is this command, and reads the schema's own tables, not the listing `sqlite_schema`.
abbrev pub Reads : Schema → List ℕ → Command → Type 0
Reads s text command =
    (command_of (understood s text) ≡ command) × IsPlain (understood s text) × (reads_listing s text ≡ false)

-- A SELECT is the same query.
abbrev pub SelectLaw : Type 0
SelectLaw =
    (s : Schema) (ats : List ℕ) (ts : List Table) → HaveTables s ats ts
    → (text : List ℕ) (q : Query) (names : List Name) → IsDraft (draft_of (of_tables ts) text) q names
    → accepts_program s [] q [] ≡ true
    → Reads s text (Select (record { lets = []; body = q }) names)

-- SELECTs joined by UNION and its like are the same query, over the same computed tables.
abbrev pub UnionLaw : Type 0
UnionLaw =
    (s : Schema) (ats : List ℕ) (ts : List Table) → HaveTables s ats ts
    → (text : List ℕ) (lets : List Let) (q : Query) (names : List Name)
    → IsUnion (union_of (of_tables ts) text) lets q names
    → accepts_program s (map let_in lets) q [] ≡ true → Reads s text (Select (record { lets = lets; body = q }) names)

-- An UPDATE or a DELETE changes the table where it stands, by the same query.
abbrev pub ChangeLaw : Type 0
ChangeLaw =
    (s : Schema) (ats : List ℕ) (ts : List Table) → HaveTables s ats ts
    → (text : List ℕ) (k : ℕ) (q : Query) (is_update : Bool) → IsChange (change_of (of_tables ts) text) k q is_update
    → accepts_program s [] q [] ≡ true
    → Means s text (changes is_update (place s ats k) q)

-- An INSERT writes its rows into the table where it stands.
abbrev pub InsertLaw : Type 0
InsertLaw =
    (s : Schema) (at : ℕ) (table : Table) → HasTable s at table → (text : List ℕ) (from : Source)
    → IsInsert s table (first text) from → Means s text (Insert at from)

-- A CREATE TABLE makes a table where its name is free.
abbrev pub CreateLaw : Type 0
CreateLaw =
    (s : Schema) (text : List ℕ) (name : Name) (table : Table) → IsFree s name → IsCreate (first text) name table
    → Means s text CreateTable

-- A CREATE INDEX makes an index of the table where it stands, where its name is free.
abbrev pub IndexLaw : Type 0
IndexLaw =
    (s : Schema) (at : ℕ) (table : Table) → HasTable s at table → (text : List ℕ) (name : Name) (index : Index)
    → IsFree s name → IsIndex (first text) table name index → Means s text (CreateIndex at)
