-- What the text of a CREATE TABLE or a CREATE INDEX means in any schema in which its name is free.
use Rattle.std.specs.Prelude.{◌≡◌, ◌==◌, ◌&&◌, not, false, true, List, [], length, None, Ok, Err}
use Rattle.sqlite_ast.specs.declared.Statement.{Statement}
use Rattle.sqlite_ast.specs.declared.Statement.TheVariants as written
use Rattle.sqlite_syntax.specs.declared.statement.Parsed.{Parsed}
use Rattle.sqlite_schema.specs.declared.schema.Schema.{Schema}
use Rattle.sqlite_schema.specs.declared.schema.Table.{Table}
use Rattle.sqlite_schema.specs.declared.schema.Index.{Index}
use Rattle.sqlite_schema.specs.Names.{table_named, index_named, view_named}
use Rattle.sqlite_resolve.specs.Scope.{Name}
use Rattle.sqlite_resolve.specs.Lowering.{Checked}
use Rattle.sqlite_resolve.specs.Compile.{is_reserved}
use Rattle.sqlite_resolve.specs.Define as define

-- No table, view or index of the schema has this name.
abbrev pub IsFree : Schema → Name → Type 0
IsFree s name = (table_named s name ≡ None) × (view_named s name ≡ None) × (index_named s name ≡ None)

-- The statement makes this table, under this name.
abbrev pub MakesTable : Statement → List Name → Name → Table → Type 0
MakesTable (written.CreateTable def) formats name table =
    (def.name ≡ name) × (is_reserved def.name ≡ false) × (define.table formats def ≡ Ok table)
    × ((length table.computed == length table.stamps.places && not def.resolves) ≡ true)
MakesTable _ formats name table = ⊥

abbrev pub IsCreate : Checked Parsed → Name → Table → Type 0
IsCreate (Ok p) name table = MakesTable p.statement p.formats name table
IsCreate (Err e) name table = ⊥

-- The statement makes this index of the table, under this name.
abbrev pub MakesIndex : Statement → List Name → Table → Name → Index → Type 0
MakesIndex (written.CreateIndex def) formats table name index =
    (def.name ≡ name) × (def.table ≡ table.name) × (is_reserved def.name ≡ false) × (is_reserved def.table ≡ false)
    × (define.index table def ≡ Ok index) × (formats ≡ [])
MakesIndex _ formats table name index = ⊥

abbrev pub IsIndex : Checked Parsed → Table → Name → Index → Type 0
IsIndex (Ok p) table name index = MakesIndex p.statement p.formats table name index
IsIndex (Err e) table name index = ⊥
