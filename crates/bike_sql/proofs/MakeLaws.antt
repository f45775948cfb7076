-- What the text of a CREATE TABLE or a CREATE INDEX means in any schema in which its name is free.
use Rattle.std.proofs.Common.{◌≡◌, ℕ, List, [], None, Some, Ok, Err, refl, ap, ◌∙◌}
use Rattle.sqlite_ast.specs.declared.Statement.{Statement}
use Rattle.sqlite_ast.specs.declared.Statement.TheVariants as written
use Rattle.sqlite_ast.specs.declared.CreateTable.{CreateTable as TableText}
use Rattle.sqlite_ast.specs.declared.CreateIndex.{CreateIndex as IndexText}
use Rattle.sqlite_syntax.specs.declared.statement.Parsed.{Parsed}
use Rattle.sqlite_schema.specs.declared.schema.Schema.{Schema}
use Rattle.sqlite_schema.specs.declared.schema.Table.{Table}
use Rattle.sqlite_schema.specs.declared.schema.Index.{Index}
use Rattle.sqlite_schema.specs.declared.command.Command.TheVariants.{CreateTable, CreateIndex}
use Rattle.sqlite_schema.specs.Names.{table_named, index_named, view_named}
use Rattle.sqlite_resolve.specs.Scope.{Name}
use Rattle.sqlite_resolve.specs.Lowering.{Checked}
use Rattle.sqlite_resolve.specs.Compile.{first, planned, meaning, returning, command, timed, compiled, create_table, create_index, creates, is_attached}
use Rattle.sqlite.specs.Listing.{understood}
use Rattle.bike_sql.specs.Has.{HasTable}
use Rattle.bike_sql.specs.Makes.{IsFree, MakesTable, IsCreate, MakesIndex, IsIndex}
use Rattle.bike_sql.specs.Laws.{Means, CreateLaw, IndexLaw}

free_as : (s : Schema) (a b : Name) → a ≡ b → IsFree s b → IsFree s a
free_as s a b same free = (ap (table_named s) same ∙ free.0, ap (view_named s) same ∙ free.1, ap (index_named s) same ∙ free.2)

module _ (s : Schema) (text : List ℕ) where
  -- ---- CREATE TABLE

  table_compiled : (p : Parsed) (def : TableText) (name : Name) (table : Table) → IsFree s name → first text ≡ Ok p → p.statement ≡ written.CreateTable def
      → MakesTable (written.CreateTable def) p.formats name table
      → compiled s text ≡ Ok (record { command = CreateTable; returning = None; names = p.names; formats = []; start = p.start; end = p.end; tail = p.tail })
  unfolding compiled planned meaning returning command timed create_table creates is_attached
  table_compiled p def name table free parsed statement m =
      let none = free_as s def.name name m.0 free in
      let x = none.0 in
      let y = none.1 in
      let z = none.2 in
      let allowed = m.1 in
      let defined = m.2 in
      let timeless = m.3 in
      rw (parsed, statement, y, allowed, x, z, defined, timeless)

  table_means : (name : Name) (table : Table) → IsFree s name → (o : Checked Parsed) → first text ≡ o → IsCreate o name table → Means s text CreateTable
  unfolding understood
  table_means name table free (Err e) parsed it = elim it [ ]
  table_means name table free (Ok p) parsed it = go p.statement refl it
    where
      go : (st : Statement) → p.statement ≡ st → MakesTable st p.formats name table → Means s text CreateTable
      go (written.CreateTable def) statement m = let c = table_compiled p def name table free parsed statement m in (rw c, rw c (refl, refl))
      go _ statement m = elim m [ ]

  -- ---- CREATE INDEX

  module _ (at : ℕ) (table : Table) (h : HasTable s at table) where
    index_compiled : (p : Parsed) (def : IndexText) (name : Name) (index : Index) → IsFree s name → first text ≡ Ok p → p.statement ≡ written.CreateIndex def
        → MakesIndex (written.CreateIndex def) p.formats table name index
        → compiled s text ≡ Ok (record { command = CreateIndex at; returning = None; names = p.names; formats = []; start = p.start; end = p.end; tail = p.tail })
    unfolding compiled planned meaning returning command timed create_index creates
    index_compiled p def name index free parsed statement m =
        let none = free_as s def.name name m.0 free in
        let x = none.0 in
        let y = none.1 in
        let z = none.2 in
        let found : table_named s def.table ≡ Some at = ap (table_named s) m.1 ∙ h.found in
        let there = h.there in
        let allowed = m.2 in
        let stored = m.3 in
        let defined = m.4 in
        let timeless = m.5 in
        rw (parsed, statement, stored, found, there, allowed, z, x, y, defined, timeless)

    index_means : (name : Name) (index : Index) → IsFree s name → (o : Checked Parsed) → first text ≡ o → IsIndex o table name index → Means s text (CreateIndex at)
    unfolding understood
    index_means name index free (Err e) parsed it = elim it [ ]
    index_means name index free (Ok p) parsed it = go p.statement refl it
      where
        go : (st : Statement) → p.statement ≡ st → MakesIndex st p.formats table name index → Means s text (CreateIndex at)
        go (written.CreateIndex def) statement m = let c = index_compiled p def name index free parsed statement m in (rw c, rw c (refl, refl))
        go _ statement m = elim m [ ]

pub create_is : CreateLaw
create_is s text name table free is = table_means s text name table free (first text) refl is

pub index_is : IndexLaw
index_is s at table h text name index free is = index_means s text at table h name index free (first text) refl is
