-- What the text of an INSERT of VALUES means in any schema that has its table.
use Rattle.std.proofs.Common.{◌≡◌, ℕ, List, [], None, Ok, Err, refl}
use Rattle.sqlite_ast.specs.declared.Rows.{Rows}
use Rattle.sqlite_ast.specs.declared.Statement.TheVariants as written
use Rattle.sqlite_ast.specs.declared.Conflict.TheVariants.{Abort}
use Rattle.sqlite_syntax.specs.declared.statement.Parsed.{Parsed}
use Rattle.sqlite_schema.specs.declared.schema.Schema.{Schema}
use Rattle.sqlite_schema.specs.declared.schema.Table.{Table}
use Rattle.sqlite_schema.specs.declared.command.Source.{Source}
use Rattle.sqlite_schema.specs.declared.command.Command.TheVariants.{Insert}
use Rattle.sqlite_resolve.specs.Lowering.{Checked}
use Rattle.sqlite_resolve.specs.Compile.{first, planned, meaning, returning, shows, command, insert_or_abort, insert, new_rows, timed, compiled}
use Rattle.sqlite.specs.Listing.{understood}
use Rattle.bike_sql.specs.Has.{HasTable}
use Rattle.bike_sql.specs.Inserts.{rows_of, IsInsert}
use Rattle.bike_sql.specs.Laws.{Means, InsertLaw}

module _ (s : Schema) (at : ℕ) (table : Table) (h : HasTable s at table) (text : List ℕ) (from : Source) where
  compiled_is : (p : Parsed) (rows : Rows) → first text ≡ Ok p → p.statement ≡ written.Insert Abort table.name [] rows [] [] → p.formats ≡ [] → table.stamps.formats ≡ []
      → ((base : ℕ) → new_rows s table base [] rows ≡ Ok from)
      → compiled s text ≡ Ok (record { command = Insert at from; returning = None; names = p.names; formats = []; start = p.start; end = p.end; tail = p.tail })
  unfolding compiled planned meaning returning shows command timed insert_or_abort insert
  compiled_is p rows parsed statement formats stamps new = let f = h.found in let e = h.there in rw (parsed, statement, formats, f, e, new, stamps)

  from_text : (o : Checked Parsed) → first text ≡ o → IsInsert s table o from → Means s text (Insert at from)
  unfolding understood
  from_text (Err e) parsed it = elim it [ ]
  from_text (Ok p) parsed it = let c = compiled_is p (rows_of p.statement) parsed it.0 it.1 it.2 it.3 in (rw c, rw c (refl, refl))

pub insert_is : InsertLaw
insert_is s at table h text from is = from_text s at table h text from (first text) refl is
