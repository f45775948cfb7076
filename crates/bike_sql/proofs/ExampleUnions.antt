-- A query of two parts over the example tables, in any schema that has these.
use Rattle.std.proofs.Common.{◌≡◌, ◌+◌, ◌^◌, ℕ, List, [], ◌∷◌, map, codes, pos, refl, true}
use Rattle.sqlite_value.specs.declared.value.Value.TheVariants.{Null, Int}
use Rattle.sqlite_value.specs.declared.keys.Collation.TheVariants.{Binary}
use Rattle.sqlite_sql.specs.Term.{lit, col}
use Rattle.sqlite_sql.specs.Query.{Query}
use Rattle.sqlite_sql.specs.declared.query.SetOp.TheVariants.{UnionAll}
use Rattle.sqlite_schema.specs.declared.schema.Schema.{Schema}
use Rattle.sqlite_schema.specs.declared.command.Command.TheVariants.{Select}
use Rattle.sqlite_schema.specs.declared.program.Table.{Table as Let}
use Rattle.sqlite_schema.specs.declared.program.Table.TheVariants.{Selected, Combined}
use Rattle.sqlite_schema.specs.Program.{let_in}
use Rattle.sqlite_typing.specs.Types.{accepts_program}
use Rattle.sqlite_tied.specs.Compute.{everything}
use Rattle.bike_sql.specs.Has.{HasTable, of_tables}
use Rattle.bike_sql.specs.Reads.{union_of, IsUnion}
use Rattle.bike_sql.specs.Laws.{Reads}
use Rattle.bike_sql.specs.Scans.{scan, no_limit, ascending}
use Rattle.bike_sql.proofs.ReadLaws.{union_is}
use Rattle.bike_sql.proofs.ExampleTables.{members, lockers}

module _ (s : Schema) (at tree bt tree2 : ℕ) (h : HasTable s at (members tree)) (k : HasTable s bt (lockers tree2)) where
  abbrev all_text : List ℕ
  all_text = codes "SELECT member, credit FROM members UNION ALL SELECT member, 0 FROM lockers ORDER BY 1, 2"

  -- the rows of each part, after a NULL in the place of the rowid, and then both
  abbrev all_parts : List Let
  all_parts =
      Selected (record (scan tree [] [] (lit Null ∷ col 1 0 ∷ col 1 2 ∷ []) no_limit) { collations = Binary ∷ [] })
      ∷ Selected (record (scan tree2 [] [] (lit Null ∷ col 1 3 ∷ lit (Int (pos 0)) ∷ []) no_limit) { collations = Binary ∷ [] })
      ∷ Combined UnionAll 0 1 3 (Binary ∷ Binary ∷ Binary ∷ []) ∷ []

  abbrev all_query : Query
  all_query = scan (2 ^ 31 + 2) [] (ascending 1 ∷ ascending 2 ∷ []) (col 1 1 ∷ col 1 2 ∷ []) no_limit

  all_union : IsUnion (union_of (of_tables (members tree ∷ lockers tree2 ∷ [])) all_text) all_parts all_query (codes "member" ∷ codes "credit" ∷ [])
  unfolding everything
  all_union = (refl, refl, refl)

  all_typed : accepts_program s (map let_in all_parts) all_query [] ≡ true
  all_typed = rw (h.stored, h.by_tree, k.stored, k.by_tree)

  pub all : Reads s all_text (Select (record { lets = all_parts; body = all_query }) (codes "member" ∷ codes "credit" ∷ []))
  all = union_is s (at ∷ bt ∷ []) (members tree ∷ lockers tree2 ∷ []) (h, (k, tt)) all_text all_parts all_query (codes "member" ∷ codes "credit" ∷ []) all_union all_typed
