-- What the text of a DROP TABLE means in any schema that has its table.
use Rattle.std.proofs.Common.{◌≡◌, ◌⊎◌, inl, inr, ℕ, false, List, [], Option, Some, None, Ok, Err, refl}
use Rattle.std.proofs.lemmas.Bool.{cases_Bool}
use Rattle.sqlite_ast.specs.declared.Statement.TheVariants as written
use Rattle.sqlite_syntax.specs.declared.statement.Parsed.{Parsed}
use Rattle.sqlite_schema.specs.declared.schema.Schema.{Schema}
use Rattle.sqlite_schema.specs.declared.command.Command.{Command}
use Rattle.sqlite_schema.specs.declared.command.Command.TheVariants.{DropTable}
use Rattle.sqlite_schema.specs.Names.{table_named, view_named}
use Rattle.sqlite_resolve.specs.Scope.{Name}
use Rattle.sqlite_resolve.specs.Lowering.{Checked, and_then}
use Rattle.sqlite_resolve.specs.declared.error.CompileError.TheVariants.{Misuse}
use Rattle.sqlite_resolve.specs.Compile.{first, planned, meaning, returning, command, timed, compiled, drop_table, with_command, is_reserved}
use Rattle.sqlite.specs.Listing.{understood}
use Rattle.bike_sql.specs.Laws.{Means}
use Rattle.bike_sql.specs.Drops.{IsDrop}

module _ (s : Schema) (at : ℕ) (name : Name) (found : table_named s name ≡ Some at) where
  -- it drops the table, or is refused
  dropped_or_not : (drop_table s false name ≡ Err Misuse) ⊎ ((view_named s name ≡ None) × (drop_table s false name ≡ Ok (DropTable at)))
  unfolding drop_table
  dropped_or_not = elim (cases_Bool (is_reserved name)) [
    | inl reserved ↦ inl (rw reserved)
    | inr plain ↦ views plain (view_named s name) refl
  ]
    where
      views : is_reserved name ≡ false → (o : Option ℕ) → view_named s name ≡ o → (drop_table s false name ≡ Err Misuse) ⊎ ((view_named s name ≡ None) × (drop_table s false name ≡ Ok (DropTable at)))
      views plain (Some v) seen = inl (rw (plain, seen))
      views plain None unseen = inr (unseen, rw (plain, unseen, found))

  module _ (text : List ℕ) (p : Parsed) (parsed : first text ≡ Ok p) (statement : p.statement ≡ written.DropTable false name) (timeless : p.formats ≡ []) where
    compiled_as : (r : Checked Command) → drop_table s false name ≡ r → compiled s text ≡ and_then r (λ k. Ok (with_command p ([], (k, None))))
    unfolding compiled planned meaning returning command timed
    compiled_as (Ok k) is = rw (parsed, statement, is, timeless)
    compiled_as (Err e) is = rw (parsed, statement, is)

    understood_as : (Means s text (DropTable at) × (view_named s name ≡ None)) ⊎ (understood s text ≡ Err Misuse)
    unfolding understood
    understood_as = elim dropped_or_not [
      | inl refused ↦ inr (let c = compiled_as (Err Misuse) refused in rw c)
      | inr drops ↦ inl (let c = compiled_as (Ok (DropTable at)) drops.1 in ((rw c, rw c (refl, refl)), drops.0))
    ]

-- The text drops the table at its place, where no view has the name, or it is refused.
pub drop_means : (s : Schema) (at : ℕ) (name : Name) → table_named s name ≡ Some at → (text : List ℕ) → IsDrop (first text) name
    → (Means s text (DropTable at) × (view_named s name ≡ None)) ⊎ (understood s text ≡ Err Misuse)
drop_means s at name found text is = by (first text) refl is
  where
    by : (o : Checked Parsed) → first text ≡ o → IsDrop o name → (Means s text (DropTable at) × (view_named s name ≡ None)) ⊎ (understood s text ≡ Err Misuse)
    by (Err e) parsed it = absurd it
    by (Ok p) parsed it = understood_as s at name found text p parsed it.0 it.1
