-- What DROP TABLE does to a database, wherever its table stands there.
use Rattle.std.specs.Prelude.{◌≡◌, ℕ, false, [], Ok, Err}
use Rattle.sqlite_ast.specs.declared.Statement.TheVariants as written
use Rattle.sqlite_syntax.specs.declared.statement.Parsed.{Parsed}
use Rattle.sqlite_resolve.specs.Scope.{Name}
use Rattle.sqlite_resolve.specs.Lowering.{Checked}
use Rattle.sqlite_catalog.specs.Change.{without_table, KeepsRows}
use Rattle.sqlite.specs.Effect.{Database, IsDatabase}
use Rattle.bike_sql.specs.Makes.{IsFree}
use Rattle.bike_sql.specs.Layout.{Layout}
use Rattle.bike_sql.specs.Stands.{is_same_text, Stands, Stays}

-- The text drops the table of this name, with no IF EXISTS.
abbrev pub IsDrop : Checked Parsed → Name → Type 0
IsDrop (Ok p) name = (p.statement ≡ written.DropTable false name) × (p.formats ≡ [])
IsDrop (Err e) name = ⊥

-- each table of another name stands as it did, with the rows that it had, at whatever place it stands now
abbrev pub OthersStay : Name → Database → Database → Type 0
OthersStay name old new =
    (keys : ℕ) (layout : Layout) → is_same_text layout.name name ≡ false → Stands old keys layout
    → Stays old new keys layout

-- The table of this name, in this tree, is gone with its indexes, and all else is as it was.
pub record Drops (name : Name) (tree : ℕ) (old new : Database) : Type 0 where
  -- the tables but for this one, the indexes but for those of this one, and the views
  pub schema : new.schema ≡ without_table old.schema tree
  -- each table that is left has its rows, whatever its columns and keys
  pub rows : KeepsRows new.schema.tables old.trees new.trees
  pub sound : IsDatabase new
  -- no table, view or index has the name
  pub free : IsFree new.schema name
  pub others : OthersStay name old new
