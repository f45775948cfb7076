-- What a change of a database leaves as it was.
use Rattle.std.specs.Prelude.{◌≡◌, ℕ, Bool, false, List}
use Rattle.std.specs.List.{list_any}
use Rattle.sqlite_schema.specs.declared.schema.Table.{Table}
use Rattle.sqlite_schema.specs.declared.schema.Index.{Index}
use Rattle.sqlite_rules.specs.Lists.{Has}
use Rattle.sqlite.specs.Effect.{Database}
use Rattle.bike_sql.specs.Has.{HasTable}
use Rattle.bike_sql.specs.Stands.{is_same_text}

-- The table is there as it was, whatever its columns, keys and rules, with the rows and the indexes that it had.
pub record IsSpared (old new : Database) (t : Table) : Type 0 where
  pub at : ℕ
  pub has : HasTable new.schema at t
  pub rows : new.trees t.tree ≡ old.trees t.tree
  pub indexes : (i : Index) → Has old.schema.indexes i → i.table ≡ t.tree → Has new.schema.indexes i

-- the name is one of these
abbrev pub is_among : List (List ℕ) → List ℕ → Bool
is_among names name = list_any (is_same_text name) names

-- EACH TABLE BUT THOSE OF THESE NAMES IS SPARED, and each view.
pub record Spares (names : List (List ℕ)) (old new : Database) : Type 0 where
  pub tables : (at : ℕ) (t : Table) → HasTable old.schema at t → is_among names t.name ≡ false → IsSpared old new t
  pub views : new.schema.views ≡ old.schema.views
