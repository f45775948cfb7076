-- A table that is looked for in a schema, whatever its place there and the number of its tree.
use Rattle.std.specs.Prelude.{◌≡◌, ℕ, List, false, Ok}
use Rattle.sqlite_schema.specs.declared.schema.Schema.{Schema}
use Rattle.sqlite_schema.specs.declared.schema.Table.{Table}
use Rattle.sqlite_resolve.specs.Compile.{table_defined_by}
use Rattle.sqlite.specs.Effect.{Database}
use Rattle.bike_sql.specs.Found.{IsPlainTable, with_tree}
use Rattle.bike_sql.specs.Has.{HasTable}
use Rattle.bike_sql.specs.Answer.{MeansQuery}
use Rattle.bike_sql.specs.Layout.{Layout, table_of}
use Rattle.bike_sql.specs.Stands.{is_referred_to}
use Rattle.bike_recognition.specs.Rowids.{rowids_query, AreApart}

-- The schema has the table in this tree, and no foreign key refers to it.
pub record HasUnreferred (s : Schema) (wanted : Table) (tree : ℕ) : Type 0 where
  pub at : ℕ
  pub has : HasTable s at (with_tree wanted tree)
  pub unreferred : is_referred_to s tree ≡ false

-- The schema has the table, which has columns and keys alone, and no foreign key refers to it.
pub record HasWanted (s : Schema) (wanted : Table) : Type 0 where
  pub plain : IsPlainTable wanted
  pub tree : ℕ
  pub there : HasUnreferred s wanted tree

-- The database has a table of this layout, to which no foreign key refers,
-- and its rowids are numbers and apart. Nothing is said of its key.
pub record Lies (db : Database) (layout : Layout) : Type 0 where
  pub at : ℕ
  pub tree : ℕ
  pub has : HasTable db.schema at (table_of layout tree)
  pub unreferred : is_referred_to db.schema tree ≡ false
  pub apart : AreApart (db.trees tree)

-- the CREATE TABLE makes a table of this layout
abbrev pub Defines : List ℕ → Layout → Type 0
Defines text layout = table_defined_by text ≡ Ok (table_of layout 0)

-- wherever a table of this layout stands, the text asks for its rowids
abbrev pub AsksRowidsOf : Layout → List ℕ → Type 0
AsksRowidsOf layout text =
    (s : Schema) (at tree : ℕ) → HasTable s at (table_of layout tree)
    → (names : List (List ℕ)) × MeansQuery s text (rowids_query tree) names
