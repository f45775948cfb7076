-- What a look at an opened database's schema tells of a wanted table.
use Rattle.std.specs.Prelude.{◌≡◌, ℕ, List, []}
use Rattle.std.specs.List.{AllByRecursion}
use Rattle.sqlite_value.specs.declared.value.Value.TheVariants.{Null}
use Rattle.sqlite_schema.specs.declared.schema.Column.{Column}
use Rattle.sqlite_schema.specs.declared.schema.Table.{Table}
use Rattle.sqlite_schema.specs.declared.schema.Schema.{Schema}
use Rattle.bike_sql.specs.Has.{HasTable}

abbrev pub HasNoDefaults : List Column → Type 0
HasNoDefaults = AllByRecursion (λ c. c.default ≡ Null)

-- columns and keys alone: no DEFAULT, CHECK, REFERENCES, and no column that reads the clock
pub record IsPlainTable (t : Table) : Type 0 where
  pub defaults : HasNoDefaults t.columns
  pub checks : t.checks ≡ []
  pub references : t.references ≡ []
  pub computed : t.computed ≡ []
  pub stamps : t.stamps ≡ record { places = []; terms = []; formats = [] }

-- the table with another tree
abbrev pub with_tree : Table → ℕ → Table
with_tree table tree = record table { tree = tree }

-- The schema has this table at this place, whatever the number of its tree.
abbrev pub StandsAt : Schema → Table → ℕ → Type 0
StandsAt s table at = (tree : ℕ) × HasTable s at (with_tree table tree)
