-- What a statement needs to know of the schema that it runs in: its tables are found there by their names.
use Rattle.std.specs.Prelude.{◌≡◌, ◌^◌, ◌==◌, ℕ, List, [], ◌∷◌, Some, find, slice_get, length, unwrap_or, nat_le, false}
use Rattle.std.specs.Prelude.{⊤}
use Rattle.sqlite_schema.specs.declared.schema.Table.{Table}
use Rattle.sqlite_schema.specs.declared.schema.Schema.{Schema}
use Rattle.sqlite_schema.specs.Names.{table_named}

-- The schema's first table of this table's name is this table, and stands at this place.
pub record HasTable (s : Schema) (at : ℕ) (table : Table) : Type 0 where
  -- its name finds the place
  pub found : table_named s table.name ≡ Some at
  -- at the place it stands
  pub there : slice_get s.tables at ≡ Some table
  -- the number of its tree finds it too, as the rules of types look it up
  pub by_tree : find (λ t. t.tree == table.tree) s.tables ≡ Some table
  -- the number is a stored tree's: those from 2^31 on are of tables that a statement computes
  pub stored : nat_le (2 ^ 31) table.tree ≡ false

-- Each of the tables stands at its place.
abbrev pub HaveTables : Schema → List ℕ → List Table → Type 0
HaveTables s [] [] = ⊤
HaveTables s (at ∷ ats) (t ∷ ts) = HasTable s at t × HaveTables s ats ts
HaveTables s [] (t ∷ ts) = ⊥
HaveTables s (at ∷ ats) [] = ⊥

-- the schema that has these tables and nothing else
abbrev pub of_tables : List Table → Schema
of_tables ts = record { tables = ts; indexes = []; views = [] }

-- where in the schema the table with this number among the statement's own stands
abbrev pub place : Schema → List ℕ → ℕ → ℕ
place s ats k = unwrap_or (slice_get ats k) (length s.tables)
