-- The rows of the old tables, above all of those of stations.
use Rattle.std.specs.Prelude.{◌≡◌, ◌==◌, if◌then◌else◌, ℕ, ◌<◌, pos, int_le, Bool, true, false, List, [], ◌∷◌, map}
use Rattle.std.specs.Prelude.{length, take, slice_get}
use Rattle.std.specs.Prelude.{Option, Some, None}
use Rattle.std.specs.List.{range_with_len, list_all, zip}
use Rattle.sqlite_value.specs.declared.value.Value.{Value}
use Rattle.sqlite_value.specs.declared.value.Value.TheVariants.{Null, Int, Text}
use Rattle.sqlite_value.specs.Order.{Row, column}
use Rattle.sqlite_rules.specs.Lists.{Has}
use Rattle.sqlite_schema.specs.declared.schema.Kind.{Kind}
use Rattle.sqlite_schema.specs.declared.schema.Kind.TheVariants.{Integer, Text as Words}
use Rattle.bike_sql.specs.Answer.{HasOneAnswer}
use Rattle.bike_sql.specs.Layout.{Layout}
use Rattle.bike_sql.specs.Stands.{rows_of, Stands}
use Rattle.bike_book.specs.Tables.{Stations}
use Rattle.bike_book.specs.declared.columns.stations.TheConstants as stations
use Rattle.bike_schema.specs.Layouts.{layout_of}
use Rattle.sqlite.specs.Effect.{Database}
use Rattle.bike_recognition.specs.declared.earlier_versions.earlier.TheConstants.{MOST_DOCKS_BEFORE}
use Rattle.bike_recognition.specs.EarlierVersions.Earlier.{completed}

-- what stands in a column of the row with this text
abbrev pub value_with_text : List ℕ → Row → ℕ → Value
value_with_text text row at = if at == stations.BY_TYPE then Text text else column row at

-- what a column of the kind may hold
abbrev pub may_hold : Kind → Value → Bool
may_hold Integer Null = true
may_hold Integer (Int n) = true
may_hold Words Null = true
may_hold Words (Text text) = true
may_hold _ _ = false

-- each column of the row holds what one of its kind may hold
abbrev pub has_kinds : Row → List Kind → Bool
has_kinds row kinds =
    list_all (λ (x : ℕ × Kind). may_hold x.1 (column row x.0)) (zip (range_with_len 0 (length kinds)) kinds)

-- each column of it holds what it may hold in the newest table
abbrev pub IsStationRow : Row → Type 0
IsStationRow row = has_kinds row (map (λ c. c.kind) (layout_of Stations).columns) ≡ true

-- each column of a row of the old `riders` holds what it may hold in the newest table
abbrev pub IsRiderRow : Row → Type 0
IsRiderRow row = has_kinds row (Integer ∷ Integer ∷ Integer ∷ []) ≡ true

-- each column of a row of `kept` holds what it may hold in the newest table
abbrev pub IsRequestRow : Row → Type 0
IsRequestRow row = has_kinds row (Words ∷ Words ∷ Words ∷ Words ∷ []) ≡ true

-- These are the rows as they are copied beside some rows of `counts`, each under the key that it had.
pub record AreCopies (rows copies : List Row) : Type 0 where
  pub counts : List Row
  pub are : map (completed counts) rows ≡ copies
  pub keyed : (row : Row) → Has rows row → take 1 (completed counts row) ≡ take 1 row

-- wherever a table of the layout stands, the text asks for all its rows
abbrev pub AsksRows : Layout → List ℕ → Type 0
AsksRows layout text = (db : Database) → Stands db 1 layout → HasOneAnswer db text [] (rows_of 1 layout.name db)

-- ---- the bound of docks at an earlier version

abbrev pub is_few : Value → Bool
is_few (Int n) = int_le n (pos MOST_DOCKS_BEFORE)
is_few _ = true

-- the station has no more docks
abbrev pub has_few : Row → Bool
has_few row = is_few (column row 4)

-- The row at this place is the first that has more.
pub record IsFirstOver (rows : List Row) (row : Row) : Type 0 where
  pub at : ℕ
  pub there : slice_get rows at ≡ Some row
  pub over : has_few row ≡ false
  pub before : (k : ℕ) (other : Row) → k < at → slice_get rows k ≡ Some other → has_few other ≡ true

-- no station has more, or this is the first that has
abbrev pub IsOver : List Row → Option Row → Type 0
IsOver rows None = (k : ℕ) (other : Row) → slice_get rows k ≡ Some other → has_few other ≡ true
IsOver rows (Some row) = IsFirstOver rows row
