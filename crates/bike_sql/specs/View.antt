-- A table as the list of its rows in the order of their keys, with no rowid, tree or index in it.
use Rattle.std.specs.Prelude.{◌≡◌, ◌&&◌, ℕ, zero, suc, true, not, List, [], ◌∷◌, map, filter, take, find, length}
use Rattle.std.specs.Prelude.{Option, None, is_some, option_map, unwrap_or, if◌then◌else◌}
use Rattle.std.specs.List.{range_with_len, list_any, list_all}
use Rattle.std.specs.declared.cmp.Ordering.{Ordering}
use Rattle.std.specs.declared.cmp.Ordering.TheVariants.{Equal}
use Rattle.std.specs.Ordering.{on, is_eq, is_lt}
use Rattle.sqlite_value.specs.declared.value.Value.{Value}
use Rattle.sqlite_value.specs.Order.{Row, column, value_cmp, row_cmp}
use Rattle.sqlite_sql.specs.Ops.{is_null}
use Rattle.sqlite_trees.specs.View.{is_int}
use Rattle.sqlite_trees.specs.Tree.{Trees, rowid, IsAscending}
use Rattle.sqlite_schema.specs.declared.schema.Table.{Table}
use Rattle.sqlite_schema.specs.Names.{place_of}
use Rattle.sqlite_rules.specs.Lists.{Has}
use Rattle.bike_sql.specs.Keyed.{put_in, in_order}

-- a stored row as its columns show it
abbrev pub columns_of : Table → Row → Row
columns_of table row = map (λ at. column row (place_of table at)) (range_with_len 0 (length table.columns))

-- the order of rows by their key, which is their first columns
abbrev pub by_key : ℕ → Row → Row → Ordering
by_key keys = on (take keys) row_cmp

-- the rows of a table in the order of their keys
abbrev pub rows_in : ℕ → Table → Trees → List Row
rows_in keys table trees = in_order (by_key keys) (map (columns_of table) (trees table.tree))

-- the row that has this key
abbrev pub row_with : ℕ → Row → List Row → Option Row
row_with keys key = find (λ row. is_eq (row_cmp (take keys row) key))

-- no row has the key of this one
abbrev pub IsFree : ℕ → Row → List Row → Type 0
IsFree keys row rows = row_with keys (take keys row) rows ≡ None

-- the rows with this one at its place, where it stands for the row with its key, if there is one
abbrev pub put_row_by : ℕ → Row → List Row → List Row
put_row_by keys = put_in (by_key keys)

-- the rows with this one in place of the row with its key, and unchanged if there is none
abbrev pub rows_after_replacement : ℕ → Row → List Row → List Row
rows_after_replacement keys row rows =
    if is_some (row_with keys (take keys row) rows) then put_row_by keys row rows else rows

-- the rows with what `change` makes of the row with this key in its place, and unchanged if there is none
abbrev pub rows_after_update : ℕ → Row → (Row → Row) → List Row → List Row
rows_after_update keys key change rows =
    unwrap_or (option_map (λ row. put_row_by keys (change row) rows) (row_with keys key rows)) rows

-- the rows without the one that has this key
abbrev pub rows_after_removal : ℕ → Row → List Row → List Row
rows_after_removal keys key = filter (λ row. not (is_eq (row_cmp (take keys row) key)))

-- the row with this value in this column
abbrev pub with_value : ℕ → Value → Row → Row
with_value at value [] = []
with_value zero value (v ∷ row) = value ∷ row
with_value (suc at) value (v ∷ row) = v ∷ with_value at value row

-- the row with each of these columns set to its value
abbrev pub with_values : List (ℕ × Value) → Row → Row
with_values [] row = row
with_values (set ∷ sets) row = with_values sets (with_value set.0 set.1 row)

-- no two stored rows have one rowid, wherever they stand
abbrev pub AreSpread : List Row → Type 0
AreSpread = IsAscending (λ a b. value_cmp (rowid a) (rowid b) ≡ Equal → ⊥)

-- each rowid is a number
abbrev pub AreNumbered : List Row → Type 0
AreNumbered rows = (r : Row) → Has rows r → is_int (rowid r) ≡ true

-- The first columns are a key: no two stored rows have one rowid, and none have one key.
pub record IsKeyed (keys : ℕ) (table : Table) (rows : List Row) : Type 0 where
  pub spread : AreSpread rows
  pub numbered : AreNumbered rows
  pub apart : (a b : Row) → Has rows a → Has rows b → by_key keys (columns_of table a) (columns_of table b) ≡ Equal
      → value_cmp (rowid a) (rowid b) ≡ Equal

-- the rows whose columns at these places have these values
abbrev pub rows_where : List ℕ → Row → List Row → List Row
rows_where columns values = filter (λ row. is_eq (row_cmp (map (column row) columns) values))

-- the rows whose columns at these places are NULL
abbrev pub rows_null : List ℕ → List Row → List Row
rows_null columns = filter (λ row. list_all is_null (map (column row) columns))

-- the rows whose first column is not below the one value, and below the other
abbrev pub rows_between : Value → Value → List Row → List Row
rows_between from to =
    filter (λ row. not (is_lt (value_cmp (column row 0) from)) && is_lt (value_cmp (column row 0) to))

-- the row whose key is the last, as a list of one; none of no rows
abbrev pub last_of : List Row → List Row
last_of [] = []
last_of (row ∷ []) = row ∷ []
last_of (row ∷ next ∷ rows) = last_of (next ∷ rows)

-- the row with this key, and none where a part of the key is NULL
abbrev pub partner : ℕ → Row → List Row → Option Row
partner keys key rows = if list_any is_null key then None else row_with keys key rows

-- LEFT JOIN: each row with its partner, the row of the other table that has its columns at these places as key
abbrev pub left_joined : (Row → Option Row → Row) → List ℕ → ℕ → List Row → List Row → List Row
left_joined show columns keys others = map (λ row. show row (partner keys (map (column row) columns) others))

-- two LEFT JOINs: each row with its partner in each of two other tables
abbrev pub twice_joined : (Row → Option Row → Option Row → Row) → List ℕ → ℕ → List Row → List ℕ → ℕ → List Row
    → List Row → List Row
twice_joined show columns keys others more_columns more_keys more_others =
    map (λ row. show row (partner keys (map (column row) columns) others)
    (partner more_keys (map (column row) more_columns) more_others))
