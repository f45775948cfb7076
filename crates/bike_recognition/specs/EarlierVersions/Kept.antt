-- The table `kept`, in which every earlier version has its accepted requests. It tells no order but that of its rowids,
-- and no moments.
use Rattle.std.specs.Prelude.{ℕ, Bool, true, false, List, [], ◌∷◌, map, codes, None, slice_get, option_map}
use Rattle.std.specs.Prelude.{option_and_then, unwrap_or}
use Rattle.std.specs.Ordering.{on}
use Rattle.sqlite_value.specs.Order.{Row, column, value_cmp}
use Rattle.sqlite_trees.specs.Tree.{rowid}
use Rattle.sqlite_schema.specs.declared.schema.Column.{Column}
use Rattle.sqlite_schema.specs.Names.{table_named}
use Rattle.sqlite.specs.Effect.{Database}
use Rattle.bike_sql.specs.Keyed.{in_order}
use Rattle.bike_sql.specs.Layout.{Layout}
use Rattle.bike_book.specs.Rows.{number_value}
use Rattle.bike_book.specs.Stored.{numbers_from}
use Rattle.bike_schema.specs.Layouts.{text, keyed_layout}
use Rattle.bike_recognition.specs.Wanted.{Lies}

-- ---- its two layouts

abbrev pub kept_name : List ℕ
kept_name = codes "kept"

abbrev pub kept_columns : List Column
kept_columns = text (codes "caller") ∷ text (codes "req_key") ∷ text (codes "command") ∷ text (codes "reply") ∷ []

-- with a PRIMARY KEY, as it was made at first
abbrev pub keyed_kept : Layout
keyed_kept = keyed_layout kept_name (1 ∷ 2 ∷ []) kept_columns

-- and with none: nothing keeps two of its rows from having one caller and key
abbrev pub plain_kept : Layout
plain_kept =
    record { name = kept_name; columns = kept_columns; key = None; primary = []; uniques = []; orders = [] }

-- with a PRIMARY KEY, or with none
abbrev pub kept_layout : Bool → Layout
kept_layout true = keyed_kept
kept_layout false = plain_kept

-- It lies in the database in one of them, whether two of its rows have one caller and key or not.
pub record KeptLies (db : Database) : Type 0 where
  pub keyed : Bool
  pub lies : Lies db (kept_layout keyed)

-- ---- its rows

-- a stored row, whose rowid is at place 0, as its columns show it
abbrev pub kept_row : Row → Row
kept_row row = map (column row) (1 ∷ 2 ∷ 3 ∷ 4 ∷ [])

-- of these stored rows, in the order of their rowids
abbrev pub shown_kept : List Row → List Row
shown_kept rows = map kept_row (in_order (on rowid value_cmp) rows)

-- THE ROWS of the database's `kept`, in the order of their rowids; none if there is no such table
abbrev pub kept_rows : Database → List Row
kept_rows db =
    unwrap_or (option_map (λ table. shown_kept (db.trees table.tree))
    (option_and_then (slice_get db.schema.tables) (table_named db.schema kept_name))) []

-- ---- as rows of today

-- the row of `history` with this number: of moment 0
abbrev pub past_row : ℕ × Row → Row
past_row e = number_value e.0 ∷ number_value 0 ∷ e.1

-- the rows of `kept` as those of `history`, numbered from 1
abbrev pub history_rows : List Row → List Row
history_rows rows = map past_row (numbers_from 1 rows)
