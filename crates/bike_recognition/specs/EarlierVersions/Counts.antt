-- The table `counts`, in which every earlier version has the bicycles at its stations by type. A type without a row has
-- none there, as has one with a row of 0 and 0.
use Rattle.std.specs.Prelude.{ℕ, List, [], ◌∷◌, codes, Option, Some, None, option_map, option_and_then}
use Rattle.sqlite_value.specs.declared.value.Value.{Value}
use Rattle.sqlite_value.specs.Order.{Row, column}
use Rattle.sqlite.specs.Effect.{Database}
use Rattle.bike_sql.specs.Layout.{Layout}
use Rattle.bike_sql.specs.Stands.{rows_of, Stands}
use Rattle.bike_sql.specs.View.{rows_where}
use Rattle.bike_book.specs.declared.by_type.TypeCounts.{TypeCounts}
use Rattle.bike_book.specs.declared.by_type.CountedType.{CountedType}
use Rattle.bike_book.specs.ByType.{with_first, by_type_text}
use Rattle.bike_schema.specs.Columns.{number_in, ident_in}
use Rattle.bike_schema.specs.Layouts.{text, number, keyed_layout}

abbrev pub counts_name : List ℕ
counts_name = codes "counts"

abbrev pub counts_layout : Layout
counts_layout = keyed_layout counts_name (1 ∷ 2 ∷ [])
    (text (codes "station_id") ∷ text (codes "type_id") ∷ number (codes "available") ∷ number (codes "disabled") ∷ [])

abbrev pub HasCounts : Database → Type 0
HasCounts db = Stands db 2 counts_layout

-- its rows, in the order of the stations and then of the types
abbrev pub old_counts : Database → List Row
old_counts = rows_of 2 counts_name

-- ---- what they tell

abbrev pub count_in : Value → Option ℕ
count_in = number_in 0 4294967295

abbrev pub type_counts : ℕ → ℕ → TypeCounts
type_counts available disabled = record { available = available; disabled = disabled }

abbrev pub counted_type : List ℕ → TypeCounts → CountedType
counted_type type_id counts = record { type_id = type_id; counts = counts }

-- the counts in a row
abbrev pub counts_read : Row → Option TypeCounts
counts_read row =
    option_and_then (λ available. option_map (type_counts available) (count_in (column row 3)))
    (count_in (column row 2))

-- the type with its counts that a row spells, or nothing
abbrev pub old_count_read : Row → Option CountedType
old_count_read row = option_and_then (λ counts. option_map (λ id. counted_type id counts) (ident_in (column row 1)))
    (counts_read row)

-- one of them in front of others, where its counts aren't 0 and 0
abbrev pub counted_first : CountedType → List CountedType → List CountedType
counted_first c = with_first c.type_id c.counts

-- the types that rows spell, or nothing where one of them spells none
abbrev pub old_types : List Row → Option (List CountedType)
old_types [] = Some []
old_types (row ∷ rows) =
    option_and_then (λ first. option_map (counted_first first) (old_types rows)) (old_count_read row)

-- the text of the types, and `?` where nothing is spelled
abbrev pub types_text : Option (List CountedType) → List ℕ
types_text None = codes "?"
types_text (Some types) = by_type_text types

-- of these rows of `counts` those of a station, of which this is the row
abbrev pub counts_of_station : List Row → Row → List Row
counts_of_station counts station = rows_where (0 ∷ []) (column station 0 ∷ []) counts

-- THE TEXT of the bicycles by type at the station
abbrev pub old_text : List Row → Row → List ℕ
old_text counts station = types_text (old_types (counts_of_station counts station))
