-- What stands next in byte order of identifiers, or of languages.
use Rattle.std.specs.Prelude.{◌≡◌, ℕ, ℤ, Bool, not, List, [], ◌∷◌, ◌++◌, find, slice_get, Option, Some, None}
use Rattle.std.specs.Prelude.{option_map}
use Rattle.std.specs.Ordering.{is_lt}
use Rattle.std.specs.FinMap.{FinMap, entries}
use Rattle.sqlite_value.specs.declared.value.Value.TheVariants.{Text}
use Rattle.sqlite_value.specs.declared.value.Value.{Value}
use Rattle.sqlite_value.specs.Order.{Row, column, value_cmp}
use Rattle.bike_operator.specs.Operator.{Operator, Station, text_cmp}
use Rattle.bike_book.specs.Rows.{station_row}
use Rattle.bike_feed_texts.specs.Trees.{names_by_language}
use Rattle.bike_operator.specs.declared.station_info.StationInfo.{StationInfo}

-- the first entry whose identifier comes after this one, or the first of all
abbrev pub first_after : {V : Type 0} → Option (List ℕ) → FinMap text_cmp V → Option (List ℕ × V)
first_after None m = slice_get (entries m) 0
first_after (Some id) m = find (λ e. is_lt (text_cmp id e.0)) (entries m)

-- the text from which a walk goes on: no text lies between one and the same with a byte 0 behind it
abbrev pub start_after : Option (List ℕ) → List ℕ
start_after None = []
start_after (Some text) = text ++ 0 ∷ []

-- the value isn't below the text
abbrev pub is_from : List ℕ → Value → Bool
is_from start v = not (is_lt (value_cmp v (Text start)))

-- the first column isn't
abbrev pub begins_from : List ℕ → Row → Bool
begins_from start row = is_from start (column row 0)

-- the entry's value was answered, and that has the entry's identifier; or there is no entry
abbrev pub IsNext : {V : Type 0} → (V → List ℕ) → Option (List ℕ × V) → Option V → Type 0
IsNext id None None = Unit {0}
IsNext id (Some e) (Some x) = (x ≡ e.1) × (id x ≡ e.0)
IsNext id None (Some x) = ⊥
IsNext id (Some e) None = ⊥

-- a station as the operator keeps it
abbrev pub station_of : StationInfo → Station
station_of x = record {
  row = x.station;
  is_installed = x.is_installed;
  is_renting = x.is_renting;
  is_returning = x.is_returning;
  reported = x.reported;
  region = x.region;
}

-- the row is that of the station, whatever its docks' numbers and its bicycles by type
pub record HoldsStation (row : Row) (x : Station) : Type 0 where
  pub free : ℤ
  pub broken : ℕ
  pub by_type : List ℕ
  pub is : row ≡ station_row x.row.station_id x free broken by_type

-- ---- languages

-- the first language of further names after this one, or the first of all
abbrev pub next_language : Option (List ℕ) → Operator → Option (List ℕ)
next_language after s = option_map (λ e. e.0) (first_after after (names_by_language s))

-- a language in a row of its own
abbrev pub language_row : List ℕ → Row
language_row language = Text language ∷ []
