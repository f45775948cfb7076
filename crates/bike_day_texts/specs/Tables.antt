-- The tables of a day.
use Rattle.std.specs.Prelude.{ℕ, List, if◌then◌else◌, Option, Some, None, codes}
use Rattle.std.specs.Str.{bytes_eq}
use Rattle.bike_day_texts.specs.declared.table.DayTable.{DayTable}
use Rattle.bike_day_texts.specs.declared.table.DayTable.TheVariants.{Entries, Rentals, Requests}

abbrev pub table_name : DayTable → List ℕ
table_name Entries = codes "entries"
table_name Rentals = codes "rentals"
table_name Requests = codes "requests"

-- the table of that name
unfoldable pub table_of : List ℕ → Option DayTable
table_of text =
    if bytes_eq text (codes "entries") then Some Entries else (
    if bytes_eq text (codes "rentals") then Some Rentals else (
    if bytes_eq text (codes "requests") then Some Requests else None))
