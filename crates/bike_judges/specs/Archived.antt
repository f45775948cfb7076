-- The row that tells how much was archived, and what it tells.
use Rattle.std.specs.Prelude.{ℕ, [], ◌∷◌, Option, option_and_then}
use Rattle.sqlite_value.specs.Order.{Row}
use Rattle.bike_sql.specs.View.{row_with}
use Rattle.bike_book.specs.Tables.{Tables}
use Rattle.bike_book.specs.Rows.{number_value}
use Rattle.bike_readings.specs.Readings.{books_read}

-- row 1 of books, and the requests, entries and rentals that it spells
abbrev pub books_row_in : Tables → Option Row
books_row_in t = row_with 1 (number_value 1 ∷ []) t.books

abbrev pub archived_in : Option Row → Option (ℕ × ℕ × ℕ)
archived_in row = option_and_then books_read row
