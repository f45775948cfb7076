-- What the row that is looked up tells is how much was archived.
use Rattle.std.proofs.Common.{◌≡◌, ℕ, [], ◌∷◌, codes, take, Option, refl, sym, ap}
use Rattle.std.specs.Prelude.{unwrap_or}
use Rattle.sqlite_tied.specs.Compute.{everything}
use Rattle.bike_book.specs.Tables.{Tables, Books}
use Rattle.bike_book.specs.Rows.{number_value}
use Rattle.bike_schema.proofs.AnswerLemmas.{FindsIn, keyed_in}
use Rattle.bike_readings.specs.Readings.{books_read}
use Rattle.bike_readings.specs.ReadOff.{archived_of}
use Rattle.bike_readings.specs.Rules.{AreInOrder}
use Rattle.bike_readings.proofs.LedgerRows.{books_reading}
use Rattle.bike_judges.specs.Archived.{books_row_in, archived_in}
use Rattle.bike_judges.proofs.OneRow.{first_is}

pub finds_books : FindsIn (codes "SELECT * FROM books WHERE one = ?1") (number_value 1 ∷ []) books_row_in
unfolding everything
finds_books = keyed_in Books (λ tree. refl, refl) refl

-- the first row of books that spells something is row 1
pub archived_found : (t : Tables) → AreInOrder t → unwrap_or (archived_in (books_row_in t)) (0, 0, 0) ≡ archived_of t.books
archived_found t up = ap (λ (o : Option (ℕ × ℕ × ℕ)). unwrap_or o (0, 0, 0)) (sym (first_is books_read (λ r x is. ap (take 1) (books_reading.sound r x is).0) t.books (up Books)))
