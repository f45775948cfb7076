-- What is asked of the row of books: that something was archived, and what only all numbers and all riders together
-- tell.
use Rattle.std.specs.Prelude.{◌≡◌, ◌≤◌, ℕ, ℤ, pos, ◌+◌, ◌+ℤ◌, ◌&&◌, nat_le, Bool, false, Option, Some, None, option_map}
use Rattle.std.specs.Prelude.{unwrap_or}
use Rattle.std.specs.FinMap as fin
use Rattle.std.specs.Ordering.{int_eq}
use Rattle.sqlite_value.specs.Order.{Row}
use Rattle.sqlite.specs.Effect.{Database}
use Rattle.bike_operator.specs.declared.limits.TheConstants.{MOST_ENTRIES}
use Rattle.bike_operator.specs.Operator.{Operator, Past, last_number}
use Rattle.bike_operator.specs.Counts.{open_rentals}
use Rattle.bike_operator.specs.Sound.{befores}
use Rattle.bike_book.specs.Tables.{Books}
use Rattle.bike_schema.specs.Tables.{tables_of}
use Rattle.bike_readings.specs.Readings.{meta_read, books_read}
use Rattle.bike_readings.specs.ReadOff.{operator_of, archived_of, first_of}
use Rattle.bike_judges.specs.Verdicts.{EarlierGood}
use Rattle.bike_ledger_rules.specs.declared.books.EntryCount.{EntryCount}
use Rattle.bike_ledger_rules.specs.declared.books.BeforeSum.{BeforeSum}
use Rattle.bike_ledger_rules.specs.declared.books.MetaSums.{MetaSums}
use Rattle.bike_ledger_rules.specs.Riders.{line_rider}
use Rattle.bike_ledger_rules.specs.Sums.{with_read}

-- ---- what all rows come to

abbrev pub one_entry_more : EntryCount → Row → EntryCount
one_entry_more a row = record a { count = a.count + 1 }

-- of a line with the rider in front
abbrev pub with_before : BeforeSum → Row → BeforeSum
with_before a line = record a { sum = with_read (λ sum e. sum +ℤ e.1.before) a.sum (line_rider line) }

-- cash and revenue in the first row that spells them
abbrev pub with_meta : MetaSums → Row → MetaSums
with_meta a row = record a { found = first_of a.found (option_map (λ e. (e.2, e.3)) (meta_read row)) }

-- .. and 0 where none does
abbrev pub past_in : MetaSums → Past
past_in a =
    record { cash = (unwrap_or a.found (pos 0, pos 0)).0; revenue = (unwrap_or a.found (pos 0, pos 0)).1 }

-- ---- what is asked of them

-- The last entry and the open rentals together are as many as the last rental at least, and within their limit.
abbrev pub are_few : ℕ → ℕ → ℕ → Bool
are_few last_rental last_entry riding =
    nat_le last_rental (last_entry + riding) && nat_le (last_entry + riding) MOST_ENTRIES

-- what riders had and what was earned is what was paid in
abbrev pub adds_up : ℤ → Past → Bool
adds_up before past = int_eq (before +ℤ past.revenue) past.cash

abbrev pub is_conserved : Operator → Bool
is_conserved s = adds_up (befores (fin.entries s.riders)) s.past

abbrev pub are_numbers_few : Operator → Bool
are_numbers_few s = are_few (last_number s.rentals) (last_number s.entries) (open_rentals s)

-- all that is asked beside that something was archived
abbrev pub are_others : Operator → Bool
are_others s = are_numbers_few s && is_conserved s

-- so many requests, entries and rentals
abbrev pub total_of : ℕ × ℕ × ℕ → ℕ
total_of archived = archived.0 + archived.1 + archived.2

-- Where all tables before books are good and something was archived, the answer is that of the operator in them.
abbrev pub AnswersWhereArchived : (Operator → Bool) → Database → Bool → Type 0
AnswersWhereArchived test db answer =
    EarlierGood (tables_of db) Books → 1 ≤ total_of (archived_of (tables_of db).books)
    → answer ≡ test (operator_of (tables_of db))

-- ---- the row

-- something was archived, and the rest of what is asked of the row holds
abbrev pub books_hold : Bool → Option (ℕ × ℕ × ℕ) → Bool
books_hold others None = false
books_hold others (Some e) = nat_le 1 (total_of e) && others

abbrev pub books_test : Bool → ℕ → Row → Bool
books_test others before row = books_hold others (books_read row)
