-- What is asked of a rental: of what it names, of how it ended, and of what its entries come to.
use Rattle.std.specs.Prelude.{◌≡◌, ◌≤◌, ℕ, ℤ, pos, suc, ◌+◌, ◌-◌, ◌==◌, ◌&&◌, ◌||◌, nat_le, int_le, Bool, true, false}
use Rattle.std.specs.Prelude.{if◌then◌else◌, List, length, Option, Some, None}
use Rattle.std.specs.Ordering.{int_eq}
use Rattle.sqlite_value.specs.Order.{Row}
use Rattle.bike_ledger.specs.Entries.{Entry}
use Rattle.bike_ledger.specs.Ledger.{given_back, refunded_of}
use Rattle.bike_operator.specs.declared.records.Rental.{Rental}
use Rattle.bike_operator.specs.declared.records.Closing.{Closing}
use Rattle.bike_operator.specs.Counts.{is_open}
use Rattle.bike_operator.specs.Sound.{fares_of, most_refunded}
use Rattle.bike_readings.specs.Readings.{rental_read, entry_read}
use Rattle.bike_readings.specs.ReadOff.{operator_of}
use Rattle.bike_book.specs.Tables.{Tables}
use Rattle.bike_ledger_rules.specs.declared.rental_entries.RentalEntries.{RentalEntries}
use Rattle.bike_ledger_rules.specs.declared.known.Names.{Names}
use Rattle.bike_ledger_rules.specs.Entries.{with_fare}
use Rattle.bike_ledger_rules.specs.Known.{Known, known_in, held_in}
use Rattle.bike_ledger_rules.specs.Sums.{sum_at, with_added, with_read}

-- ---- what it names

-- in this rental
abbrev pub is_in : ℕ → Option ℕ → Bool
is_in number None = false
is_in number (Some rental) = rental == number

-- the bicycle is there, and where the rental is open it is in it
abbrev pub is_out : ℕ → Rental → Option (Option ℕ) → Bool
is_out number r None = false
is_out number r (Some rental) = if is_open r then is_in number rental else true

-- its rider, its plan, the station where it began and its bicycle are there
abbrev pub names_test : Known → ℕ × Rental × ℤ → Bool
names_test known e =
    (known.riders e.1.rider && known.plans e.1.plan)
    && (known.stations e.1.from_station && is_out e.0 e.1 (known.bikes e.1.bike))

-- ---- how it ended

abbrev pub is_stop : (List ℕ → Bool) → Option (List ℕ) → Bool
is_stop stations None = true
is_stop stations (Some station) = stations station

-- it ended no earlier than it began, by now, and at a station that is there
abbrev pub closes : (List ℕ → Bool) → ℕ → ℕ → Option Closing → Bool
closes stations now start None = true
closes stations now start (Some c) = nat_le start c.finish && (nat_le c.finish now && is_stop stations c.to_station)

abbrev pub ends_test : (List ℕ → Bool) → ℕ → ℕ × Rental × ℤ → Bool
ends_test stations now e = nat_le e.1.start now && closes stations now e.1.start e.1.closing

-- ---- what its entries come to

-- A closed rental has a fare, what is stored as refunded is the sum of its refunds, and that is its fare at most.
abbrev pub is_booked : ℤ → ℤ → Rental → ℤ → Bool
is_booked fares refunded r stored =
    (is_open r || int_le (pos 1) fares) && (int_eq stored refunded && int_le refunded (most_refunded r.closing))

-- of so many rentals before it, archived ones included, it is the next one, and it is booked with the fares and refunds
-- of its number
abbrev pub books_test : (ℕ → ℤ) → (ℕ → ℤ) → ℕ → ℕ × Rental × ℤ → Bool
books_test fares refunds before e = (e.0 == before + 1) && is_booked (fares e.0) (refunds e.0) e.1 e.2

-- how many fares a rental has in the ledger, and what was refunded of it
abbrev pub fare_count : Tables → ℕ → ℤ
fare_count t number = pos (length (fares_of number (operator_of t).entries.items))

abbrev pub refund_sum : Tables → ℕ → ℤ
refund_sum t number = refunded_of number (operator_of t).entries.items

-- ---- all of it

abbrev pub passes : Known → ℕ → (ℕ → ℤ) → (ℕ → ℤ) → ℕ → Option (ℕ × Rental × ℤ) → Bool
passes known now fares refunds before None = false
passes known now fares refunds before (Some e) =
    names_test known e && (ends_test known.stations now e && books_test fares refunds before e)

-- THE RULE of a row of rentals, before which so many rows stand
abbrev pub rental_test : ℕ → Tables → ℕ → Row → Bool
rental_test now t before row =
    passes (known_in t) now (fare_count t) (refund_sum t) ((operator_of t).rentals.archived + before) (rental_read row)

-- what is held in memory of a rental's fares and refunds, at its place behind those that were archived
abbrev pub fares_held : RentalEntries → ℕ → ℤ
fares_held a number = sum_at a.fares (number - a.archived)

abbrev pub refunds_held : RentalEntries → ℕ → ℤ
refunds_held a number = sum_at a.refunds (number - a.archived)

-- the same by what is held in memory
abbrev pub held_test : ℕ → Names → RentalEntries → ℕ → Row → Bool
held_test now names a before row =
    passes (held_in names) now (fares_held a) (refunds_held a) (a.archived + before) (rental_read row)

-- ---- the sums of entries

-- one more entry, in the sums of its rental; what was archived stands in place 0
abbrev pub with_entry : RentalEntries → Entry → RentalEntries
with_entry a e = record a {
  fares = with_fare a.archived a.fares e;
  refunds = with_added a.refunds (e.rental - a.archived) (given_back e.kind e.amount);
}

abbrev pub with_line : RentalEntries → Row → RentalEntries
with_line a line = with_read with_entry a (entry_read line)

-- the sums are those of the ledger, for each number that a good rental has
pub record AreSums (t : Tables) (a : RentalEntries) : Type 0 where
  pub archived_is : a.archived ≡ (operator_of t).rentals.archived
  pub fares : (below : ℕ) → suc below ≤ length t.rentals
      → sum_at a.fares (suc below) ≡ fare_count t (a.archived + suc below)
  pub refunds : (below : ℕ) → suc below ≤ length t.rentals
      → sum_at a.refunds (suc below) ≡ refund_sum t (a.archived + suc below)
