-- What is asked of the lines of entries: of each by itself, with its rental, and with the entries before it.
use Rattle.std.specs.Prelude.{◌≡◌, ℕ, ℤ, pos, ◌+◌, ◌-◌, ◌==◌, ◌&&◌, ◌||◌, nat_lt, nat_le, Bool, true, false}
use Rattle.std.specs.Prelude.{if◌then◌else◌, List, [], ◌∷◌, length, take, fold, Option, Some, None, option_map}
use Rattle.std.specs.Ordering.{int_eq}
use Rattle.sqlite_value.specs.Order.{Row, column}
use Rattle.bike_ledger.specs.Entries.{Entry}
use Rattle.bike_ledger.specs.declared.entry.EntryKind.{EntryKind}
use Rattle.bike_ledger.specs.declared.entry.EntryKind.TheVariants.{TopUp, Fare, Refund, Withdrawal, Charge, Credit}
use Rattle.bike_operator.specs.declared.limits.TheConstants.{MOST_ENTRIES}
use Rattle.bike_operator.specs.declared.records.Rental.{Rental}
use Rattle.bike_operator.specs.declared.records.Closing.{Closing}
use Rattle.bike_operator.specs.Counts.{is_open, open_rentals}
use Rattle.bike_operator.specs.Sound.{is_fare}
use Rattle.bike_sql.specs.View.{partner}
use Rattle.bike_book.specs.Tables.{Tables}
use Rattle.bike_book.specs.declared.columns.rentals.TheConstants as rentals
use Rattle.bike_book.specs.declared.columns.entries.TheConstants as entries
use Rattle.bike_readings.specs.Readings.{rental_read, entry_read}
use Rattle.bike_readings.specs.ReadOff.{operator_of}
use Rattle.bike_judges.specs.Lines.{part, with_one}
use Rattle.bike_ledger_rules.specs.declared.open_rentals.RentalCount.{RentalCount}
use Rattle.bike_ledger_rules.specs.Known.{has_rider}
use Rattle.bike_ledger_rules.specs.Sums.{sum_at, with_added, with_read}

-- ---- how many rentals there are

-- 1 for an open rental
abbrev pub one_open : Option (ℕ × Rental × ℤ) → ℕ
one_open None = 0
one_open (Some e) = if is_open e.1 then 1 else 0

abbrev pub one_rental_more : RentalCount → Row → RentalCount
one_rental_more a row = record a { next = a.next + 1; riding = a.riding + one_open (rental_read row) }

-- all rentals that are there are counted, from 1
pub record IsRentalCount (t : Tables) (n : RentalCount) : Type 0 where
  pub next_is : n.next ≡ length t.rentals + 1
  pub riding_is : n.riding ≡ open_rentals (operator_of t)

-- ---- an entry by itself

-- Of so many entries before it, archived ones included, it is the next one, there is room
-- for it beside the open rentals, its rider is there, and it isn't after the last moment.
abbrev pub is_next : (ℕ → Bool) → ℕ → ℕ → ℕ → Entry → Bool
is_next riders now riding before e =
    (e.number == before + 1) && (nat_lt (before + riding) MOST_ENTRIES && (riders e.rider && nat_le e.at now))

-- ---- an entry with its rental

-- a fare is what the rental was closed at
abbrev pub is_paid : EntryKind → ℤ → Closing → Bool
is_paid TopUp amount c = true
is_paid Fare amount c = int_eq amount c.fare
is_paid Refund amount c = true
is_paid Withdrawal amount c = true
is_paid Charge amount c = true
is_paid Credit amount c = true

abbrev pub is_closed_for : EntryKind → ℤ → Option Closing → Bool
is_closed_for kind amount None = false
is_closed_for kind amount (Some c) = is_paid kind amount c

-- a closed rental of the rider
abbrev pub is_of : EntryKind → Entry → Option Rental → Bool
is_of kind e None = false
is_of kind e (Some r) = (r.rider == e.rider) && is_closed_for kind e.amount r.closing

-- .. or one of so many that were archived
abbrev pub is_of_rental : ℕ → EntryKind → Entry → Option Rental → Bool
is_of_rental archived kind e r = nat_le e.rental archived || is_of kind e r

-- a fare and a refund have one
abbrev pub is_booked : ℕ → EntryKind → Entry → Option Rental → Bool
is_booked archived TopUp e r = true
is_booked archived Fare e r = is_of_rental archived Fare e r
is_booked archived Refund e r = is_of_rental archived Refund e r
is_booked archived Withdrawal e r = true
is_booked archived Charge e r = true
is_booked archived Credit e r = true

-- the rental in the line
abbrev pub line_rental : Row → Option Rental
line_rental line = option_map (λ r. r.1) (rental_read (part entries.COLUMNS rentals.COLUMNS line))

abbrev pub entry_line : Tables → Row → Row
entry_line t row = with_one rentals.COLUMNS row (partner 1 (column row 3 ∷ []) t.rentals)

-- ---- an entry with those before it

-- one more of its rental, where it is a fare; the fares of all archived rentals stand in place 0
abbrev pub with_fare : ℕ → List ℤ → Entry → List ℤ
with_fare archived fares e = with_added fares (e.rental - archived) (if is_fare e.kind then pos 1 else pos 0)

abbrev pub with_fares : ℕ → List ℤ → List Row → List ℤ
with_fares archived = fold (λ fares row. with_read (with_fare archived) fares (entry_read row))

-- its rental was archived or had no fare, where it is one
abbrev pub is_first : ℕ → List ℤ → Entry → Bool
is_first archived fares e =
    if is_fare e.kind then nat_le e.rental archived || int_eq (sum_at fares (e.rental - archived)) (pos 0) else true

-- ---- all that is asked of an entry

-- where so many rentals are open, and so many were archived
module _ (riders : ℕ → Bool) (now riding archived : ℕ) where
  abbrev pub passes : List ℤ → ℕ → Row → Option Entry → Bool
  passes fares before line None = false
  passes fares before line (Some e) =
      is_next riders now riding before e
      && (is_booked archived e.kind e (line_rental line) && is_first archived fares e)

  -- of the entry in a line with its rental, before which so many stand with these fares
  abbrev pub entry_holds : List ℤ → ℕ → Row → Bool
  entry_holds fares before line = passes fares before line (entry_read (part 0 entries.COLUMNS line))

  -- the key of the first line of which it doesn't hold
  abbrev pub first_bad : List ℤ → ℕ → List Row → Option Row
  first_bad fares before [] = None
  first_bad fares before (line ∷ lines) =
      if entry_holds fares before line
      then first_bad (with_read (with_fare archived) fares (entry_read (part 0 entries.COLUMNS line))) (before + 1)
      lines
      else Some (take 1 line)

-- of a row behind so many entries, archived ones included, and of these rows
abbrev pub row_holds : ℕ → ℕ → List ℤ → Tables → ℕ → List Row → Row → Bool
row_holds now riding none t before rows row =
    entry_holds (has_rider t) now riding (operator_of t).rentals.archived
    (with_fares (operator_of t).rentals.archived none rows) before (entry_line t row)

-- THE RULE of a row of entries, before which so many rows stand
abbrev pub entry_test : ℕ → ℕ → List ℤ → Tables → ℕ → Row → Bool
entry_test now riding none t before row =
    row_holds now riding none t ((operator_of t).entries.archived + before) (take before t.entries) row
