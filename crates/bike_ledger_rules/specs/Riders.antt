-- Riders: what their entries and rentals come to, by their numbers, and what is asked of the line of each: its row
-- with the rider's own plan beside it.
use Rattle.std.specs.Prelude.{◌≡◌, ◌<◌, ℕ, ℤ, pos, ◌+◌, ◌+ℤ◌, ◌&&◌, max, nat_lt, int_le, Bool, true, false}
use Rattle.std.specs.Prelude.{if◌then◌else◌, List, [], ◌∷◌, Option, Some, None, is_some, option_map}
use Rattle.std.specs.Ordering.{int_eq}
use Rattle.sqlite_value.specs.Order.{Row, column}
use Rattle.sqlite_rules.specs.Lists.{Has}
use Rattle.bike_sql.specs.View.{partner}
use Rattle.bike_ledger.specs.Entries.{Entry}
use Rattle.bike_ledger.specs.Ledger.{credit}
use Rattle.bike_operator.specs.declared.limits.TheConstants.{MOST_RIDERS}
use Rattle.bike_operator.specs.declared.records.Rental.{Rental}
use Rattle.bike_operator.specs.Operator.{Rider}
use Rattle.bike_operator.specs.Counts.{is_open}
use Rattle.bike_book.specs.Tables.{Tables}
use Rattle.bike_book.specs.declared.columns.plans.TheConstants as plans
use Rattle.bike_book.specs.declared.columns.riders.TheConstants as riders
use Rattle.bike_readings.specs.Readings.{plan_read, rider_read, rental_read, entry_read}
use Rattle.bike_judges.specs.Lines.{part, with_one}
use Rattle.bike_judges.specs.Sums.{is_sum_of}
use Rattle.bike_ledger_rules.specs.declared.riders.RiderNumbers.{RiderNumbers}
use Rattle.bike_ledger_rules.specs.declared.riders.Balances.{Balances}
use Rattle.bike_ledger_rules.specs.declared.riders.OpenRides.{OpenRides}
use Rattle.bike_ledger_rules.specs.Sums.{sum_at, with_added, with_read}

-- ---- how far the numbers go

-- what the row of a rider spells, which stands in front in its line
abbrev pub line_rider : Row → Option (ℕ × Rider × ℤ)
line_rider line = rider_read (part 0 riders.COLUMNS line)

-- one more than the number, and 0 for a row that spells no rider
abbrev pub behind : Option (ℕ × Rider × ℤ) → ℕ
behind None = 0
behind (Some e) = e.0 + 1

abbrev pub with_number : RiderNumbers → Row → RiderNumbers
with_number a line = record a { end = max a.end (behind (line_rider line)) }

-- all riders that the rows spell have lesser numbers
abbrev pub AreBelow : ℕ → List Row → Type 0
AreBelow end rows = (row : Row) (e : ℕ × Rider × ℤ) → Has rows row → rider_read row ≡ Some e → e.0 < end

-- ---- sums and counts by the number of the rider

-- with what an entry adds to its rider's balance
abbrev pub with_credit : List ℤ → Entry → List ℤ
with_credit balances e = with_added balances e.rider (credit e.kind e.amount)

abbrev pub with_entry : Balances → Row → Balances
with_entry a row = record a { sums = with_read with_credit a.sums (entry_read row) }

-- with one more for the rider of an open rental
abbrev pub with_ride : List ℤ → Rental → List ℤ
with_ride rides r = with_added rides r.rider (if is_open r then pos 1 else pos 0)

abbrev pub with_rental : OpenRides → Row → OpenRides
with_rental a row = record a { counts = with_read with_ride a.counts (option_map (λ e. e.1) (rental_read row)) }

-- ---- the row of a rider

-- a row with the plan that it names beside it
abbrev pub rider_line : Tables → Row → Row
rider_line t row = with_one plans.COLUMNS row (partner 1 (column row riders.PLAN_ID ∷ []) t.plans)

-- the plan in the line is there, where the rider has one
abbrev pub has_own_plan : Option (List ℕ) → Row → Bool
has_own_plan None line = true
has_own_plan (Some id) line = is_some (plan_read (part riders.COLUMNS plans.COLUMNS line))

-- Of what was archived the rider has a sum that so many entries can come to, and
-- the stored balance is that with the sum of the entries that are there.
abbrev pub is_balanced : ℕ → ℤ → Rider → ℤ → Bool
is_balanced archived sum r balance = is_sum_of archived r.before && int_eq balance (r.before +ℤ sum)

-- .. and the rider has one open rental at most
abbrev pub account_holds : ℕ → List ℤ → List ℤ → ℕ × Rider × ℤ → Bool
account_holds archived balances rides e =
    is_balanced archived (sum_at balances e.0) e.1 e.2 && int_le (sum_at rides e.0) (pos 1)

-- There is room for the rider, whose own plan is there, and whose account holds.
abbrev pub rider_holds : ℕ → List ℤ → List ℤ → ℕ → Row → Option (ℕ × Rider × ℤ) → Bool
rider_holds archived balances rides before line None = false
rider_holds archived balances rides before line (Some e) =
    nat_lt before MOST_RIDERS && (has_own_plan e.1.plan line && account_holds archived balances rides e)

-- of a line before which so many stand, where so many entries were archived
abbrev pub rider_test : ℕ → List ℤ → List ℤ → ℕ → Row → Bool
rider_test archived balances rides before line = rider_holds archived balances rides before line (line_rider line)
