-- The newest rental of a rider, and where it tells if he is riding.
use Rattle.std.specs.Prelude.{◌≡◌, ◌≤◌, ◌==◌, ◌&&◌, ℕ, nat_lt, true, Option, Some, None, fold, find}
use Rattle.std.specs.Prelude.{option_map, if◌then◌else◌}
use Rattle.sqlite_value.specs.Order.{Row, column}
use Rattle.bike_operator.specs.declared.records.Rental.{Rental}
use Rattle.bike_operator.specs.Operator.{Operator, item_numbered}
use Rattle.bike_operator.specs.Counts.{is_open}
use Rattle.bike_book.specs.Rows.{number_value}
use Rattle.bike_book.specs.Stored.{with_numbers}
use Rattle.bike_book.specs.Found.{open_rental}
use Rattle.bike_office_reads.specs.declared.newest.Ride.{Ride}

-- An open rental is its rider's newest: none of his has a greater number. So it is
-- where the program made every rental. A sound file from elsewhere may hold another.
abbrev pub NewestTells : Operator → Type 0
NewestTells s =
    (a b : ℕ) (q r : Rental) → item_numbered a s.rentals ≡ Some q → item_numbered b s.rentals ≡ Some r
    → is_open q ≡ true → r.rider ≡ q.rider → b ≤ a

-- the rental, or an earlier one of the rider's
abbrev pub later_of : ℕ → Option (ℕ × Rental) → ℕ × Rental → Option (ℕ × Rental)
later_of rider so_far e = if e.1.rider == rider then Some e else so_far

-- the last of the rider's rentals, with its number
abbrev pub newest_rental : Operator → ℕ → Option (ℕ × Rental)
newest_rental s rider = fold (later_of rider) None (with_numbers s.rentals)

-- its number, where it is open
abbrev pub number_if_open : ℕ × Rental → Option ℕ
number_if_open e = if is_open e.1 then Some e.0 else None

abbrev pub open_number_in : Option (ℕ × Rental) → Option ℕ
open_number_in None = None
open_number_in (Some e) = number_if_open e

abbrev pub newest_open : Operator → ℕ → Option ℕ
newest_open s rider = open_number_in (newest_rental s rider)

-- the number of the rider's open rental
abbrev pub open_number : Operator → ℕ → Option ℕ
open_number s rider = option_map (λ e. e.0) (open_rental s rider)

-- its number, and 0 where he has none
abbrev pub number_in : Option (ℕ × Rental) → ℕ
number_in None = 0
number_in (Some e) = e.0

abbrev pub newest_number : Operator → ℕ → ℕ
newest_number s rider = number_in (newest_rental s rider)

-- the first open rental of a greater number
abbrev pub open_after : Operator → ℕ → Option (ℕ × Rental)
open_after s number = find (λ e. nat_lt number e.0 && is_open e.1) (with_numbers s.rentals)

-- its number, and who rides
abbrev pub ride_of : ℕ × Rental → Ride
ride_of e = record { number = e.0; rider = e.1.rider }

-- the row is that of the rental with this number, or neither is there
abbrev pub HoldsRental : Option Row → Option ℕ → Type 0
HoldsRental None None = Unit {0}
HoldsRental (Some row) (Some rental) = column row 0 ≡ number_value rental
HoldsRental None (Some rental) = ⊥
HoldsRental (Some row) None = ⊥
