-- What lies in a span of time, by number. Nothing that was archived is found.
use Rattle.std.specs.Prelude.{◌&&◌, ℕ, List, Bool, false, not, nat_lt, find, Option, Some, None, option_map}
use Rattle.bike_ledger.specs.Entries.{Entry}
use Rattle.bike_ledger.specs.Ledger.{refunded_of}
use Rattle.bike_operator.specs.declared.records.Rental.{Rental}
use Rattle.bike_operator.specs.declared.records.Closing.{Closing}
use Rattle.bike_operator.specs.Operator.{Operator}
use Rattle.bike_book.specs.Stored.{with_numbers}
use Rattle.bike_operator.specs.declared.rental_info.RentalInfo.{RentalInfo}
use Rattle.bike_queries.specs.Infos.{rental_info}

-- the moment is the begin or later, and before the end
abbrev pub lies_in : ℕ → ℕ → ℕ → Bool
lies_in begin end at = not (nat_lt at begin) && nat_lt at end

-- the first entry of a later number that lies in the span
abbrev pub entry_after : Operator → ℕ → ℕ → ℕ → Option Entry
entry_after s number begin end = find (λ e. nat_lt number e.number && lies_in begin end e.at) s.entries.items

-- ---- rentals

-- it ended in the span
abbrev pub ends_in : ℕ → ℕ → Option Closing → Bool
ends_in begin end None = false
ends_in begin end (Some c) = lies_in begin end c.finish

-- the first rental of a later number that ended in the span
abbrev pub ended_after : Operator → ℕ → ℕ → ℕ → Option (ℕ × Rental)
ended_after s number begin end = find (λ e. nat_lt number e.0 && ends_in begin end e.1.closing) (with_numbers s.rentals)

-- its number, and what is shown of it
abbrev pub ended_info : List Entry → ℕ × Rental → ℕ × RentalInfo
ended_info entries e = (e.0, rental_info (refunded_of e.0 entries) e.1)

abbrev pub ended_info_after : Operator → ℕ → ℕ → ℕ → Option (ℕ × RentalInfo)
ended_info_after s number begin end = option_map (ended_info s.entries.items) (ended_after s number begin end)
