-- What an operator shows: the row that is asked for, or a page of its history.
use Rattle.std.specs.Prelude.{ℕ, Option, Some, None}
use Rattle.std.specs.FinMap as map
use Rattle.bike_ledger.specs.Ledger.{refunded_of}
use Rattle.bike_operator.specs.declared.records.Rental.{Rental}
use Rattle.bike_operator.specs.Operator.{Operator, Rider, item_numbered}
use Rattle.bike_operator.specs.View.{rider_balance}
use Rattle.bike_office_reads.specs.Newest.{open_number}
use Rattle.bike_queries.specs.Infos.{rental_info}
use Rattle.bike_queries.specs.Requests.{request_page}
use Rattle.bike_http_head.specs.declared.rejection.Rejection.TheVariants.{NotFound}
use Rattle.bike_http_head.specs.declared.row_key.RowKey.{RowKey}
use Rattle.bike_http_head.specs.declared.row_key.RowKey.TheVariants as shown
use Rattle.bike_http_response.specs.declared.answer.Answer.{Answer}
use Rattle.bike_http_response.specs.declared.answer.Answer.TheVariants as answer

abbrev pub not_found : Answer
not_found = answer.Rejected NotFound

-- what isn't there is not found
abbrev pub shown_or_not_found : {A : Type 0} → (A → Answer) → Option A → Answer
shown_or_not_found show None = not_found
shown_or_not_found show (Some x) = show x

abbrev pub shown_rider : Operator → ℕ → Rider → Answer
shown_rider s n r =
    answer.Rider (record {
      rider = n;
      blocked = r.is_blocked;
      balance = rider_balance s n;
      rental = open_number s n;
    })

-- a closed rental is shown with its refunds
abbrev pub shown_rental : Operator → ℕ → Rental → Answer
shown_rental s n r = answer.Rental n (rental_info (refunded_of n s.entries.items) r)

-- what is shown of an operator; a page without a request is one too
abbrev pub shown_of : Operator → RowKey → Answer
shown_of s (shown.Rider n) = shown_or_not_found (shown_rider s n) (map.get s.riders n)
shown_of s (shown.Bike n) = shown_or_not_found (λ bike. answer.Bike n bike) (map.get s.bikes n)
shown_of s (shown.Rental n) = shown_or_not_found (shown_rental s n) (item_numbered n s.rentals)
shown_of s (shown.Order n) = shown_or_not_found (λ order. answer.Order n order) (item_numbered n s.orders)
shown_of s (shown.History after) = answer.Requests (request_page s after)
