-- The rows that queries tell, as they are shown.
use Rattle.std.specs.Prelude.{ℕ, Option, Some, None}
use Rattle.bike_operator.specs.declared.records.Bike.{Bike}
use Rattle.bike_operator.specs.declared.records.Order.{Order}
use Rattle.bike_queries.specs.declared.riders.RiderInfo.{RiderInfo}
use Rattle.bike_operator.specs.declared.rental_info.RentalInfo.{RentalInfo}
use Rattle.bike_http_response.specs.declared.answer.Answer.{Answer}
use Rattle.bike_http_response.specs.declared.answer.Answer.TheVariants as answer
use Rattle.bike_http.specs.Shown.{not_found}

abbrev pub rider_answer : ℕ → Option RiderInfo → Answer
rider_answer n None = not_found
rider_answer n (Some i) =
    answer.Rider (record { rider = n; blocked = i.is_blocked; balance = i.balance; rental = i.rental })

abbrev pub bike_answer : ℕ → Option Bike → Answer
bike_answer n None = not_found
bike_answer n (Some bike) = answer.Bike n bike

abbrev pub rental_answer : ℕ → Option RentalInfo → Answer
rental_answer n None = not_found
rental_answer n (Some rental) = answer.Rental n rental

abbrev pub order_answer : ℕ → Option Order → Answer
order_answer n None = not_found
order_answer n (Some order) = answer.Order n order
