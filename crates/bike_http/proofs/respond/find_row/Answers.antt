use Rattle.std.proofs.Common.{◌≡◌, ◌∙◌, sym, ap}
use Rattle.std.specs.FinMap as map
use Rattle.bike_operator.specs.Operator.{item_numbered}
use Rattle.bike_queries.specs.Infos.{rider_info_at, rental_info_at}
use Rattle.bike_queries.specs.Requests.{request_page}
use Rattle.bike_http_response.specs.declared.answer.Answer.TheVariants as answer
use Rattle.bike_http.specs.Shown.{shown_of}
use Rattle.bike_http.specs.Rows.{rider_answer, bike_answer, rental_answer, order_answer}
use Rattle.bike_http.proofs.Shows.{query_told, rider_shown, bike_shown, rental_shown, order_shown}
use Rattle.bike_http.proofs.respond.find_row.Goals as goal

pub returns-in_ok-rider-in-Rider : goal.returns-in_ok-rider-in-Rider
returns-in_ok-rider-in-Rider g c =
    query_told g.S.Store c.args.desk.now c.rider.new.self (λ s x. x ≡ rider_info_at s c.in-Rider.rider) (λ s answer. answer ≡ shown_of s c.args.row)
    c.in_ok-rider-in-Rider.field-0 c.rider_answer.result
    (λ s is. c.rider_answer.ensures ∙ ap (rider_answer c.in-Rider.rider) is ∙ rider_shown s c.in-Rider.rider (map.get s.riders c.in-Rider.rider) ∙ sym (ap (shown_of s) c.in-Rider.is))
    c.in_ok-rider-in-Rider.ensures.query

pub returns-in_ok-bike-in-Bike : goal.returns-in_ok-bike-in-Bike
returns-in_ok-bike-in-Bike g c =
    query_told g.S.Store c.args.desk.now c.bike.new.self (λ s x. x ≡ map.get s.bikes c.in-Bike.bike) (λ s answer. answer ≡ shown_of s c.args.row)
    c.in_ok-bike-in-Bike.field-0 c.bike_answer.result
    (λ s is. c.bike_answer.ensures ∙ ap (bike_answer c.in-Bike.bike) is ∙ bike_shown c.in-Bike.bike (map.get s.bikes c.in-Bike.bike) ∙ sym (ap (shown_of s) c.in-Bike.is))
    c.in_ok-bike-in-Bike.ensures.query

pub returns-in_ok-rental-in-Rental : goal.returns-in_ok-rental-in-Rental
returns-in_ok-rental-in-Rental g c =
    query_told g.S.Store c.args.desk.now c.rental.new.self (λ s x. x ≡ rental_info_at s c.in-Rental.rental) (λ s answer. answer ≡ shown_of s c.args.row)
    c.in_ok-rental-in-Rental.field-0 c.rental_answer.result
    (λ s is. c.rental_answer.ensures ∙ ap (rental_answer c.in-Rental.rental) is ∙ rental_shown s c.in-Rental.rental (item_numbered c.in-Rental.rental s.rentals) ∙ sym (ap (shown_of s) c.in-Rental.is))
    c.in_ok-rental-in-Rental.ensures.query

pub returns-in_ok-order-in-Order : goal.returns-in_ok-order-in-Order
returns-in_ok-order-in-Order g c =
    query_told g.S.Store c.args.desk.now c.order.new.self (λ s x. x ≡ item_numbered c.in-Order.order s.orders) (λ s answer. answer ≡ shown_of s c.args.row)
    c.in_ok-order-in-Order.field-0 c.order_answer.result
    (λ s is. c.order_answer.ensures ∙ ap (order_answer c.in-Order.order) is ∙ order_shown c.in-Order.order (item_numbered c.in-Order.order s.orders) ∙ sym (ap (shown_of s) c.in-Order.is))
    c.in_ok-order-in-Order.ensures.query

pub returns-in_ok-requests_after-in-History : goal.returns-in_ok-requests_after-in-History
returns-in_ok-requests_after-in-History g c =
    query_told g.S.Store c.args.desk.now c.requests_after.new.self (λ s page. page ≡ request_page s c.in-History.after) (λ s answer. answer ≡ shown_of s c.args.row)
    c.in_ok-requests_after-in-History.field-0 (answer.Requests c.in_ok-requests_after-in-History.field-0)
    (λ s is. ap answer.Requests is ∙ sym (ap (shown_of s) c.in-History.is))
    c.in_ok-requests_after-in-History.ensures.query
