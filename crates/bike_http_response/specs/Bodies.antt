-- The JSON bodies of answers.
use Rattle.std.specs.Prelude.{ℕ, ℤ, pos, min, List, [], ◌∷◌, ◌++◌, Bool, true, false, codes, Option, Some, None}
use Rattle.bike_fixed.specs.Text.{moment_text}
use Rattle.bike_json.specs.Escapes.{string_text}
use Rattle.bike_json.specs.Rows.{items}
use Rattle.bike_json.specs.Tree.{Tree, object, array, text, whole, flag, Members, no_members, member, comma, text_of}
use Rattle.bike_texts.specs.declared.ends.OrderEnd.{OrderEnd}
use Rattle.bike_texts.specs.declared.ends.OrderEnd.TheVariants.{Depot, Station}
use Rattle.bike_commands.specs.declared.refusal.Refusal.{Refusal}
use Rattle.bike_commands.specs.declared.refusal.Refusal.TheVariants as refusal
use Rattle.bike_commands.specs.declared.reply.Reply.{Reply}
use Rattle.bike_commands.specs.declared.reply.Reply.TheVariants as reply
use Rattle.bike_commands.specs.Refusals.{number_of, name_of}
use Rattle.bike_operator.specs.declared.records.BikeState.{BikeState}
use Rattle.bike_operator.specs.declared.records.BikeState.TheVariants.{Fit, Disabled, Retired}
use Rattle.bike_operator.specs.declared.records.Place.{Place}
use Rattle.bike_operator.specs.declared.records.Place.TheVariants as place
use Rattle.bike_operator.specs.declared.records.Bike.{Bike}
use Rattle.bike_operator.specs.declared.records.Order.{Order}
use Rattle.bike_operator.specs.declared.rental_info.ClosingInfo.{ClosingInfo}
use Rattle.bike_operator.specs.declared.rental_info.RentalInfo.{RentalInfo}
use Rattle.bike_operator.specs.Requests.{RequestTexts}
use Rattle.bike_http_head.specs.declared.row_key.TheConstants.{GREATEST_REQUEST}
use Rattle.bike_http_head.specs.declared.rejection.Rejection.{Rejection}
use Rattle.bike_http_head.specs.declared.rejection.Rejection.TheVariants as rejection
use Rattle.bike_http_response.specs.declared.answer.Answer.{Answer}
use Rattle.bike_http_response.specs.declared.answer.Answer.TheVariants as answer
use Rattle.bike_http_response.specs.declared.answer.RiderRow.{RiderRow}
use Rattle.bike_http_response.specs.declared.members.Scalar.{Scalar}
use Rattle.bike_http_response.specs.declared.members.Scalar.TheVariants as scalar

-- a scalar as a value of JSON
abbrev pub scalar_tree : Scalar → Tree
scalar_tree (scalar.Text t) = text t.now
scalar_tree (scalar.Whole z) = whole z
scalar_tree (scalar.Flag b) = flag b

-- the members of a list
abbrev pub members : List (List ℕ × Tree) → Members
members [] = no_members
members (m ∷ ms) = member m.0 m.1 (members ms)

-- one member, with whether others stand before it
abbrev pub member_text : Bool → List ℕ → Tree → List ℕ
member_text more name value = comma more ++ (string_text name ++ 58 ∷ text_of value)

-- ---- errors and replies

abbrev pub error_tree : List ℕ → Tree
error_tree name = object (member (codes "result") (text (codes "error")) (member (codes "name") (text name) no_members))

abbrev pub refused_tree : Refusal → Tree
refused_tree r =
    object (member (codes "result") (text (codes "refused")) (member (codes "number") (whole (pos (number_of r)))
    (member (codes "name") (text (name_of r)) no_members)))

abbrev pub rejected_tree : Rejection → Tree
rejected_tree rejection.BadRequest = error_tree (codes "bad_request")
rejected_tree rejection.BadField = refused_tree refusal.BadField
rejected_tree rejection.NotFound = error_tree (codes "not_found")
rejected_tree (rejection.MethodNotAllowed allow) = error_tree (codes "method_not_allowed")
rejected_tree rejection.TooLarge = error_tree (codes "too_large")

abbrev pub ok_tree : Members → Tree
ok_tree more = object (member (codes "result") (text (codes "ok")) more)

abbrev pub replied_tree : Reply → Tree
replied_tree reply.Done = ok_tree no_members
replied_tree (reply.Balance balance) = ok_tree (member (codes "balance_cents") (whole balance) no_members)
replied_tree (reply.Started rental bike) =
    ok_tree (member (codes "rental") (whole (pos rental)) (member (codes "bike") (whole (pos bike)) no_members))
replied_tree (reply.Ended fare balance) =
    ok_tree (member (codes "fare_cents") (whole fare) (member (codes "balance_cents") (whole balance) no_members))
replied_tree (reply.Ordered order) = ok_tree (member (codes "order") (whole (pos order)) no_members)
replied_tree (reply.Refused r) = refused_tree r

-- ---- rows

abbrev pub rider_state : Bool → List ℕ
rider_state true = codes "blocked"
rider_state false = codes "open"

-- 0 where there is none
abbrev pub open_rental : Option ℕ → ℕ
open_rental None = 0
open_rental (Some n) = n

abbrev pub rider_tree : RiderRow → Tree
rider_tree r =
    object (member (codes "rider") (whole (pos r.rider)) (member (codes "state") (text (rider_state r.blocked))
    (member (codes "balance_cents") (whole r.balance)
    (member (codes "rental") (whole (pos (open_rental r.rental))) no_members))))

abbrev pub state_name : BikeState → List ℕ
state_name Fit = codes "fit"
state_name Disabled = codes "disabled"
state_name Retired = codes "retired"

abbrev pub place_members : Place → Members
place_members (place.Dock station dock) =
    member (codes "place") (text (codes "dock"))
    (member (codes "station") (text station) (member (codes "dock") (whole (pos dock)) no_members))
place_members (place.Rental rental) =
    member (codes "place") (text (codes "rental")) (member (codes "rental") (whole (pos rental)) no_members)
place_members (place.Truck truck order) =
    member (codes "place") (text (codes "truck"))
    (member (codes "truck") (whole (pos truck)) (member (codes "order") (whole (pos order)) no_members))
place_members place.Depot = member (codes "place") (text (codes "depot")) no_members

abbrev pub bike_tree : ℕ → Bike → Tree
bike_tree number b =
    object (member (codes "bike") (whole (pos number)) (member (codes "type") (text b.type_id)
    (member (codes "state") (text (state_name b.state)) (place_members b.place))))

-- the station at which a rental ended, or `*` where its bicycle was recovered
abbrev pub ended_at : Option (List ℕ) → List ℕ
ended_at None = codes "*"
ended_at (Some station) = station

abbrev pub open_members : Members
open_members = member (codes "is_open") (flag true) no_members

-- to which station, when, for which fare and with which refunds
abbrev pub closed_members : List ℕ → List ℕ → ℤ → ℤ → Members
closed_members to finish fare refunded =
    member (codes "is_open") (flag false) (member (codes "to") (text to) (member (codes "end") (text finish)
    (member (codes "fare_cents") (whole fare) (member (codes "refunded_cents") (whole refunded) no_members))))

abbrev pub closing_members : Option ClosingInfo → Members
closing_members None = open_members
closing_members (Some c) = closed_members (ended_at c.to_station) (moment_text c.finish) c.fare c.refunded

abbrev pub rental_object : ℕ → RentalInfo → List ℕ → Members → Tree
rental_object number r start closing =
    object (member (codes "rental") (whole (pos number))
    (member (codes "rider") (whole (pos r.rider)) (member (codes "bike") (whole (pos r.bike))
    (member (codes "plan") (text r.plan) (member (codes "from") (text r.from_station)
    (member (codes "start") (text start) closing))))))

abbrev pub rental_tree : ℕ → RentalInfo → Tree
rental_tree number r = rental_object number r (moment_text r.start) (closing_members r.closing)

-- an end of an order: a station, or `*` for the depot
abbrev pub end_name : OrderEnd → List ℕ
end_name Depot = codes "*"
end_name (Station station) = station

abbrev pub order_tree : ℕ → Order → Tree
order_tree number o =
    object (member (codes "order") (whole (pos number))
    (member (codes "truck") (whole (pos o.truck)) (member (codes "from") (text (end_name o.from_end))
    (member (codes "to") (text (end_name o.to_end))
    (member (codes "type") (text o.type_id) (member (codes "count") (whole (pos o.count))
    (member (codes "delivered") (whole (pos o.delivered)) (member (codes "is_open") (flag o.is_open) no_members))))))))

-- a number beyond the greatest, which no request has, would be told as that
abbrev pub request_object : RequestTexts → List ℕ → Tree
request_object r moment =
    object (member (codes "number") (whole (pos (min r.number GREATEST_REQUEST)))
    (member (codes "moment") (text moment)
    (member (codes "caller") (text r.caller) (member (codes "key") (text r.key)
    (member (codes "command") (text r.command) (member (codes "reply") (text r.reply) no_members))))))

abbrev pub request_tree : RequestTexts → Tree
request_tree r = request_object r (moment_text r.moment)

abbrev pub requests_tree : List RequestTexts → Tree
requests_tree rs = object (member (codes "requests") (array (items request_tree rs)) no_members)

-- THE TABLE: the body of each answer
abbrev pub body_of : Answer → Tree
body_of (answer.Rejected r) = rejected_tree r
body_of answer.Unavailable = error_tree (codes "unavailable")
body_of (answer.Replied r) = replied_tree r
body_of (answer.Rider row) = rider_tree row
body_of (answer.Bike number bike) = bike_tree number bike
body_of (answer.Rental number rental) = rental_tree number rental
body_of (answer.Order number order) = order_tree number order
body_of (answer.Requests page) = requests_tree page
