-- What an input asks for.
use Rattle.std.specs.Prelude.{◌≡◌, ◌⊎◌, ℕ, Bool, true, List, length, take, map, codes, nat_le, is_some, if◌then◌else◌}
use Rattle.std.specs.Prelude.{Option, Some, None, IsSome, option_map}
use Rattle.std.specs.Str.{is_utf8, bytes_eq}
use Rattle.httparse.specs.Grammar.{RequestHead}
use Rattle.httparse.specs.Spans.{name_and_value}
use Rattle.serde_json.specs.Data.{Data}
use Rattle.serde_json.specs.Read.{read}
use Rattle.serde_json.specs.Find.{as_object}
use Rattle.bike_fixed.specs.Whole.{number_of}
use Rattle.bike_fields.specs.declared.numbers.TheConstants.{GREATEST_NUMBER, GREATEST_SERIAL}
use Rattle.bike_fields.specs.declared.caller.Caller.{Caller}
use Rattle.bike_fields.specs.declared.caller.Caller.TheVariants as caller
use Rattle.bike_texts.specs.Reading.{◌>>=◌}
use Rattle.bike_commands.specs.declared.command.Command.{Command}
use Rattle.bike_commands.specs.declared.request.Request.{Request}
use Rattle.bike_http_head.specs.declared.rejection.Allow.{Allow}
use Rattle.bike_http_head.specs.declared.rejection.Allow.TheVariants.{Get, Post}
use Rattle.bike_http_head.specs.declared.rejection.Rejection.TheVariants.{BadRequest, BadField, NotFound}
use Rattle.bike_http_head.specs.declared.rejection.Rejection.TheVariants.{MethodNotAllowed, TooLarge}
use Rattle.bike_http_head.specs.declared.length.BodyLength.{BodyLength}
use Rattle.bike_http_head.specs.declared.length.BodyLength.TheVariants.{Malformed, TooLong, Of}
use Rattle.bike_http_head.specs.declared.routes.Route.{Route}
use Rattle.bike_http_head.specs.declared.routes.Route.TheVariants as route
use Rattle.bike_http_head.specs.declared.row_key.TheConstants.{GREATEST_REQUEST}
use Rattle.bike_http_head.specs.declared.row_key.RowKey.{RowKey}
use Rattle.bike_http_head.specs.declared.row_key.RowKey.TheVariants as row
use Rattle.bike_http_head.specs.Head.{HasHead, HasNoHead}
use Rattle.bike_http_head.specs.Length.{body_length}
use Rattle.bike_http_head.specs.Table.{path_of, found_at}
use Rattle.bike_http_request.specs.Members.{key_in}
use Rattle.bike_http_request.specs.Bodies.{rider_in, station_in, staff_in, truck_in, start_of, end_of, mark_dock_of}
use Rattle.bike_http_request.specs.Bodies.{mark_bike_of, load_of, unload_of, office_command}
use Rattle.bike_http_request.specs.declared.action.Action.{Action}
use Rattle.bike_http_request.specs.declared.action.Action.TheVariants.{Reject, Apply, Show, Publish}

-- the object that the bytes are, read as a text of JSON
unfoldable pub object_of : List ℕ → Option Data
object_of bytes =
    if is_utf8 bytes then (read bytes >>= λ value. if is_some (as_object value) then Some value else None) else None

abbrev pub is_method : List ℕ → Allow → Bool
is_method method Get = bytes_eq method (codes "GET")
is_method method Post = bytes_eq method (codes "POST")

-- ---- a request to act

-- the request of a caller whose body gives the command
unfoldable pub request_of : Caller → Option Command → Data → Option Request
request_of caller command body = do
  given ← command
  key ← key_in body
  Some (record { caller = caller; key = key; command = given })

abbrev pub application_of : Option Request → Action
application_of None = Reject BadField
application_of (Some request) = Apply request

abbrev pub posted_object : Caller → (Data → Option Command) → Option Data → Action
posted_object caller command None = Reject BadRequest
posted_object caller command (Some body) = application_of (request_of caller (command body) body)

abbrev pub posted_by : List ℕ → Caller → (Data → Option Command) → List ℕ → Action
posted_by method caller command body =
    if is_method method Post then posted_object caller command (object_of body) else Reject (MethodNotAllowed Post)

-- what the path's part names comes first, its method next, then the body
abbrev pub posted : {A : Type 0} → List ℕ → Option A → (A → Caller) → (A → Data → Option Command) → List ℕ → Action
posted method None caller command body = Reject NotFound
posted method (Some named) caller command body = posted_by method (caller named) (command named) body

abbrev pub asked_by_rider : List ℕ → List ℕ → List ℕ → Action
asked_by_rider method part = posted method (rider_in part) caller.Rider start_of

abbrev pub asked_by_dock : (List ℕ → Data → Option Command) → List ℕ → List ℕ → List ℕ → Action
asked_by_dock command method part = posted method (station_in part) caller.Dock command

abbrev pub asked_by_crew : (ℕ → Data → Option Command) → List ℕ → List ℕ → List ℕ → Action
asked_by_crew command method part = posted method (truck_in part) caller.Crew command

abbrev pub asked_by_office : List ℕ → List ℕ → Action
asked_by_office method = posted_by method caller.Office office_command

abbrev pub asked_by_staff : List ℕ → List ℕ → List ℕ → Action
asked_by_staff method part = posted method (staff_in part) caller.Staff (λ name. office_command)

-- ---- what is shown

abbrev pub got : List ℕ → Action → Action
got method asked = if is_method method Get then asked else Reject (MethodNotAllowed Get)

abbrev pub shown : List ℕ → Option RowKey → Action
shown method None = Reject NotFound
shown method (Some row) = got method (Show row)

-- THE TABLE: what a request asks for whose path takes a route
abbrev pub asked_at : Route → List ℕ → List ℕ → List ℕ → Action
asked_at route.Start method part body = asked_by_rider method part body
asked_at route.End method part body = asked_by_dock end_of method part body
asked_at route.MarkDock method part body = asked_by_dock mark_dock_of method part body
asked_at route.MarkStationBike method part body = asked_by_dock (λ station. mark_bike_of) method part body
asked_at route.Load method part body = asked_by_crew load_of method part body
asked_at route.Unload method part body = asked_by_crew unload_of method part body
asked_at route.MarkTruckBike method part body = asked_by_crew (λ truck. mark_bike_of) method part body
asked_at route.Office method part body = asked_by_office method body
asked_at route.Staff method part body = asked_by_staff method part body
asked_at route.Rider method part body = shown method (option_map row.Rider (number_of 1 GREATEST_NUMBER part))
asked_at route.Bike method part body = shown method (option_map row.Bike (number_of 1 GREATEST_NUMBER part))
asked_at route.Rental method part body = shown method (option_map row.Rental (number_of 1 GREATEST_SERIAL part))
asked_at route.Order method part body = shown method (option_map row.Order (number_of 1 GREATEST_SERIAL part))
asked_at route.History method part body = shown method (option_map row.History (number_of 0 GREATEST_REQUEST part))
asked_at (route.Publish feed) method part body = got method (Publish feed)

abbrev pub asked_found : Option (Route × List ℕ) → List ℕ → List ℕ → Action
asked_found None method body = Reject NotFound
asked_found (Some found) method body = asked_at found.0 method found.1 body

-- what a request asks for, by its method, its target and its body
unfoldable pub asked_for : List ℕ → List ℕ → List ℕ → Action
asked_for method target body = asked_found (found_at (path_of target)) method body

-- ---- memory: a request to act alone asks for it, whose path and method are good

abbrev pub IsPost : List ℕ → Type 0
IsPost method = is_method method Post ≡ true

abbrev pub MayAct : {A : Type 0} → List ℕ → Option A → Type 0
MayAct method named = IsSome named × IsPost method

abbrev pub ActsAt : Route → List ℕ → List ℕ → Type 0
ActsAt route.Start method part = MayAct method (rider_in part)
ActsAt route.End method part = MayAct method (station_in part)
ActsAt route.MarkDock method part = MayAct method (station_in part)
ActsAt route.MarkStationBike method part = MayAct method (station_in part)
ActsAt route.Load method part = MayAct method (truck_in part)
ActsAt route.Unload method part = MayAct method (truck_in part)
ActsAt route.MarkTruckBike method part = MayAct method (truck_in part)
ActsAt route.Office method part = IsPost method
ActsAt route.Staff method part = MayAct method (staff_in part)
ActsAt _ method part = ⊥

abbrev pub ActsFound : Option (Route × List ℕ) → List ℕ → Type 0
ActsFound None method = ⊥
ActsFound (Some found) method = ActsAt found.0 method found.1

abbrev pub IsToAct : List ℕ → List ℕ → Type 0
IsToAct method target = ActsFound (found_at (path_of target)) method

-- ---- the whole

-- the length of the body comes first, then whether it is whole, then all else
abbrev pub asked_behind : BodyLength → RequestHead → List ℕ → Action
asked_behind Malformed head rest = Reject BadRequest
asked_behind TooLong head rest = Reject TooLarge
asked_behind (Of n) head rest =
    if nat_le n (length rest) then asked_for head.method head.target (take n rest) else Reject BadRequest

-- what an input asks for: without a head within the bounds it is a bad request
abbrev pub Asks : List ℕ → Action → Type 0
Asks input asked =
    ((head : RequestHead) × (rest : List ℕ) × HasHead input head rest
    × (asked ≡ asked_behind (body_length (map name_and_value head.fields)) head rest))
    ⊎ (HasNoHead input × (asked ≡ Reject BadRequest))
