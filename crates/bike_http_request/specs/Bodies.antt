-- The command that a body gives, a block for each kind.
use Rattle.std.specs.Prelude.{ℕ, List, ◌==◌, Option, Some, None, option_map, codes}
use Rattle.std.specs.List.{slice_split}
use Rattle.bike_fields.specs.declared.numbers.TheConstants.{GREATEST_NUMBER, GREATEST_SERIAL, MOST_DOCKS}
use Rattle.serde_json.specs.Data.{Data}
use Rattle.bike_fixed.specs.Whole.{number_of}
use Rattle.bike_fields.specs.Bytes.{ident_of}
use Rattle.bike_fields.specs.declared.caller.Caller.{Caller}
use Rattle.bike_fields.specs.declared.caller.Caller.TheVariants as caller
use Rattle.bike_texts.specs.Reading.{◌>>=◌}
use Rattle.bike_commands.specs.declared.command.Command.{Command}
use Rattle.bike_commands.specs.declared.command.Command.TheVariants.{MarkDock, MarkBike, Start, End, Load, Unload}
use Rattle.bike_requests.specs.Readers.{command_at}
use Rattle.bike_http_head.specs.declared.routes.Route.{Route}
use Rattle.bike_http_head.specs.declared.routes.Route.TheVariants as route
use Rattle.bike_http_request.specs.Members.{text_in, number_in, ident_in, choice_in, side_in}

-- bicycles; docks; orders
abbrev pub bike_in : Data → Option ℕ
bike_in = number_in 1 GREATEST_NUMBER (codes "bike")

abbrev pub dock_in : Data → Option ℕ
dock_in = number_in 1 MOST_DOCKS (codes "dock")

abbrev pub order_in : Data → Option ℕ
order_in = number_in 1 GREATEST_SERIAL (codes "order")

-- what the part of a path names: a rider, a station, a person of the office or a truck
abbrev pub rider_in : List ℕ → Option ℕ
rider_in = number_of 1 GREATEST_NUMBER

abbrev pub station_in : List ℕ → Option (List ℕ)
station_in = ident_of

abbrev pub staff_in : List ℕ → Option (List ℕ)
staff_in = ident_of

abbrev pub truck_in : List ℕ → Option ℕ
truck_in = number_of 1 GREATEST_NUMBER

unfoldable pub start_of : ℕ → Data → Option Command
start_of rider body = do
  station ← ident_in (codes "station") body
  dock ← dock_in body
  Some (Start rider station dock)

unfoldable pub end_of : List ℕ → Data → Option Command
end_of station body = do
  bike ← bike_in body
  dock ← dock_in body
  Some (End bike station dock)

unfoldable pub mark_dock_of : List ℕ → Data → Option Command
mark_dock_of station body = do
  dock ← dock_in body
  broken ← choice_in (codes "broken") (codes "working") (codes "state") body
  Some (MarkDock station dock broken)

unfoldable pub mark_bike_of : Data → Option Command
mark_bike_of body = do
  bike ← bike_in body
  disabled ← choice_in (codes "disabled") (codes "fit") (codes "state") body
  Some (MarkBike bike disabled)

unfoldable pub load_of : ℕ → Data → Option Command
load_of truck body = do
  order ← order_in body
  bike ← bike_in body
  Some (Load truck order bike)

-- dock 0 is the depot's
unfoldable pub unload_of : ℕ → Data → Option Command
unload_of truck body = do
  order ← order_in body
  bike ← bike_in body
  side ← side_in (codes "side") body
  dock ← number_in 0 MOST_DOCKS (codes "dock") body
  Some (Unload truck order bike side dock)

-- the command that the text of the member spells
unfoldable pub office_command : Data → Option Command
office_command body = do
  text ← text_in (codes "command") body
  command_at (slice_split (λ b. b == 9) text)

-- the command that the body gives to a station's route
abbrev pub dock_command : Route → List ℕ → Data → Option Command
dock_command route.End = end_of
dock_command route.MarkDock = mark_dock_of
dock_command _ = λ station. mark_bike_of

-- .. and to a truck's
abbrev pub crew_command : Route → ℕ → Data → Option Command
crew_command route.Load = load_of
crew_command route.Unload = unload_of
crew_command _ = λ truck. mark_bike_of

-- who acts by a request of a route, as the path's part names it; none where a route only shows
abbrev pub caller_at : Route → List ℕ → Option Caller
caller_at route.Start part = option_map caller.Rider (rider_in part)
caller_at route.End part = option_map caller.Dock (station_in part)
caller_at route.MarkDock part = option_map caller.Dock (station_in part)
caller_at route.MarkStationBike part = option_map caller.Dock (station_in part)
caller_at route.Load part = option_map caller.Crew (truck_in part)
caller_at route.Unload part = option_map caller.Crew (truck_in part)
caller_at route.MarkTruckBike part = option_map caller.Crew (truck_in part)
caller_at route.Office part = Some caller.Office
caller_at route.Staff part = option_map caller.Staff (staff_in part)
caller_at _ part = None

-- the command that the body gives to a caller's route
abbrev pub command_by : Route → Caller → Data → Option Command
command_by route (caller.Rider rider) = start_of rider
command_by route (caller.Dock station) = dock_command route station
command_by route (caller.Crew truck) = crew_command route truck
command_by route _ = office_command
