-- Which client is sent what.
use Rattle.std.specs.Prelude.{◌≡◌, List, [], ◌++◌, map, All}
use Rattle.bike_http_connection.specs.Asking.{Coming}
use Rattle.bike_http_connection.specs.Connected.{Connected, asking, answered}
use Rattle.bike_http_connections.specs.Ahead.{Loses, fresh}
use Rattle.bike_server.specs.Visits.{Leaving}

-- A client who was answered: who it is, the request that it had, and how its exchange ended.
pub record Exchanged : Type 0 where
  pub client : Connected
  pub request : Coming
  pub leaving : Leaving

-- .. as it was before, and as it is then: what it was sent stands behind what it took before
abbrev pub as_asking : Exchanged → Connected
as_asking one = asking one.client one.request

abbrev pub as_answered : Exchanged → Connected
as_answered one = answered one.client one.leaving.sent

-- it sent that request itself, and took nothing before
abbrev pub IsOwn : Exchanged → Type 0
IsOwn one = (one.client.client ≡ one.request) × (one.client.response ≡ [])

-- EACH CLIENT IS SENT ITS OWN ANSWER, ONCE, AND NOBODY ELSE IS SENT IT: some of those who were there had one request
-- each, in this order, and what their exchanges ended with was sent to them; the others are as they were; and nobody
-- else is there then. Some of them ended. Where nobody was accepted before, each sent its request itself.
pub record SendsEachItsOwn (order : List Coming) (gone : List Leaving) (before after : List Connected) : Type 0 where
  pub exchanged : List Exchanged
  pub others : List Connected
  pub requests : map (λ one. one.request) exchanged ≡ order
  pub leavings : map (λ one. one.leaving) exchanged ≡ gone
  pub were : Loses before (map as_asking exchanged ++ others)
  pub are : Loses (map as_answered exchanged ++ others) after
  pub own : (coming : List Coming) → before ≡ map fresh coming → All IsOwn exchanged
