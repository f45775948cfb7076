-- Clients of whom it is known what they send.
use Rattle.std.specs.Prelude.{◌≡◌, ℕ, ◌-◌, ◌<◌, List, [], ◌∷◌, ◌++◌, Option, Some, IfSome, Result}
use Rattle.bike_http.specs.declared.exchange.Served.{Served}
use Rattle.bike_http.specs.declared.exchange.ServeFault.{ServeFault}
use Rattle.bike_http_connection.specs.Connected.{Connected, answered}
use Rattle.bike_http_connections.specs.Ahead.{Loses}

-- a connection that was let go: how its exchange ended, and all that it was sent
pub record Leaving : Type 0 where
  pub served : Result Served ServeFault
  pub sent : List ℕ

-- Those that were let go, in their order, and how many were accepted and not let go.
pub record Kept : Type 0 where
  pub gone : List Leaving
  pub pending : ℕ

-- The clients who are there, those whose requests come still among them; and those let go, where they are kept.
pub record Visits : Type 0 where
  pub clients : List Connected
  pub kept : Option Kept

-- one was accepted that wasn't let go; where nothing is kept, nothing is asked
abbrev pub IsOpen : Option Visits → Type 0
IsOpen known = IfSome known (λ visits. IfSome visits.kept (λ kept. 0 < kept.pending))

-- One client is let go, with what it was sent behind what it took before; some may end meanwhile.
pub record LetsGo (old : Visits) (one : Connected) (leaving : Leaving) (new : Visits) : Type 0 where
  pub clients : Loses (answered one leaving.sent ∷ old.clients) new.clients
  pub kept : IfSome old.kept
      (λ kept. new.kept ≡ Some (record { gone = kept.gone ++ leaving ∷ []; pending = kept.pending - 1 }))
