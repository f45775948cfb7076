-- What accepting a connection gives.
use Rattle.std.specs.Prelude.{◌≡◌, ℕ, ◌≤◌, List, [], ◌∷◌, ◌++◌, take, ⊤, Option, Some, None, IfSome, Result, Ok, Err}
use Rattle.std.specs.Prelude.{IfOk}
use Rattle.bike_http_connections.specs.declared.network.AcceptOutcome.{AcceptOutcome}
use Rattle.bike_http_connections.specs.declared.network.AcceptOutcome.TheVariants.{One, Lost, Nobody, Failed}
use Rattle.bike_http_connection.specs.Asking.{Coming}
use Rattle.bike_http_connections.specs.Ahead.{Loses}

-- no more bytes were read than there is room for
abbrev pub IsWithin : {S E : Type 0} → ℕ → Result (Option (S × ℕ × ℕ)) E → Type 0
IsWithin {S} {E} room told = IfOk told (λ accepted. IfSome accepted (λ one. one.2 ≤ room))

module _ {S : Type 0} (coming : S → List ℕ) where
  -- one of those ahead is accepted, or none; some of the others may be lost
  abbrev pub Picks : List Coming → List Coming → AcceptOutcome S → Type 0
  Picks old new (One socket moment) = Loses old (record { moment = moment; input = coming socket } ∷ new)
  Picks old new Lost = Loses old new
  Picks old new Nobody = Loses old new
  Picks old new Failed = Loses old new

  abbrev pub Accepts : {E : Type 0} → List Coming → List Coming → Result (AcceptOutcome S) E → Type 0
  Accepts {E} old new (Ok accepted) = Picks old new accepted
  Accepts {E} old new (Err error) = Loses old new

  -- the same, where the first bytes of it stand in this piece
  abbrev pub PicksAlone : List Coming → List Coming → List ℕ → Option (S × ℕ × ℕ) → Type 0
  PicksAlone old new piece (Some one) =
      Loses old (record { moment = one.1; input = take one.2 piece ++ coming one.0 } ∷ new)
  PicksAlone old new piece None = Loses old new

  abbrev pub AcceptsAlone : {E : Type 0} → List Coming → List Coming → List ℕ → Result (Option (S × ℕ × ℕ)) E → Type 0
  AcceptsAlone {E} old new piece (Ok accepted) = PicksAlone old new piece accepted
  AcceptsAlone {E} old new piece (Err error) = Loses old new

  module _ (input taken : S → List ℕ) where
    -- of all that it sends this came, the rest comes still, and nothing was sent to it
    abbrev pub IsFresh : List ℕ → S → Type 0
    IsFresh came socket = (input socket ≡ came ++ coming socket) × (taken socket ≡ [])

    -- so is who is accepted
    abbrev pub IsFreshOne : AcceptOutcome S → Type 0
    IsFreshOne (One socket moment) = IsFresh [] socket
    IsFreshOne Lost = ⊤
    IsFreshOne Nobody = ⊤
    IsFreshOne Failed = ⊤

    abbrev pub AreFresh : {E : Type 0} → Result (AcceptOutcome S) E → Type 0
    AreFresh {E} told = IfOk told IsFreshOne

    abbrev pub AreFreshAlone : {E : Type 0} → List ℕ → Result (Option (S × ℕ × ℕ)) E → Type 0
    AreFreshAlone {E} piece told = IfOk told (λ accepted. IfSome accepted (λ one. IsFresh (take one.2 piece) one.0))
