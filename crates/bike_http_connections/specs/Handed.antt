-- Connections that are handed out, to be answered.
use Rattle.std.specs.Prelude.{◌≡◌, ℕ, List, [], ◌∷◌, ◌++◌, Bool, Option, Some, None, Result, Ok, Err, IfOk, IfSome}
use Rattle.bike_http_connection.specs.declared.exchange.Exchange.{Exchange}
use Rattle.bike_http_connection.specs.Asking.{Coming, AsksAs, unread}
use Rattle.bike_http_connection.specs.Connected.{Connected, IsRequest, handed_as}
use Rattle.bike_http_connections.specs.Ahead.{Loses}

module _ {S : Type 0} (coming : S → List ℕ) where
  -- One of those ahead is handed out with its request, at the moment of its own acceptance. The request is the front of
  -- all that its client sends, and asks for what that asks for. Nothing was sent to it.
  pub record HandsOut (old new : List Coming) (exchange : Exchange S) (answer : List ℕ) : Type 0 where
    pub coming_one : Coming
    pub ahead : Loses old (coming_one ∷ new)
    pub moment : exchange.peer.moment ≡ coming_one.moment
    pub reads : unread exchange.request ++ coming exchange.peer.socket ≡ coming_one.input
    pub asks : AsksAs (unread exchange.request) coming_one.input
    pub writes : answer ≡ []

  -- WHAT IS HANDED OUT: one of those ahead; or none, where none is ahead any more; an error loses no more than some of
  -- them
  abbrev pub Hands : {E : Type 0} → List Coming → List Coming → Result (Option (Exchange S × List ℕ)) E → Type 0
  Hands {E} old new (Ok (Some handed)) = HandsOut old new handed.0 handed.1
  Hands {E} old new (Ok None) = new ≡ []
  Hands {E} old new (Err error) = Loses old new

module _ {S : Type 0} (known : Bool) (input coming taken : S → List ℕ) where
  -- a client is handed out as it was, with its whole request and an answer that is empty, or none; others may be lost
  abbrev pub Gives : List Connected → List Connected → Option (Exchange S × List ℕ) → Type 0
  Gives old new (Some handed) =
      Loses old (handed_as input coming taken handed.0 ∷ new) × (handed.1 ≡ []) × IsRequest known coming handed.0
  Gives old new None = Loses old new

module _ {S : Type 0} (input coming taken : S → List ℕ) where
  -- WHO IS HANDED OUT: one client, as it was; each other one is as it was, and so is what it takes, or it ended
  abbrev pub HandsOver : {E : Type 0} → List Connected → List Connected
      → Result (Option (Exchange S × List ℕ)) E → Type 0
  HandsOver {E} old new (Ok (Some handed)) = Loses old (handed_as input coming taken handed.0 ∷ new)
  HandsOver {E} old new (Ok None) = new ≡ []
  HandsOver {E} old new (Err error) = Loses old new

-- of its request no more is wanted
abbrev pub AreWhole : {S E : Type 0} → Bool → (S → List ℕ) → Result (Option (Exchange S × List ℕ)) E → Type 0
AreWhole {S} {E} known coming told = IfOk told (λ given. IfSome given (λ handed. IsRequest known coming handed.0))
