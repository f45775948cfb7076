-- An open connection as one of those ahead: until it is answered.
use Rattle.std.specs.Prelude.{ℕ, List, [], ◌∷◌, ◌++◌, drop, Option}
use Rattle.bike_http_connection.specs.declared.peer.Peer.{Peer}
use Rattle.bike_http_connection.specs.declared.connection.State.{State}
use Rattle.bike_http_connection.specs.declared.connection.State.TheVariants.{Gathering, Ready, Sending, Lingering}
use Rattle.bike_http_connection.specs.declared.exchange.Exchange.{Exchange}
use Rattle.bike_http_connection.specs.declared.request.RequestReader.{RequestReader}
use Rattle.bike_http_request.specs.Received.{Received}
use Rattle.bike_http_request.specs.declared.action.Action.{Action}

-- a connection that comes: when it is accepted, and all that its client sends
pub record Coming : Type 0 where
  pub moment : ℕ
  pub input : List ℕ

-- what is still to be read of a request
abbrev pub unread : RequestReader → List ℕ
unread request = drop request.start request.bytes.items

-- what these bytes ask for, the input asks for
abbrev pub AsksAs : List ℕ → List ℕ → Type 0
AsksAs bytes input = (told : Option Action) → Received bytes told → Received input told

module _ {S : Type 0} (coming : S → List ℕ) where
  -- what came of it, and what comes still
  abbrev pub coming_of : Peer S → List ℕ → Coming
  coming_of peer bytes = record { moment = peer.moment; input = bytes ++ coming peer.socket }

  -- itself, where it isn't answered yet
  abbrev pub ahead_as : Peer S → State → List Coming
  ahead_as peer (Gathering gathering) = coming_of peer gathering.bytes.items ∷ []
  ahead_as peer (Ready gathering) = coming_of peer gathering.bytes.items ∷ []
  ahead_as peer (Sending answer is_early) = []
  ahead_as peer (Lingering pieces) = []

  -- a connection that is handed out, as it was ahead: what is still to be read of its request, and what comes behind
  abbrev pub coming_from : Exchange S → Coming
  coming_from exchange = record {
    moment = exchange.peer.moment;
    input = unread exchange.request ++ coming exchange.peer.socket;
  }
