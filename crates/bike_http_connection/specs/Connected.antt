-- A client whose connection is open, as all that is known of it.
use Rattle.std.specs.Prelude.{ℕ, List, [], ◌∷◌, ◌++◌, Bool, false, ⊤}
use Rattle.std.specs.declared.time.Duration.{Duration}
use Rattle.bike_http_connection.specs.declared.peer.Peer.{Peer}
use Rattle.bike_http_connection.specs.declared.connection.State.{State}
use Rattle.bike_http_connection.specs.declared.connection.State.TheVariants.{Gathering, Ready, Sending, Lingering}
use Rattle.bike_http_connection.specs.declared.exchange.Exchange.{Exchange}
use Rattle.bike_http_connection.specs.declared.socket.Wants.{Wants}
use Rattle.bike_http_connection.specs.declared.socket.Wants.TheVariants.{Reads, Writes}
use Rattle.bike_http_connection.specs.Asking.{Coming, ahead_as, coming_from, unread}
use Rattle.bike_http_connection.specs.Settled.{IsComplete}
use Rattle.bike_http_connection.specs.Awaiting.{shows_feed}

-- A client: when it was accepted, and all that it sends; its request, while that isn't answered; and its response: what
-- it took, and what of its answer is still to be sent to it.
pub record Connected : Type 0 where
  pub client : Coming
  pub ahead : List Coming
  pub response : List ℕ

-- A connection: its client, when it is given up, and whether its request is there and may ask for a feed.
pub record Opened : Type 0 where
  pub who : Connected
  pub end : Duration
  pub may_be_feed : Bool

-- a client who has this one request to be answered
abbrev pub asking : Connected → Coming → Connected
asking one coming = record one { ahead = coming ∷ [] }

-- .. and who was answered: all that it took before, and then the answer
abbrev pub answered : Connected → List ℕ → Connected
answered one answer = record one { ahead = []; response = one.response ++ answer }

-- what of an answer is still to be sent
abbrev pub left_in : State → List ℕ
left_in (Gathering gathering) = []
left_in (Ready gathering) = []
left_in (Sending answer is_early) = answer
left_in (Lingering pieces) = []

-- what its socket is to be ready for
abbrev pub awaited_in : State → Wants
awaited_in (Gathering gathering) = Reads
awaited_in (Ready gathering) = Reads
awaited_in (Sending answer is_early) = Writes
awaited_in (Lingering pieces) = Reads

-- its request is there, and may ask for a feed
abbrev pub asks_feed : State → Bool
asks_feed (Gathering gathering) = false
asks_feed (Ready gathering) = shows_feed gathering.stage
asks_feed (Sending answer is_early) = false
asks_feed (Lingering pieces) = false

-- its answer goes out
abbrev pub IsUnderWay : State → Type 0
IsUnderWay (Gathering gathering) = ⊥
IsUnderWay (Ready gathering) = ⊥
IsUnderWay (Sending answer is_early) = ⊤
IsUnderWay (Lingering pieces) = ⊥

-- a request of which no more is wanted, where it is told as there, and where it is handed out
module _ {S : Type 0} (known : Bool) (coming : S → List ℕ) where
  abbrev pub IsReady : Peer S → State → Type 0
  IsReady peer (Gathering gathering) = ⊤
  IsReady peer (Ready gathering) = IsComplete known gathering.is_ended (coming peer.socket) gathering.bytes.items
  IsReady peer (Sending answer is_early) = ⊤
  IsReady peer (Lingering pieces) = ⊤

  abbrev pub IsRequest : Exchange S → Type 0
  IsRequest exchange =
      IsComplete known exchange.request.is_ended (coming exchange.peer.socket) (unread exchange.request)

-- a client that is handed out, by what it sends in all and what it took; its request is told beside it
abbrev pub peer_as : {S : Type 0} → (S → List ℕ) → (S → List ℕ) → Peer S → Connected
peer_as {S} input taken peer = record {
  client = record { moment = peer.moment; input = input peer.socket };
  ahead = [];
  response = taken peer.socket;
}

-- by what each client sends in all, what comes of it still, and what it took
module _ {S : Type 0} (input coming taken : S → List ℕ) where
  abbrev pub connected_as : Peer S → State → Connected
  connected_as peer state = record {
    client = record { moment = peer.moment; input = input peer.socket };
    ahead = ahead_as coming peer state;
    response = taken peer.socket ++ left_in state;
  }

  abbrev pub opened_as : Peer S → State → Opened
  opened_as peer state = record { who = connected_as peer state; end = peer.end; may_be_feed = asks_feed state }

  -- one that is accepted, of whose request this came
  abbrev pub begun_as : S → ℕ → List ℕ → Connected
  begun_as socket moment came = record {
    client = record { moment = moment; input = input socket };
    ahead = record { moment = moment; input = came ++ coming socket } ∷ [];
    response = taken socket;
  }

  -- one that is handed out to be answered
  abbrev pub handed_as : Exchange S → Connected
  handed_as exchange = asking (peer_as input taken exchange.peer) (coming_from coming exchange)
