-- What connections are answered, one after the other.
use Rattle.std.specs.Prelude.{◌≡◌, ◌⊎◌, Bool, ℕ, ◌<◌, IsTrue, List, [], ◌∷◌, ◌++◌, length, Option, Some, IfSome}
use Rattle.std.specs.Prelude.{IsSomeAnd, Result, Ok, Err}
use Rattle.sqlite_trees.specs.declared.store.Store.{Ghosts}
use Rattle.bike_operator.specs.Operator.{Operator}
use Rattle.bike_schema.specs.Stands.{AllLeft}
use Rattle.bike_desk.specs.Desk.{DeskValue, desk_state, IsAt, TreesStandForEither}
use Rattle.bike_http.specs.Exchange.{Response, published, bytes_of, response_status, Answers}
use Rattle.bike_http.specs.Telling.{unavailable}
use Rattle.bike_http.specs.declared.exchange.Served.{Served}
use Rattle.bike_http.specs.declared.exchange.Served.TheVariants.{Empty, Status}
use Rattle.bike_http.specs.declared.exchange.ServeFault.{ServeFault}
use Rattle.bike_http.specs.declared.exchange.ServeFault.TheVariants.{Read, Write, Cut}
use Rattle.bike_server.specs.declared.fault.ServerFault.{ServerFault}
use Rattle.bike_server.specs.declared.fault.ServerFault.TheVariants.{StoreFailed, AcceptFailed}
use Rattle.bike_http_connection.specs.Asking.{Coming}
use Rattle.bike_http_connection.specs.Connected.{Connected}
use Rattle.bike_http_connections.specs.Ahead.{Loses, ahead_of}
use Rattle.bike_server.specs.Visits.{Leaving, Kept, Visits, LetsGo}
use Rattle.bike_server.specs.Clients.{SendsEachItsOwn}

-- ---- one connection

-- the bytes begin with these
abbrev pub BeginsWith : List ℕ → List ℕ → Type 0
BeginsWith bytes front = (rest : List ℕ) × (bytes ≡ front ++ rest)

-- the response to what comes, and the operator after it; or that there is no answer now, and the operator as it was
abbrev pub IsResponse : Operator → Coming → Response → Operator → Type 0
IsResponse s coming response next =
    Answers (Some coming.input) s coming.moment response next ⊎ ((response ≡ unavailable) × (next ≡ s))

-- What is sent as an exchange ends in that way, and the operator after it. That a read or a write failed is what the
-- exchange says: no contract of a reader tells a read that failed from one that wasn't made.
abbrev pub IsAnsweredBy : Operator → Coming → Result Served ServeFault → List ℕ → Operator → Type 0
IsAnsweredBy s coming (Ok Empty) sent next = (coming.input ≡ []) × (sent ≡ []) × (next ≡ s)
IsAnsweredBy s coming (Ok (Status status)) sent next =
    (response : Response) × IsResponse s coming response next
    × (status ≡ response_status response) × (sent ≡ bytes_of response)
IsAnsweredBy s coming (Err Read) sent next = (sent ≡ []) × (next ≡ s)
IsAnsweredBy s coming (Err Write) sent next =
    (response : Response) × IsResponse s coming response next × BeginsWith (bytes_of response) sent
IsAnsweredBy s coming (Err Cut) sent next = ⊥

-- ONE CONNECTION IS ANSWERED, by an operator at its moment; the operator after it
abbrev pub IsAnswered : Operator → Coming → Leaving → Operator → Type 0
IsAnswered s coming leaving next = IsAnsweredBy s coming leaving.served leaving.sent next

-- ONE AFTER THE OTHER, each once, each at the moment of its own acceptance, and by the operator after those before it
abbrev pub AreAnswered : Operator → List Coming → List Leaving → Operator → Type 0
AreAnswered s [] [] next = next ≡ s
AreAnswered s [] (leaving ∷ gone) next = ⊥
AreAnswered s (coming ∷ came) [] next = ⊥
AreAnswered s (coming ∷ came) (leaving ∷ gone) next =
    (later : Operator) × IsAnswered s coming leaving later × AreAnswered later came gone next

-- these were let go behind those before
abbrev pub Adds : Option Kept → Option Kept → List Leaving → Type 0
Adds old new gone = IfSome old (λ before. IsSomeAnd new (λ after. after.gone ≡ before.gone ++ gone))

-- what is sent where the desk stops: that there is no answer now, or a front of that
abbrev pub IsRefused : Response → Result Served ServeFault → List ℕ → Type 0
IsRefused response (Ok Empty) sent = ⊥
IsRefused response (Ok (Status status)) sent = (status ≡ response_status unavailable) × (sent ≡ bytes_of unavailable)
IsRefused response (Err Read) sent = ⊥
IsRefused response (Err Write) sent = BeginsWith (bytes_of unavailable) sent
IsRefused response (Err Cut) sent = ⊥

module _ {S : Type 0} (g : Ghosts S) (desk : DeskValue S) where
  -- The desk stopped at this connection: what a crash may leave stands for the operator before its request or after it.
  pub record StopsAt (s : Operator) (coming : Coming) (leaving : Leaving) : Type 0 where
    pub stopped : IsTrue desk.is_stopped
    pub response : Response
    pub next : Operator
    pub asks : Answers (Some coming.input) s coming.moment response next
    pub refused : IsRefused response leaving.served leaving.sent
    pub left : AllLeft (desk_state g desk) (TreesStandForEither s next)

  -- how one exchange ends
  abbrev pub Exchanges : Operator → Coming → Leaving → Type 0
  Exchanges s coming leaving =
      ((next : Operator) × IsAnswered s coming leaving next × IsAt g desk next) ⊎ StopsAt s coming leaving

  -- the same, of a client that is let go
  abbrev pub ExchangesOne : Operator → Connected → Coming → Option Visits → Option Visits → Type 0
  ExchangesOne s client coming before new =
      IfSome before (λ visits. (leaving : Leaving) × (after : Visits) × (new ≡ Some after)
      × LetsGo visits client leaving after × Exchanges s coming leaving)

  -- ---- all connections

  -- Some of those ahead were answered, in the order in which they were handed out; others are ahead still or lost.
  pub record ServesSome (s : Operator) (order : List Coming) (before after : Visits) : Type 0 where
    pub gone : List Leaving
    pub next : Operator
    pub answered : AreAnswered s order gone next
    pub sent : Adds before.kept after.kept gone
    pub clients : SendsEachItsOwn order gone before.clients after.clients
    pub ahead : Loses (ahead_of before.clients) (order ++ ahead_of after.clients)
    pub at : IsAt g desk next

  -- So many were answered; or fewer, and none is ahead any more.
  pub record ServesAll (s : Operator) (count : ℕ) (before after : Visits) : Type 0 where
    pub order : List Coming
    pub serves : ServesSome s order before after
    pub all : (length order ≡ count) ⊎ ((length order < count) × (ahead_of after.clients ≡ []))

  -- Fewer were answered when accepting failed.
  pub record ServesFewer (s : Operator) (count : ℕ) (before after : Visits) : Type 0 where
    pub order : List Coming
    pub serves : ServesSome s order before after
    pub few : length order < count

  -- The connections up to this one were answered, the desk stopped at it, and none was accepted after it.
  pub record ServesUntilStopped (s : Operator) (count : ℕ) (before after : Visits) : Type 0 where
    pub came : List Coming
    pub last : Coming
    pub ahead : Loses (ahead_of before.clients) (came ++ last ∷ ahead_of after.clients)
    pub within : length came < count
    pub gone : List Leaving
    pub later : Operator
    pub answered : AreAnswered s came gone later
    pub leaving : Leaving
    pub stops : StopsAt later last leaving
    pub sent : Adds before.kept after.kept (gone ++ leaving ∷ [])
    pub clients : SendsEachItsOwn (came ++ last ∷ []) (gone ++ leaving ∷ []) before.clients after.clients

  -- SERVING, by how it ended, where accepting may fail or may not; nothing else ends it
  abbrev pub ServesInOrder : Bool → Operator → ℕ → Visits → Visits → Result (Unit {0}) ServerFault → Type 0
  ServesInOrder may_fail s count before after (Ok _) = ServesAll s count before after
  ServesInOrder may_fail s count before after (Err StoreFailed) = ServesUntilStopped s count before after
  ServesInOrder may_fail s count before after (Err AcceptFailed) = IsTrue may_fail × ServesFewer s count before after
  ServesInOrder may_fail s count before after (Err _) = ⊥
