-- What accepting a connection gives.
use Rattle.std.specs.Prelude.{◌≡◌, Bool, IsTrue, ℕ, ◌+◌, List, [], ◌∷◌, Option, Some, None, IfSome, IsSomeAnd}
use Rattle.std.specs.Prelude.{MatchOption, Result, Ok, Err}
use Rattle.bike_http_connection.specs.Asking.{Coming, AsksAs}
use Rattle.bike_http_connection.specs.Connected.{Connected, asking}
use Rattle.bike_http_connections.specs.Ahead.{Loses, ahead_of}
use Rattle.bike_server.specs.declared.arrivals.Arrival.{Arrival}
use Rattle.bike_server.specs.declared.arrivals.AcceptFault.{AcceptFault}
use Rattle.bike_server.specs.Visits.{Visits}

-- nobody is accepted; some may end
pub record AcceptsNone (old after : Visits) : Type 0 where
  pub clients : Loses old.clients after.clients
  pub kept : IfSome old.kept (λ kept. after.kept ≡ Some kept)

-- what is known of a client, of its request and of what it was sent
module _ {C R W : Type 0} (may_fail : Bool) (connected : C → Connected) (remaining : R → Option (List ℕ))
    (contents : W → Option (List ℕ)) where
  -- One client is accepted as it was, at the moment of its own acceptance: what can be read asks for what all asks that
  -- it sends, and no answer was written. Some others may end.
  pub record AcceptsOne (old : Visits) (new : Option Visits) (arrival : Arrival C R W) : Type 0 where
    pub coming : Coming
    pub after : Visits
    pub now : new ≡ Some after
    pub clients : Loses old.clients (asking (connected arrival.client) coming ∷ after.clients)
    pub moment : arrival.moment ≡ coming.moment
    pub read : List ℕ
    pub reads : remaining arrival.reader ≡ Some read
    pub asks : AsksAs read coming.input
    pub writes : contents arrival.writer ≡ Some []
    pub kept : MatchOption old.kept (after.kept ≡ None)
        (λ kept. after.kept ≡ Some (record { gone = kept.gone; pending = kept.pending + 1 }))

  -- WHAT ACCEPTING GIVES: one of those who are there; or none, where no request is ahead any more; where it fails,
  -- which not all do, some may have ended. What isn't known stays so.
  abbrev pub Accepts : Option Visits → Option Visits → Result (Option (Arrival C R W)) AcceptFault → Type 0
  Accepts None new result = new ≡ None
  Accepts (Some old) new (Ok (Some arrival)) = AcceptsOne old new arrival
  Accepts (Some old) new (Ok None) = IsSomeAnd new (λ after. (ahead_of after.clients ≡ []) × AcceptsNone old after)
  Accepts (Some old) new (Err fault) = IsTrue may_fail × IsSomeAnd new (λ after. AcceptsNone old after)
