-- The connections of a network, as they are served.
use Rattle.std.proofs.Common.{◌≡◌, ℕ, List, [], ◌∷◌, Bool, true, false, IsTrue, if◌then◌else◌, Option, Some, None, Ok, refl, sym, subst, ap}
use Rattle.bike_http_connection.specs.declared.exchange.Exchange.{Exchange}
use Rattle.bike_http_connection.specs.declared.peer.Peer.{Peer}
use Rattle.bike_http_connection.specs.declared.request.RequestReader.{RequestReader}
use Rattle.bike_http_connection.specs.Asking.{AsksAs, unread, coming_from}
use Rattle.bike_http_connection.specs.Connected.{Connected, peer_as, handed_as}
use Rattle.bike_http_connections.specs.Ahead.{Loses, ahead_of}
use Rattle.bike_http_connections.specs.Handed.{HandsOut}
use Rattle.bike_http_connections.proofs.Losing.{loses_all}
use Rattle.bike_server.specs.declared.arrivals.Arrival.{Arrival}
use Rattle.bike_server.specs.Visits.{Visits}
use Rattle.bike_server.specs.Arrivals.{Accepts}

-- the clients of a network; nothing else is kept
abbrev pub among : List Connected → Visits
among clients = record { clients = clients; kept = None }

abbrev pub known_of : Bool → List Connected → Option Visits
known_of known clients = if known then Some (among clients) else None

module _ {S : Type 0} (input coming taken : S → List ℕ) where
  abbrev pub Gives : Bool → List Connected → List Connected → Exchange S → List ℕ → Type 0
  Gives known old new exchange answer =
      Accepts true (peer_as input taken) (λ (request : RequestReader). Some (unread request)) (λ (bytes : List ℕ). Some bytes) (known_of known old) (known_of known new)
      (Ok (Some (let arrival : Arrival (Peer S) RequestReader (List ℕ) = record { moment = exchange.peer.moment; client = exchange.peer; reader = exchange.request; writer = answer } in arrival)))

  pub gives_one : (known : Bool) (old new : List Connected) (exchange : Exchange S) (answer : List ℕ)
      → (IsTrue known → HandsOut coming (ahead_of old) (ahead_of new) exchange answer) → (IsTrue known → Loses old (handed_as input coming taken exchange ∷ new))
      → Gives known old new exchange answer
  gives_one false old new exchange answer hands over = refl
  gives_one true old new exchange answer hands over = record {
    coming = coming_from coming exchange;
    after = among new;
    now = refl;
    clients = over refl;
    moment = refl;
    read = unread exchange.request;
    reads = refl;
    asks = subst (λ (xs : List ℕ). AsksAs (unread exchange.request) xs) (sym (hands refl).reads) (hands refl).asks;
    writes = ap Some (hands refl).writes;
    kept = refl;
  }

  pub gives_none : (known : Bool) (old new : List Connected) → (IsTrue known → new ≡ [])
      → Accepts {C = Peer S} {R = RequestReader} {W = List ℕ} true (peer_as input taken) (λ request. Some (unread request)) (λ bytes. Some bytes) (known_of known old) (known_of known new) (Ok None)
  gives_none false old new none = refl
  gives_none true old new none =
      (ap ahead_of (none refl), record { clients = subst (λ (xs : List Connected). Loses old xs) (sym (none refl)) (loses_all old); kept = tt })
