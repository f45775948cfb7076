-- Clients who are sent their answers, one after the other.
use Rattle.std.proofs.Common.{◌≡◌, List, [], ◌∷◌, ◌++◌, Bool, true, false, All, map, refl, sym, subst, ap, ◌∙◌, append_assoc}
use Rattle.std.proofs.lemmas.List.{map-append}
use Rattle.std.proofs.lemmas.List.Elements.{All-nil, All-cons, All-head, All-tail}
use Rattle.std.proofs.lemmas.List.Sorted.{IsPermutation-middle, All-permutation}
use Rattle.bike_http_connection.specs.Asking.{Coming}
use Rattle.bike_http_connection.specs.Connected.{Connected, asking, answered}
use Rattle.bike_http_connections.specs.Ahead.{Loses, fresh, ahead_of}
use Rattle.bike_http_connections.proofs.Losing.{loses_none, loses_then, loses_behind, loses_moved}
use Rattle.bike_http_connections.proofs.Requests.{loses_requests}
use Rattle.bike_http_connections.proofs.Picking.{passing, picked}
use Rattle.bike_server.specs.Visits.{Leaving}
use Rattle.bike_server.specs.Clients.{Exchanged, as_asking, as_answered, IsOwn, SendsEachItsOwn}

-- ---- clients

abbrev is_some : List Coming → Bool
is_some [] = false
is_some (coming ∷ others) = true

-- it has a request
abbrev asks : Connected → Bool
asks one = is_some one.ahead

none_asks : (exchanged : List Exchanged) → passing asks (map as_answered exchanged) ≡ []
none_asks [] = refl
none_asks (one ∷ exchanged) = none_asks exchanged

-- ---- clients who weren't accepted before

abbrev IsFresh : Connected → Type 0
IsFresh one = one ≡ fresh one.client

all_fresh : (coming : List Coming) → All IsFresh (map fresh coming)
all_fresh [] = All-nil IsFresh
all_fresh (one ∷ others) = All-cons IsFresh (fresh one) (map fresh others) refl (all_fresh others)

past_lost : (lost left : List Connected) → All IsFresh (lost ++ left) → All IsFresh left
past_lost [] left all = all
past_lost (one ∷ lost) left all = past_lost lost left (All-tail IsFresh one (lost ++ left) all)

own_one : (one : Exchanged) → IsFresh (as_asking one) → IsOwn one
own_one one is =
    let ahead : one.request ∷ [] ≡ one.client.client ∷ [] = ap (λ (c : Connected). c.ahead) is in
    let same : one.client.client ≡ one.request = cc in (same, ap (λ (c : Connected). c.response) is)

own_each : (exchanged : List Exchanged) (others : List Connected) → All IsFresh (map as_asking exchanged ++ others) → All IsOwn exchanged
own_each [] others all = All-nil IsOwn
own_each (one ∷ exchanged) others all =
    All-cons IsOwn one exchanged (own_one one (All-head IsFresh (as_asking one) (map as_asking exchanged ++ others) all))
    (own_each exchanged others (All-tail IsFresh (as_asking one) (map as_asking exchanged ++ others) all))

own_requests : (before : List Connected) (exchanged : List Exchanged) (others : List Connected) → Loses before (map as_asking exchanged ++ others)
    → (coming : List Coming) → before ≡ map fresh coming → All IsOwn exchanged
own_requests before exchanged others were coming is =
    own_each exchanged others
    (past_lost were.0 (map as_asking exchanged ++ others)
    (All-permutation IsFresh before (were.0 ++ (map as_asking exchanged ++ others)) were.1 (subst (λ (xs : List Connected). All IsFresh xs) (sym is) (all_fresh coming))))

-- ---- what is sent to them

-- nobody was sent anything yet
pub none_sent : (clients : List Connected) → SendsEachItsOwn [] [] clients clients
none_sent clients = record {
  exchanged = [];
  others = clients;
  requests = refl;
  leavings = refl;
  were = loses_none clients;
  are = loses_none clients;
  own = λ coming is. All-nil IsOwn;
}

module _ (order : List Coming) (gone : List Leaving) (before : List Connected) where
  -- some ended
  pub sent_still : (old new : List Connected) → SendsEachItsOwn order gone before old → Loses old new → SendsEachItsOwn order gone before new
  sent_still old new it ended = record {
    exchanged = it.exchanged;
    others = it.others;
    requests = it.requests;
    leavings = it.leavings;
    were = it.were;
    are = loses_then (map as_answered it.exchanged ++ it.others) old new it.are ended;
    own = it.own;
  }

  -- one is accepted, and is let go with its answer
  pub sent_one : (old middle new : List Connected) (client : Connected) (coming : Coming) (leaving : Leaving) → SendsEachItsOwn order gone before old
      → Loses old (asking client coming ∷ middle) → Loses (answered client leaving.sent ∷ middle) new
      → SendsEachItsOwn (order ++ coming ∷ []) (gone ++ leaving ∷ []) before new
  sent_one old middle new client coming leaving it out back =
      let one : Exchanged = record { client = client; request = coming; leaving = leaving } in
      let front : List Connected = map as_answered it.exchanged in
      let taken : Loses (front ++ it.others) (as_asking one ∷ middle) = loses_then (front ++ it.others) old (as_asking one ∷ middle) it.are out in
      let left = picked asks front it.others taken.0 middle (as_asking one) (none_asks it.exchanged) refl taken.1 in
      let were : Loses before (map as_asking (it.exchanged ++ one ∷ []) ++ left.0) =
      subst (λ (xs : List Connected). Loses before xs)
      (sym (append_assoc (map as_asking it.exchanged) (as_asking one ∷ []) left.0)
      ∙ ap (λ (xs : List Connected). xs ++ left.0) (sym (map-append as_asking it.exchanged (one ∷ []))))
      (loses_then before (map as_asking it.exchanged ++ it.others) (map as_asking it.exchanged ++ as_asking one ∷ left.0) it.were
      (loses_behind (map as_asking it.exchanged) it.others (as_asking one ∷ left.0) (loses_moved it.others (as_asking one ∷ left.0) left.1))) in
      record {
        exchanged = it.exchanged ++ one ∷ [];
        others = left.0;
        requests = map-append (λ (x : Exchanged). x.request) it.exchanged (one ∷ []) ∙ ap (λ (xs : List Coming). xs ++ coming ∷ []) it.requests;
        leavings = map-append (λ (x : Exchanged). x.leaving) it.exchanged (one ∷ []) ∙ ap (λ (xs : List Leaving). xs ++ leaving ∷ []) it.leavings;
        were = were;
        own = own_requests before (it.exchanged ++ one ∷ []) left.0 were;
        are =
            subst (λ (xs : List Connected). Loses xs new)
            (sym (append_assoc front (as_answered one ∷ []) left.0)
            ∙ ap (λ (xs : List Connected). xs ++ left.0) (sym (map-append as_answered it.exchanged (one ∷ []))))
            (loses_then (front ++ as_answered one ∷ left.0) (as_answered one ∷ (front ++ left.0)) new
            (loses_moved (front ++ as_answered one ∷ left.0) (as_answered one ∷ (front ++ left.0)) (IsPermutation-middle front (as_answered one) left.0))
            (loses_then (as_answered one ∷ (front ++ left.0)) (as_answered one ∷ middle) new
            (loses_behind (as_answered one ∷ []) (front ++ left.0) middle left.2) back));
      }

-- ---- their requests

asked_each : (exchanged : List Exchanged) (others : List Connected)
    → ahead_of (map as_asking exchanged ++ others) ≡ map (λ (one : Exchanged). one.request) exchanged ++ ahead_of others
asked_each [] others = refl
asked_each (one ∷ exchanged) others = ap (λ (xs : List Coming). one.request ∷ xs) (asked_each exchanged others)

answered_each : (exchanged : List Exchanged) (others : List Connected) → ahead_of (map as_answered exchanged ++ others) ≡ ahead_of others
answered_each [] others = refl
answered_each (one ∷ exchanged) others = answered_each exchanged others

-- of the requests these were answered; the others are ahead still, or lost
pub requests_sent : (order : List Coming) (gone : List Leaving) (before after : List Connected) → SendsEachItsOwn order gone before after
    → Loses (ahead_of before) (order ++ ahead_of after)
requests_sent order gone before after it =
    loses_then (ahead_of before) (order ++ ahead_of it.others) (order ++ ahead_of after)
    (subst (λ (xs : List Coming). Loses (ahead_of before) xs)
    (asked_each it.exchanged it.others ∙ ap (λ (xs : List Coming). xs ++ ahead_of it.others) it.requests)
    (loses_requests before (map as_asking it.exchanged ++ it.others) it.were))
    (loses_behind order (ahead_of it.others) (ahead_of after)
    (subst (λ (xs : List Coming). Loses xs (ahead_of after)) (answered_each it.exchanged it.others)
    (loses_requests (map as_answered it.exchanged ++ it.others) after it.are)))
