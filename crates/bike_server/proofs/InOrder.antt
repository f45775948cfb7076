-- Connections that are answered one after the other, in the order in which they are accepted.
use Rattle.std.proofs.Common.{◌≡◌, inl, inr, ℕ, ◌+◌, ◌-◌, ◌<◌, Bool, IsTrue, true, false, List, [], ◌∷◌, ◌++◌, length, refl, sym, subst, ap, ◌∙◌, append_assoc, append-nil, Option, Some, None, Result}
use Rattle.std.proofs.Common.{Ok, Err, IfSome, IsSomeAnd, MatchOption, length-append, arith}
use Rattle.sqlite_trees.specs.declared.store.Store.{Ghosts}
use Rattle.bike_operator.specs.Operator.{Operator}
use Rattle.bike_desk.specs.Desk.{DeskValue, IsAt}
use Rattle.bike_http.specs.declared.exchange.Served.{Served}
use Rattle.bike_http.specs.declared.exchange.ServeFault.{ServeFault}
use Rattle.bike_http_connection.specs.Asking.{Coming, AsksAs}
use Rattle.bike_http_connection.specs.Connected.{Connected}
use Rattle.bike_http_connections.specs.Ahead.{Loses, ahead_of}
use Rattle.bike_http_connections.proofs.Losing.{loses_none}
use Rattle.bike_server.specs.declared.arrivals.AcceptFault.{AcceptFault}
use Rattle.bike_server.specs.declared.arrivals.Arrival.{Arrival}
use Rattle.bike_server.specs.Visits.{Leaving, Kept, Visits, IsOpen, LetsGo}
use Rattle.bike_server.specs.Arrivals.{AcceptsOne, AcceptsNone, Accepts}
use Rattle.bike_server.specs.Clients.{SendsEachItsOwn}
use Rattle.bike_server.proofs.ClientLemmas.{none_sent, sent_still, sent_one, requests_sent}
use Rattle.bike_server.specs.Answering.{IsAnswered, AreAnswered, Exchanges, ExchangesOne, ServesSome, ServesAll, ServesFewer, ServesUntilStopped, Adds}

-- ---- one more

-- one is answered behind the others
AreAnswered-push : (s : Operator) (order : List Coming) (gone : List Leaving) (middle : Operator) (coming : Coming) (leaving : Leaving)
    (next : Operator) → AreAnswered s order gone middle → IsAnswered middle coming leaving next
    → AreAnswered s (order ++ coming ∷ []) (gone ++ leaving ∷ []) next
AreAnswered-push s [] [] middle coming leaving next them it = (next, subst (λ (o : Operator). IsAnswered o coming leaving next) them it, refl)
AreAnswered-push s [] (x ∷ gone) middle coming leaving next them it = absurd them
AreAnswered-push s (c ∷ order) [] middle coming leaving next them it = absurd them
AreAnswered-push s (c ∷ order) (x ∷ gone) middle coming leaving next them it =
    (them.0, them.1, AreAnswered-push them.0 order gone middle coming leaving next them.2 it)

-- of those that are kept there are none more, as many as before, or one more
Adds-none : (kept : Option Kept) → Adds kept kept []
Adds-none None = tt
Adds-none (Some kept) = sym (append-nil kept.gone)

Adds-same : (first old new : Option Kept) (gone : List Leaving) → Adds first old gone → IfSome old (λ kept. new ≡ Some kept) → Adds first new gone
Adds-same None old new gone adds same = tt
Adds-same (Some before) None new gone adds same = absurd adds
Adds-same (Some before) (Some kept) new gone adds same =
    subst (λ (o : Option Kept). IsSomeAnd o (λ after. after.gone ≡ before.gone ++ gone)) (sym same) adds

Adds-push : (first old middle new : Option Kept) (gone : List Leaving) (leaving : Leaving) → Adds first old gone
    → MatchOption old (middle ≡ None) (λ kept. middle ≡ Some (record { gone = kept.gone; pending = kept.pending + 1 }))
    → IfSome middle (λ kept. new ≡ Some (record { gone = kept.gone ++ leaving ∷ []; pending = kept.pending - 1 }))
    → Adds first new (gone ++ leaving ∷ [])
Adds-push None old middle new gone leaving adds accepts goes = tt
Adds-push (Some before) None middle new gone leaving adds accepts goes = absurd adds
Adds-push (Some before) (Some kept) None new gone leaving adds accepts goes = absurd cc
Adds-push (Some before) (Some kept) (Some between) new gone leaving adds accepts goes =
    let same : between.gone ≡ kept.gone = cc in
    let all : between.gone ++ leaving ∷ [] ≡ before.gone ++ (gone ++ leaving ∷ []) =
    ap (λ (xs : List Leaving). xs ++ leaving ∷ []) (same ∙ adds) ∙ append_assoc before.gone gone (leaving ∷ []) in
    subst (λ (o : Option Kept). IsSomeAnd o (λ after. after.gone ≡ before.gone ++ (gone ++ leaving ∷ []))) (sym goes) all

-- what holds of a value that is there
at_some : {X : Type 0} (o : Option X) (x : X) (P : X → Type 0) → o ≡ Some x → IfSome o P → P x
at_some {X} o x P e it = let holds : IfSome (Some x) P = subst (λ (p : Option X). IfSome p P) e it in holds

there : {X : Type 0} (o : Option X) (P : X → Type 0) → IsSomeAnd o P → (x : X) × (o ≡ Some x) × P x
there {X} None P it = absurd it
there {X} (Some x) P it = (x, refl, it)

-- ---- one connection

-- an accepted connection is open
opens_kept : (old new : Option Kept)
    → MatchOption old (new ≡ None) (λ kept. new ≡ Some (record { gone = kept.gone; pending = kept.pending + 1 }))
    → IfSome new (λ kept. 0 < kept.pending)
opens_kept old None accepts = tt
opens_kept None (Some kept) accepts = absurd cc
opens_kept (Some before) (Some kept) accepts =
    let more : kept.pending ≡ before.pending + 1 = cc in omega (arith, more)

pub opens : {C R W : Type 0} (may_fail : Bool) (connected : C → Connected) (remaining : R → Option (List ℕ)) (contents : W → Option (List ℕ))
    (now middle : Option Visits) (arrival : Arrival C R W) → Accepts may_fail connected remaining contents now middle (Ok (Some arrival)) → IsOpen middle
opens {C} {R} {W} may_fail connected remaining contents None middle arrival accepts = subst IsOpen (sym accepts) tt
opens {C} {R} {W} may_fail connected remaining contents (Some old) middle arrival accepts =
    subst IsOpen (sym accepts.now) (opens_kept old.kept accepts.after.kept accepts.kept)

-- what becomes of a connection that is let go
pub gone_as : (known new : Option Visits) (one : Connected) (contents : Option (List ℕ)) (served : Result Served ServeFault) (Ends : Leaving → Type 0)
    → IfSome known (λ visits. IfSome contents (λ sent. IsSomeAnd new (λ after. LetsGo visits one (record { served = served; sent = sent }) after)))
    → IsSomeAnd contents (λ sent. Ends (record { served = served; sent = sent }))
    → IfSome known (λ visits. (leaving : Leaving) × (after : Visits) × (new ≡ Some after) × LetsGo visits one leaving after × Ends leaving)
gone_as None new one contents served Ends goes ends = tt
gone_as (Some visits) new one None served Ends goes ends = absurd ends
gone_as (Some visits) None one (Some sent) served Ends goes ends = absurd goes
gone_as (Some visits) (Some after) one (Some sent) served Ends goes ends = (record { served = served; sent = sent }, after, refl, goes, ends)

-- ---- all of them

module _ {S : Type 0} (g : Ghosts S) where
  -- So many were answered, in the order in which they were accepted, and the desk is at the operator after them.
  pub record SoFar (desk : DeskValue S) (s : Operator) (count : ℕ) (before : Visits) (now : Option Visits) : Type 0 where
    pub order : List Coming
    pub after : Visits
    pub known : now ≡ Some after
    pub counted : length order ≡ count
    pub serves : ServesSome g desk s order before after

  -- none was accepted yet
  pub none_yet : (desk : DeskValue S) (s : Operator) (known : Option Visits) → IsAt g desk s → IfSome known (λ before. SoFar desk s 0 before known)
  none_yet desk s None at = tt
  none_yet desk s (Some before) at = record {
    order = [];
    after = before;
    known = refl;
    counted = refl;
    serves = record {
      gone = [];
      next = s;
      answered = refl;
      sent = Adds-none before.kept;
      clients = none_sent before.clients;
      ahead = loses_none (ahead_of before.clients);
      at = at;
    };
  }

  -- as many as were wanted
  pub enough : (desk : DeskValue S) (s : Operator) (count so_far : ℕ) (known now : Option Visits)
      → IfSome known (λ before. SoFar desk s so_far before now) → so_far ≡ count
      → IfSome known (λ before. IsSomeAnd now (λ after. ServesAll g desk s count before after))
  enough desk s count so_far None now it reached = tt
  enough desk s count so_far (Some before) now it reached =
      subst (λ (o : Option Visits). IsSomeAnd o (λ after. ServesAll g desk s count before after)) (sym it.known)
      (record { order = it.order; serves = it.serves; all = inl (it.counted ∙ reached) })

  -- some of the others end, and nobody is let go
  still : (desk : DeskValue S) (s : Operator) (order : List Coming) (before old new : Visits) → ServesSome g desk s order before old
      → AcceptsNone old new → ServesSome g desk s order before new
  still desk s order before old new it none =
      let clients = sent_still order it.gone before.clients old.clients new.clients it.clients none.clients in
      record {
        gone = it.gone;
        next = it.next;
        answered = it.answered;
        sent = Adds-same before.kept old.kept new.kept it.gone it.sent none.kept;
        clients = clients;
        ahead = requests_sent order it.gone before.clients new.clients clients;
        at = it.at;
      }

  module _ {C R W : Type 0} (may_fail : Bool) (connected : C → Connected) (remaining : R → Option (List ℕ)) (contents : W → Option (List ℕ)) (desk : DeskValue S) (s : Operator)
      (count so_far : ℕ) (few : so_far < count) (now later : Option Visits) where
    -- nothing more is ahead
    pub no_more : (known : Option Visits) → IfSome known (λ before. SoFar desk s so_far before now) → Accepts may_fail connected remaining contents now later (Ok None)
        → IfSome known (λ before. IsSomeAnd later (λ after. ServesAll g desk s count before after))
    no_more None it none = tt
    no_more (Some before) it none =
        let end = there later (λ after. (ahead_of after.clients ≡ []) × AcceptsNone it.after after)
        (subst (λ (o : Option Visits). Accepts may_fail connected remaining contents o later (Ok None)) it.known none) in
        subst (λ (o : Option Visits). IsSomeAnd o (λ after. ServesAll g desk s count before after)) (sym end.1) (record {
          order = it.order;
          serves = still desk s it.order before it.after end.0 it.serves end.2.1;
          all = inr (omega (arith, it.counted, few), end.2.0);
        })

    -- accepting fails
    pub fails : (fault : AcceptFault) (known : Option Visits) → IfSome known (λ before. SoFar desk s so_far before now)
        → Accepts may_fail connected remaining contents now later (Err fault)
        → IfSome known (λ before. IsSomeAnd later (λ after. IsTrue may_fail × ServesFewer g desk s count before after))
    fails fault None it none = tt
    fails fault (Some before) it none =
        let told = subst (λ (o : Option Visits). Accepts may_fail connected remaining contents o later (Err fault)) it.known none in
        let end = there later (λ after. AcceptsNone it.after after) told.1 in
        subst (λ (o : Option Visits). IsSomeAnd o (λ after. IsTrue may_fail × ServesFewer g desk s count before after)) (sym end.1) (
          told.0,
          record {
            order = it.order;
            serves = still desk s it.order before it.after end.0 it.serves end.2;
            few = omega (arith, it.counted, few);
          },
        )

  module _ {C R W : Type 0} (may_fail : Bool) (connected : C → Connected) (remaining : R → Option (List ℕ)) (contents : W → Option (List ℕ)) (desk new : DeskValue S) (s : Operator)
      (so_far : ℕ) (now middle later : Option Visits) (arrival : Arrival C R W)
      (serves : (s' : Operator) → IsAt g desk s' → (read input : List ℕ) → remaining arrival.reader ≡ Some read → AsksAs read input → contents arrival.writer ≡ Some []
      → ExchangesOne g new s' (connected arrival.client) (record { moment = arrival.moment; input = input }) middle later)
      (accepts : Accepts may_fail connected remaining contents now middle (Ok (Some arrival))) where
    module _ (before : Visits) (it : SoFar desk s so_far before now) where
      -- the one that is accepted
      abbrev one : AcceptsOne may_fail connected remaining contents it.after middle arrival
      one = subst (λ (o : Option Visits). Accepts may_fail connected remaining contents o middle (Ok (Some arrival))) it.known accepts

      -- how it is let go, and how its exchange ends
      abbrev Went : Visits → Coming → Type 0
      Went visits c = (leaving : Leaving) × (after : Visits) × (later ≡ Some after) × LetsGo visits (connected arrival.client) leaving after × Exchanges g new it.serves.next c leaving

      went : Went one.after one.coming
      went =
          subst (λ (n : ℕ). Went one.after (record { moment = n; input = one.coming.input })) one.moment
          (at_some middle one.after (λ v. Went v (record { moment = arrival.moment; input = one.coming.input })) one.now
          (serves it.serves.next it.serves.at one.read one.coming.input one.reads one.asks one.writes))

      -- it is sent its own answer, as those before it were
      sends : SendsEachItsOwn (it.order ++ one.coming ∷ []) (it.serves.gone ++ went.0 ∷ []) before.clients went.1.clients
      sends =
          sent_one it.order it.serves.gone before.clients it.after.clients one.after.clients went.1.clients (connected arrival.client) one.coming went.0 it.serves.clients
          one.clients went.3.clients

      -- the desk goes on behind it
      goes_on : new.is_stopped ≡ false → SoFar new s (so_far + 1) before later
      goes_on on = elim went.4 [
        | inl answered ↦ record {
          order = it.order ++ one.coming ∷ [];
          after = went.1;
          known = went.2;
          counted = omega (arith, length-append it.order (one.coming ∷ []), it.counted);
          serves = record {
            gone = it.serves.gone ++ went.0 ∷ [];
            next = answered.0;
            answered =
                AreAnswered-push s it.order it.serves.gone it.serves.next one.coming went.0 answered.0 it.serves.answered answered.1;
            sent =
                Adds-push before.kept it.after.kept one.after.kept went.1.kept it.serves.gone went.0 it.serves.sent one.kept went.3.kept;
            clients = sends;
            ahead = requests_sent (it.order ++ one.coming ∷ []) (it.serves.gone ++ went.0 ∷ []) before.clients went.1.clients sends;
            at = answered.2;
          };
        }
        | inr stops ↦ absurd (let e : true ≡ false = sym stops.stopped ∙ on in cc)
      ]

      -- .. or is stopped
      stops_here : (count : ℕ) → so_far < count → new.is_stopped ≡ true → IsSomeAnd later (λ after. ServesUntilStopped g new s count before after)
      stops_here count within off = elim went.4 [
        | inl answered ↦ absurd (let e : true ≡ false = sym off ∙ answered.2.goes_on in cc)
        | inr stops ↦ subst (λ (o : Option Visits). IsSomeAnd o (λ after. ServesUntilStopped g new s count before after)) (sym went.2) (record {
          came = it.order;
          last = one.coming;
          clients = sends;
          ahead =
              subst (λ (xs : List Coming). Loses (ahead_of before.clients) xs) (append_assoc it.order (one.coming ∷ []) (ahead_of went.1.clients))
              (requests_sent (it.order ++ one.coming ∷ []) (it.serves.gone ++ went.0 ∷ []) before.clients went.1.clients sends);
          within = omega (arith, it.counted, within);
          gone = it.serves.gone;
          later = it.serves.next;
          answered = it.serves.answered;
          leaving = went.0;
          stops = stops;
          sent =
              Adds-push before.kept it.after.kept one.after.kept went.1.kept it.serves.gone went.0 it.serves.sent one.kept went.3.kept;
        })
      ]

    -- the same of what may be known
    pub one_more : (known : Option Visits) → IfSome known (λ before. SoFar desk s so_far before now) → new.is_stopped ≡ false
        → IfSome known (λ before. SoFar new s (so_far + 1) before later)
    one_more None it on = tt
    one_more (Some before) it on = goes_on before it on

    pub stopped_here : (known : Option Visits) → IfSome known (λ before. SoFar desk s so_far before now) → (count : ℕ) → so_far < count → new.is_stopped ≡ true
        → IfSome known (λ before. IsSomeAnd later (λ after. ServesUntilStopped g new s count before after))
    stopped_here None it count within off = tt
    stopped_here (Some before) it count within off = stops_here before it count within off
