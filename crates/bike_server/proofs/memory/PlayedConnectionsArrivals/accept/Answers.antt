use Rattle.std.proofs.Common.{◌≡◌, ℕ, ◌+◌, ◌-◌, List, ◌∷◌, ◌++◌, map, drop, vec_len, slice_index_or, Some, refl, sym, subst, ap, arith}
use Rattle.bike_http_connection.specs.Connected.{Connected}
use Rattle.bike_http_connections.specs.Ahead.{Loses, fresh}
use Rattle.bike_http_connections.proofs.Losing.{loses_one, loses_none}
use Rattle.bike_server.specs.Visits.{Kept}
use Rattle.bike_server.specs.Played.{coming_of, leaving_of, parted}
use Rattle.bike_server.proofs.Playing.{next_visit, nobody_ahead}
use Rattle.bike_server.proofs.memory.PlayedConnectionsArrivals.accept.Goals as goal

pub returns : goal.returns
returns c =
    let it = c.self.inside in
    let rest = map coming_of (drop (it.next + 1) it.visits.now) in
    let coming = coming_of (slice_index_or it.visits.now it.next c.index-self-self.result) in
    let gone : List Connected = map parted it.gone.items in
    let first : map coming_of (drop it.next it.visits.now) ≡ coming ∷ rest =
    next_visit it.visits.now it.next c.index-self-self.result (omega (arith, c.self.invariant.1, c.if-self.false)) in
    let pending : it.next + 1 - vec_len it.gone ≡ it.next - vec_len it.gone + 1 = omega (arith, c.self.invariant.0) in
    rw (← c.self.view_is) (record {
      coming = coming;
      after = record {
        clients = gone ++ map fresh rest;
        kept = Some (record { gone = map leaving_of it.gone.items; pending = it.next + 1 - vec_len it.gone });
      };
      now = refl;
      clients =
          subst (λ (xs : _). Loses (gone ++ map fresh xs) (fresh coming ∷ (gone ++ map fresh rest))) (sym first) (loses_one gone (map fresh rest) (fresh coming));
      moment = refl;
      read = coming.input;
      reads = refl;
      asks = λ told received. received;
      writes = ap Some c.new.ensures.items;
      kept = ap (λ (n : ℕ). Some (let kept : Kept = record { gone = map leaving_of it.gone.items; pending = n } in kept)) pending;
    })

pub returns-then-self : goal.returns-then-self
returns-then-self c =
    let it = c.self.inside in
    let clients : List Connected = map parted it.gone.items ++ map fresh (map coming_of (drop it.next it.visits.now)) in
    rw (← c.self.view_is)
    (nobody_ahead it.gone.items it.visits.now it.next c.if-self.true, record { clients = loses_none clients; kept = refl })
