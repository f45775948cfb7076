-- The requests that aren't answered yet, of those that are there.
use Rattle.std.proofs.Common.{◌≡◌, ℕ, zero, suc, List, [], ◌∷◌, ◌++◌, ◌<◌, Some, length, map, swap, slice_index_or, slice_set, flat_map, true, IsPermutation, refl, subst, ap, arith}
use Rattle.std.proofs.lemmas.List.Concat.{flat_map-append}
use Rattle.std.proofs.lemmas.List.Sorted.{IsPermutation-refl, IsPermutation-trans, IsPermutation-append_right, IsPermutation-keeps}
use Rattle.bike_http_connection.specs.declared.exchange.Exchange.{Exchange}
use Rattle.bike_http_connection.specs.Asking.{Coming, coming_from, unread}
use Rattle.bike_http_connection.specs.Connected.{Connected, handed_as}
use Rattle.bike_http_connection.proofs.Complete.{asks_as}
use Rattle.bike_http_connections.specs.Ahead.{Loses, fresh, ahead_of}
use Rattle.bike_http_connections.specs.Handed.{Gives, HandsOut}
use Rattle.bike_http_connections.proofs.Losing.{past, loses_then}

-- none of them is answered
pub all_fresh : (coming : List Coming) → ahead_of (map fresh coming) ≡ coming
all_fresh [] = refl
all_fresh (one ∷ others) = ap (λ (cs : List Coming). one ∷ cs) (all_fresh others)

-- ---- in another order there is the same

module _ {X Y : Type 0} (f : X → List Y) where
  -- the first changes place with one of the others
  first_changed : (x : X) (xs : List X) (j : ℕ) (other : X) → j < length xs
      → IsPermutation (f x ++ flat_map f xs) (f (slice_index_or xs j other) ++ flat_map f (slice_set xs j x))
  first_changed x [] j other within = absurd (omega (arith, within))
  first_changed x (y ∷ xs) zero other within = past (f x) (f y) (flat_map f xs)
  first_changed x (y ∷ xs) (suc j) other within =
      let z = slice_index_or xs j other in
      IsPermutation-trans _ _ _ (past (f x) (f y) (flat_map f xs))
      (IsPermutation-trans _ _ _ (IsPermutation-append_right (f y) _ _ (first_changed x xs j other (omega (arith, within))))
      (past (f y) (f z) (flat_map f (slice_set xs j x))))

  changed : (xs : List X) (i j : ℕ) (other : X) → i < length xs → j < length xs
      → IsPermutation (flat_map f xs) (flat_map f (slice_set (slice_set xs i (slice_index_or xs j other)) j (slice_index_or xs i other)))
  changed [] i j other p q = absurd (omega (arith, p))
  changed (x ∷ xs) zero zero other p q = IsPermutation-refl (f x ++ flat_map f xs)
  changed (x ∷ xs) zero (suc j) other p q = first_changed x xs j other (omega (arith, q))
  changed (x ∷ xs) (suc i) zero other p q = first_changed x xs i other (omega (arith, p))
  changed (x ∷ xs) (suc i) (suc j) other p q =
      IsPermutation-append_right (f x) _ _ (changed xs i j other (omega (arith, p)) (omega (arith, q)))

  swapped : (xs : List X) (i j : ℕ) → i < length xs → j < length xs → IsPermutation (flat_map f xs) (flat_map f (swap xs i j))
  swapped [] i j p q = absurd (omega (arith, p))
  swapped (x ∷ xs) i j p q = changed (x ∷ xs) i j x p q

  pub IsPermutation-flat_map : (xs ys : List X) → IsPermutation xs ys → IsPermutation (flat_map f xs) (flat_map f ys)
  IsPermutation-flat_map xs ys = IsPermutation-keeps xs (λ (l : List X). IsPermutation (flat_map f xs) (flat_map f l)) (IsPermutation-refl (flat_map f xs))
      (λ l i j p q so_far. IsPermutation-trans (flat_map f xs) (flat_map f l) (flat_map f (swap l i j)) so_far (swapped l i j p q)) ys

-- where clients end, no request is lost but theirs
pub loses_requests : (old new : List Connected) → Loses old new → Loses (ahead_of old) (ahead_of new)
loses_requests old new lost = (
  ahead_of lost.0,
  subst (λ (c : List Coming). IsPermutation (ahead_of old) c) (flat_map-append (λ (one : Connected). one.ahead) lost.0 new)
      (IsPermutation-flat_map (λ (one : Connected). one.ahead) old (lost.0 ++ new) lost.1),
)

-- a client who is handed out, with all that is to be known of its request
pub hands_out : {S : Type 0} (input coming taken : S → List ℕ) (old middle new : List Connected) (handed : Exchange S × List ℕ) → Loses old middle
    → Gives true input coming taken middle new (Some handed) → HandsOut coming (ahead_of old) (ahead_of new) handed.0 handed.1
hands_out {S} input coming taken old middle new handed lost gives = record {
  coming_one = coming_from coming handed.0;
  ahead = loses_requests old (handed_as input coming taken handed.0 ∷ new)
      (loses_then old middle (handed_as input coming taken handed.0 ∷ new) lost gives.0);
  moment = refl;
  reads = refl;
  asks = asks_as handed.0.request.is_ended (coming handed.0.peer.socket) (unread handed.0.request) gives.2;
  writes = gives.1;
}
