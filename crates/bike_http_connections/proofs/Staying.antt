-- Those that stay as they are, while others come in, go out or end.
use Rattle.std.proofs.Common.{◌≡◌, ℕ, ◌+◌, ◌<◌, ◌≤◌, List, [], ◌∷◌, ◌++◌, map, length, IsPermutation, sym, subst, ap, ◌∙◌, append_assoc, arith, refl, inl, inr, ◌⊎◌}
use Rattle.std.proofs.lemmas.List.{map-append, length-append, length-map}
use Rattle.std.proofs.lemmas.List.Sorted.{IsPermutation-sym, IsPermutation-trans, IsPermutation-map, length_permutation}
use Rattle.bike_http_connection.specs.declared.connection.Step.{Step}
use Rattle.bike_http_connection.specs.declared.connection.Step.TheVariants.{Waits, GoesOn, Settled, Sent, Rests, Over}
use Rattle.bike_http_connection.specs.Connected.{Connected, Opened}
use Rattle.bike_http_connections.specs.Ahead.{Stay, StayBut}
use Rattle.bike_http_connections.specs.Kept.{Kept, kept_as, GivesOut, ComesIn}
use Rattle.bike_http_connections.specs.Table.{Table, HasTurn}
use Rattle.bike_http_connections.proofs.Losing.{loses_none, loses_then, loses_behind, loses_before, loses_moved}
use Rattle.bike_http_connections.proofs.Ending.{loses_clients}

-- whether a connection is over
pub over_or_not : (step : Step) → (step ≡ Over) ⊎ (step ≡ Over → ⊥)
over_or_not Waits = inr (λ is. absurd (cc))
over_or_not GoesOn = inr (λ is. absurd (cc))
over_or_not Settled = inr (λ is. absurd (cc))
over_or_not Sent = inr (λ is. absurd (cc))
over_or_not Rests = inr (λ is. absurd (cc))
over_or_not Over = inl refl

-- one that has a turn wasn't sent
pub sent_has_none : (step : Step) (table : Table) → HasTurn step table → step ≡ Sent → ⊥
sent_has_none Waits table turn is = turn
sent_has_none GoesOn table turn is = absurd (cc)
sent_has_none Settled table turn is = absurd (cc)
sent_has_none Sent table turn is = turn
sent_has_none Rests table turn is = absurd (cc)
sent_has_none Over table turn is = turn

module _ {X : Type 0} where
  pub stay_then : (a b c : List X) → Stay a b → Stay b c → Stay a c
  stay_then a b c p q = loses_then c b a q p

  -- none is gone, or no more than may be
  pub but_none : (most : ℕ) (a b : List X) → Stay a b → StayBut most a b
  but_none most a b stay = ([], omega arith, stay)

  pub but_same : (most : ℕ) (a b : List X) → b ≡ a → StayBut most a b
  but_same most a b same = subst (λ (xs : List X). StayBut most a xs) (sym same) (but_none most a a (loses_none a))

  pub but_less : (few most : ℕ) (a b : List X) → few ≤ most → StayBut few a b → StayBut most a b
  but_less few most a b less p = (p.0, omega (arith, less, p.1), p.2)

  -- one step after another
  pub but_then : (m n : ℕ) (a b c : List X) → StayBut m a b → StayBut n b c → StayBut (m + n) a c
  but_then m n a b c p q = (
    p.0 ++ q.0,
    omega (arith, length-append p.0 q.0, p.1, q.1),
    subst (λ (xs : List X). Stay a xs) (sym (append_assoc p.0 q.0 c))
        (stay_then a (p.0 ++ b) (p.0 ++ (q.0 ++ c)) p.2 (loses_behind p.0 (q.0 ++ c) b q.2)),
  )

-- one goes out
pub but_one : (one : Opened) (old middle new : List Kept) → GivesOut one old middle → Stay middle new → StayBut 1 old new
but_one one old middle new out stay =
    let it : Kept = kept_as one out.0 in (
      it ∷ [],
      omega arith,
      stay_then old (it ∷ middle) (it ∷ new) (loses_moved (it ∷ middle) old (IsPermutation-sym old (it ∷ middle) out.1))
          (loses_behind (it ∷ []) new middle stay),
    )

-- one goes out and comes back as it was
pub back_as_before : (most : ℕ) (one other : Opened) (old middle new : List Kept) → GivesOut one old middle → other ≡ one → length old ≤ most
    → (length middle < most → ComesIn other middle new) → Stay (map (λ one. one.who) old) (map (λ one. one.who) new)
back_as_before most one other old middle new out same few comes =
    let left : List Connected = map (λ (k : Kept). k.who) middle in
    let was : List Connected = map (λ (k : Kept). k.who) old in
    let is : List Connected = map (λ (k : Kept). k.who) new in
    let many = length_permutation old (kept_as one out.0 ∷ middle) out.1 in
    let into = comes (omega (arith, few, many)) in
    let came : IsPermutation is (one.who ∷ left) =
    subst (λ (x : Opened). IsPermutation is (x.who ∷ left)) same (IsPermutation-map (λ (k : Kept). k.who) new (kept_as other into.0 ∷ middle) into.1) in
    let went : IsPermutation was (one.who ∷ left) = IsPermutation-map (λ (k : Kept). k.who) old (kept_as one out.0 ∷ middle) out.1 in
    loses_moved is was (IsPermutation-trans is (one.who ∷ left) was came (IsPermutation-sym was (one.who ∷ left) went))

-- one has its turn
pub one_turn : (turn : ℕ) (start now queue left new : List ℕ) (key : ℕ) → turn + length now ≡ length start → queue ≡ now → queue ≡ key ∷ left → new ≡ left
    → turn + 1 + length new ≡ length start
one_turn turn start now queue left new key so_far is first same =
    omega (arith, so_far, ap (λ (xs : List ℕ). length xs) is, ap (λ (xs : List ℕ). length xs) first, ap (λ (xs : List ℕ). length xs) same)

-- ---- as clients, beside those that aren't accepted yet

pub stay_open : (old coming : List Connected) (opened left : List Kept) → map (λ one. one.who) opened ++ coming ≡ old → Stay opened left
    → Stay old (map (λ one. one.who) left ++ coming)
stay_open old coming opened left is stay =
    subst (λ (xs : List Connected). Stay xs (map (λ one. one.who) left ++ coming)) is
    (loses_before coming (map (λ one. one.who) left) (map (λ one. one.who) opened) (loses_clients left opened stay))

pub but_open : (most : ℕ) (old coming : List Connected) (opened left : List Kept) → map (λ one. one.who) opened ++ coming ≡ old
    → StayBut most opened left → StayBut most old (map (λ one. one.who) left ++ coming)
but_open most old coming opened left is but =
    let gone : List Connected = map (λ (one : Kept). one.who) but.0 in (
      gone,
      omega (arith, length-map but.0 (λ (one : Kept). one.who), but.1),
      subst (λ (xs : List Connected). Stay old xs)
          (ap (λ (xs : List Connected). xs ++ coming) (map-append (λ (one : Kept). one.who) but.0 left)
          ∙ append_assoc gone (map (λ one. one.who) left) coming) (stay_open old coming opened (but.0 ++ left) is but.2),
    )
