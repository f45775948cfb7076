-- The begin of the history is found by the first request that came at a moment or later.
use Rattle.std.proofs.Common.{◌≡◌, ◌⊎◌, ℕ, suc, ◌+◌, ◌-◌, ◌≤◌, ◌<◌, length, List, [], ◌∷◌, Bool, true, false, cond, leb, Option, Some, None, refl, sym, ap, ap₂, ◌∙◌, arith, inl, inr}
use Rattle.std.specs.Prelude.{◌&&◌, not, find, nat_lt, option_map}
use Rattle.std.proofs.lemmas.Bool.Decides.{leb_tells}
use Rattle.std.proofs.lemmas.Option.{same_Some}
use Rattle.sqlite_value.specs.Order.{Row, column}
use Rattle.bike_fixed.specs.Whole.{last_moment}
use Rattle.bike_operator.specs.Operator.{Operator, AcceptedRequest, item_at, last_number}
use Rattle.bike_operator.specs.Sound.{IsSound}
use Rattle.bike_book.specs.Stored.{numbers_from, with_numbers, stored_request}
use Rattle.bike_laws.proofs.SingleSteps.ItemLemmas.{number_of_place}
use Rattle.bike_queries.specs.Spans.{lies_in}
use Rattle.bike_queries.specs.Requests.{ReadsBefore, last_before, history_begin, request_after}

-- more than any moment of the program
abbrev pub END : ℕ
END = 9223372036854775807

-- a request of a number from 1 on is found where it came at the moment or later
abbrev is_found : ℕ → ℕ × AcceptedRequest → Bool
is_found since e = nat_lt 0 e.0 && lies_in since END e.1.moment

tells_found : (since n : ℕ) (a : AcceptedRequest) → a.moment < END → is_found since (suc n, a) ≡ not (nat_lt a.moment since)
tells_found since n a early = ap (λ (b : Bool). b && lies_in since END a.moment) (some (leb_tells 1 (suc n))) ∙ go (nat_lt a.moment since) (below (leb_tells (suc a.moment) END)) where
  some : ((leb 1 (suc n) ≡ true) × (1 ≤ suc n)) ⊎ ((leb 1 (suc n) ≡ false) × (suc n < 1)) → nat_lt 0 (suc n) ≡ true
  some (inl w) = w.0
  some (inr w) = absurd (let h = w.1 in omega (arith, h))

  below : ((leb (suc a.moment) END ≡ true) × (suc a.moment ≤ END)) ⊎ ((leb (suc a.moment) END ≡ false) × (END < suc a.moment)) → nat_lt a.moment END ≡ true
  below (inl w) = w.0
  below (inr w) = absurd (let h = w.1 in omega (arith, early, h))

  go : (b : Bool) → nat_lt a.moment END ≡ true → (not b && nat_lt a.moment END) ≡ not b
  go true e = refl
  go false e = e

-- every moment is early
abbrev AreEarly : List AcceptedRequest → Type 0
AreEarly h = (n : ℕ) (a : AcceptedRequest) → item_at n h ≡ Some a → a.moment < END

-- the number before that of a request that was found, or the last
abbrev number_before : Option (ℕ × AcceptedRequest) → ℕ → ℕ
number_before None last = last
number_before (Some e) last = e.0 - 1

begins : (since n : ℕ) (h : List AcceptedRequest) → AreEarly h → last_before since n h ≡ number_before (find (is_found since) (numbers_from (suc n) h)) (n + length h)
begins since n [] early = omega arith
begins since n (a ∷ h) early =
    go (nat_lt a.moment since) (is_found since (suc n, a)) (tells_found since n a (early 0 a refl)) (begins since (suc n) h (λ k x i. early (suc k) x i))
  where
    go : (b c : Bool) → c ≡ not b → last_before since (suc n) h ≡ number_before (find (is_found since) (numbers_from (suc (suc n)) h)) (suc n + length h)
        → cond b (last_before since (suc n) h) n ≡ number_before (cond c (Some (suc n, a)) (find (is_found since) (numbers_from (suc (suc n)) h))) (n + length (a ∷ h))
    go true true e rest = absurd cc
    go true false e rest = rest ∙ ap (number_before (find (is_found since) (numbers_from (suc (suc n)) h))) (omega arith)
    go false true e rest = omega arith
    go false false e rest = absurd cc

moments_early : (s : Operator) → IsSound s → AreEarly s.history.items
moments_early s sound n a i =
    let by_now = (sound.history.requests (s.history.archived + suc n) a (number_of_place n s.history a i)).by_now in
    let last = sound.now in
    omega (arith, by_now, last)

begin_is : (s : Operator) (since : ℕ) → IsSound s → history_begin since s ≡ number_before (request_after s 0 since END) (last_number s.history)
begin_is s since sound = begins since s.history.archived s.history.items (moments_early s sound)

-- what is read of the row that was found
pub begin_found : (s : Operator) (since n : ℕ) (row : Row) → IsSound s → Some row ≡ option_map stored_request (request_after s 0 since END) → ReadsBefore row n → n ≡ history_begin since s
begin_found s since n row sound found reads = go (request_after s 0 since END) found ∙ sym (begin_is s since sound) where
  go : (o : Option (ℕ × AcceptedRequest)) → Some row ≡ option_map stored_request o → n ≡ number_before o (last_number s.history)
  go None is = absurd cc
  go (Some e) is = reads e (same_Some row (stored_request e) is)

-- where none is found, all came before
pub begin_at_end : (s : Operator) (since : ℕ) → IsSound s → None ≡ option_map stored_request (request_after s 0 since END) → last_number s.history ≡ history_begin since s
begin_at_end s since sound none = go (request_after s 0 since END) none ∙ sym (begin_is s since sound) where
  go : (o : Option (ℕ × AcceptedRequest)) → None ≡ option_map stored_request o → last_number s.history ≡ number_before o (last_number s.history)
  go None is = refl
  go (Some e) is = absurd cc
