-- Money is conserved in every sound operator.
use Rattle.std.proofs.Common.{◌≡◌, ℕ, ℤ, zero, suc, pos, ◌+◌, ◌+ℤ◌, arith, List, [], ◌∷◌, true, false, T, eqb, Some, refl, sym, ap, ap₂, ◌∙◌, inl, inr}
use Rattle.std.specs.Prelude.{map, ◌||◌}
use Rattle.std.specs.List.{list_any}
use Rattle.std.specs.Ordering.{nat_cmp, eq_by_cmp, is_lt, is_eq}
use Rattle.std.specs.declared.cmp.Ordering.{Ordering}
use Rattle.std.specs.declared.cmp.Ordering.TheVariants.{Less, Equal, Greater}
use Rattle.std.specs.Cmp.{nat_cmp_is}
use Rattle.std.specs.FinMap as finmap
use Rattle.std.specs.FinMap.Entries.{is_sorted, below_all}
use Rattle.std.proofs.lemmas.Bool.Decides.{eqb_tells}
use Rattle.bike_ledger.specs.Entries.{Entry}
use Rattle.bike_ledger.specs.Ledger.{cash_of, revenue_of}
use Rattle.bike_ledger.specs.Money.{is_among, AreDistinct, AreOf, balances}
use Rattle.std.proofs.lemmas.Int.{ints}
use Rattle.bike_ledger.proofs.SumLemmas.{conserved}
use Rattle.bike_operator.specs.Operator.{Operator, Rider, item_at}
use Rattle.bike_operator.specs.Sound.{IsSound, befores}
use Rattle.bike_laws.specs.Money.{riders_have, KeepsMoney}
use Rattle.bike_laws.proofs.SingleSteps.ItemLemmas.{number_of_place}
use Rattle.bike_laws.proofs.FoundLemmas.{both}

-- ---- the keys of a map are distinct

same_tests : (q r : ℕ) → eqb r q ≡ eq_by_cmp nat_cmp q r
same_tests q r = elim (eqb_tells r q) [
  | inl w ↦ w.0 ∙ sym (ap is_eq (sym (nat_cmp_is q r Equal (sym w.1))))
  | inr w ↦ w.0 ∙ sym (unequal (nat_cmp q r) refl w.1)
] where
  unequal : (o : Ordering) → nat_cmp q r ≡ o → (r ≡ q → ⊥) → is_eq o ≡ false
  unequal Less e apart = refl
  unequal Equal e apart = absurd (apart (sym (finmap.nat_cmp-IsAntisymmetric q r e)))
  unequal Greater e apart = refl

among_is : (q : ℕ) (rs : List ℕ) → is_among q rs ≡ list_any (eq_by_cmp nat_cmp q) rs
among_is q [] = refl
among_is q (r ∷ rs) = ap₂ (λ a b. a || b) (same_tests q r) (among_is q rs)

below_apart : (x : ℕ) (es : List (ℕ × Rider)) → T (below_all nat_cmp x es) → is_among x (map (λ e. e.0) es) ≡ false
below_apart x [] h = refl
below_apart x (e ∷ es) h =
    let parts = both (is_lt (nat_cmp x e.0)) (below_all nat_cmp x es) h in
    ap₂ (λ a b. a || b) (apart (nat_cmp x e.0) refl parts.0) (below_apart x es parts.1)
  where
    apart : (r : Ordering) → nat_cmp x e.0 ≡ r → T (is_lt r) → eqb e.0 x ≡ false
    apart Less is t = same_tests x e.0 ∙ ap is_eq is
    apart Equal is t = absurd t
    apart Greater is t = absurd t

pub distinct : (es : List (ℕ × Rider)) → T (is_sorted nat_cmp es) → AreDistinct (map (λ e. e.0) es)
distinct [] h = tt
distinct (e ∷ es) h = let parts = both (below_all nat_cmp e.0 es) (is_sorted nat_cmp es) h in (below_apart e.0 es parts.0, distinct es parts.1)

-- ---- entries are of riders who are there

pub known_riders : (s : Operator) (es : List Entry) → ((n : ℕ) (e : Entry) → item_at n es ≡ Some e → finmap.contains_key s.riders e.rider ≡ true) → AreOf (finmap.keys s.riders) es
known_riders s [] known = tt
known_riders s (e ∷ es) known =
    (among_is e.rider (finmap.keys s.riders) ∙ sym (finmap.contains_key-keys s.riders e.rider) ∙ known zero e refl, known_riders s es (λ n x i. known (suc n) x i))

-- what riders have of archived entries, and of these
have_apart : (rs : List (ℕ × Rider)) (es : List Entry) → riders_have rs es ≡ befores rs +ℤ balances (map (λ r. r.0) rs) es
have_apart [] es = refl
have_apart (r ∷ rs) es = let rest = have_apart rs es in omega (arith, ints, rest)

pub money_conserved : (s : Operator) → IsSound s → KeepsMoney s
money_conserved s order =
    let now : balances (finmap.keys s.riders) s.entries.items +ℤ revenue_of s.entries.items ≡ cash_of s.entries.items =
    conserved (finmap.keys s.riders) s.entries.items (distinct (finmap.entries s.riders) (finmap.entries_sorted s.riders))
    (known_riders s s.entries.items (λ n e i. (order.ledger.entries (s.entries.archived + suc n) e (number_of_place n s.entries e i)).rider_is)) in
    let before = order.ledger.past.conserved in
    let apart = have_apart (finmap.entries s.riders) s.entries.items in
    omega (arith, ints, now, before, apart)
