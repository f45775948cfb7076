-- Sums over entries.
use Rattle.std.proofs.Common.{◌≡◌, ◌≢◌, ℕ, ℤ, pos, ◌+ℤ◌, List, [], ◌∷◌, ◌++◌, Bool, true, false, cond, eqb, refl, sym, ap, ◌∙◌, arith, inl, inr}
use Rattle.std.specs.Prelude.{◌||◌}
use Rattle.std.proofs.lemmas.Int.{ints}
use Rattle.std.proofs.lemmas.Bool.Decides.{eqb_tells}
use Rattle.bike_ledger.specs.declared.entry.EntryKind.{EntryKind}
use Rattle.bike_ledger.specs.declared.entry.EntryKind.TheVariants.{TopUp, Fare, Refund, Withdrawal, Charge, Credit}
use Rattle.bike_ledger.specs.Entries.{Entry}
use Rattle.bike_ledger.specs.Ledger.{total, credit, cash_in, revenue_in, share, balance_of}
use Rattle.bike_ledger.specs.Money.{is_among, AreDistinct, AreOf, balances, IsConserved}

pub total-append : (figure : Entry → ℤ) (es : List Entry) (e : Entry) → total figure (es ++ e ∷ []) ≡ total figure es +ℤ figure e
total-append figure [] e = omega (arith, ints)
total-append figure (x ∷ es) e = let more = total-append figure es e in omega (arith, ints, more)

-- what an entry adds to the balances of a list of riders
abbrev shares : List ℕ → Entry → ℤ
shares [] e = pos 0
shares (r ∷ rs) e = share r e +ℤ shares rs e

balances_of_one_more : (riders : List ℕ) (e : Entry) (es : List Entry) → balances riders (e ∷ es) ≡ shares riders e +ℤ balances riders es
balances_of_one_more [] e es = omega (arith, ints)
balances_of_one_more (r ∷ rs) e es = let more = balances_of_one_more rs e es in omega (arith, ints, more)

balances_of_none : (riders : List ℕ) → balances riders [] ≡ pos 0
balances_of_none [] = refl
balances_of_none (r ∷ rs) = let more = balances_of_none rs in omega (arith, ints, more)

either_false : (a b : Bool) → (a || b) ≡ false → (a ≡ false) × (b ≡ false)
either_false true b e = absurd cc
either_false false b e = (refl, e)

second_true : (a b : Bool) → a ≡ false → (a || b) ≡ true → b ≡ true
second_true true b f e = absurd cc
second_true false b f e = e

same_turned : (a b : ℕ) → a ≡ b → eqb b a ≡ true
same_turned a b e = elim (eqb_tells b a) [ inl w ↦ w.0 | inr w ↦ absurd (w.1 (sym e)) ]

other_turned : (a b : ℕ) → (a ≡ b → ⊥) → eqb b a ≡ false
other_turned a b h = elim (eqb_tells b a) [ inl w ↦ absurd (h (sym w.1)) | inr w ↦ w.0 ]

share_of_own : (r : ℕ) (e : Entry) → eqb e.rider r ≡ true → share r e ≡ credit e.kind e.amount
share_of_own r e is = ap (λ b. cond b (credit e.kind e.amount) (pos 0)) is

share_of_other : (r : ℕ) (e : Entry) → eqb e.rider r ≡ false → share r e ≡ pos 0
share_of_other r e is = ap (λ b. cond b (credit e.kind e.amount) (pos 0)) is

-- one more entry: its rider's balance changes by its credit
pub balance_of-own : (es : List Entry) (e : Entry) → balance_of e.rider (es ++ e ∷ []) ≡ balance_of e.rider es +ℤ credit e.kind e.amount
balance_of-own es e =
    total-append (share e.rider) es e ∙ ap (λ z. balance_of e.rider es +ℤ z) (share_of_own e.rider e (same_turned e.rider e.rider refl))

-- and no other rider's does
pub balance_of-other : (es : List Entry) (e : Entry) (rider : ℕ) → e.rider ≢ rider → balance_of rider (es ++ e ∷ []) ≡ balance_of rider es
balance_of-other es e rider apart =
    let all = total-append (share rider) es e in
    let none = share_of_other rider e (other_turned rider e.rider (λ i. apart (sym i))) in
    omega (arith, ints, all, none)

-- an entry adds nothing to riders other than its own
shares_of_others : (riders : List ℕ) (e : Entry) → is_among e.rider riders ≡ false → shares riders e ≡ pos 0
shares_of_others [] e none = refl
shares_of_others (r ∷ rs) e none =
    let parts = either_false (eqb r e.rider) (is_among e.rider rs) none in
    let apart : eqb e.rider r ≡ false = other_turned r e.rider (λ i. let t : eqb r e.rider ≡ true = same_turned e.rider r (sym i) in let f = parts.0 in absurd cc) in
    let mine = share_of_other r e apart in
    let rest = shares_of_others rs e parts.1 in
    omega (arith, ints, mine, rest)

-- and its credit once to riders among whom its own stands once
shares_of_own : (riders : List ℕ) (e : Entry) → AreDistinct riders → is_among e.rider riders ≡ true → shares riders e ≡ credit e.kind e.amount
shares_of_own [] e apart some = absurd cc
shares_of_own (r ∷ rs) e apart some = elim (eqb_tells e.rider r) [
  | inl w ↦
      let mine = share_of_own r e w.0 in
      let rest = shares_of_others rs e (ap (λ q. is_among q rs) w.1 ∙ apart.0) in
      omega (arith, ints, mine, rest)
  | inr w ↦
      let mine = share_of_other r e w.0 in
      let rest = shares_of_own rs e apart.1 (second_true (eqb r e.rider) (is_among e.rider rs) (other_turned e.rider r w.1) some) in
      omega (arith, ints, mine, rest)
]

kinds_agree : (kind : EntryKind) (amount : ℤ) → credit kind amount +ℤ revenue_in kind amount ≡ cash_in kind amount
kinds_agree TopUp amount = omega (arith, ints)
kinds_agree Fare amount = omega (arith, ints)
kinds_agree Refund amount = omega (arith, ints)
kinds_agree Withdrawal amount = omega (arith, ints)
kinds_agree Charge amount = omega (arith, ints)
kinds_agree Credit amount = omega (arith, ints)

pub conserved : (riders : List ℕ) (es : List Entry) → AreDistinct riders → AreOf riders es → IsConserved riders es
conserved riders [] apart known = let none = balances_of_none riders in omega (arith, ints, none)
conserved riders (e ∷ es) apart known =
    let one = balances_of_one_more riders e es in
    let own = shares_of_own riders e apart known.0 in
    let kind = kinds_agree e.kind e.amount in
    let rest = conserved riders es apart known.1 in
    omega (arith, ints, one, own, kind, rest)
