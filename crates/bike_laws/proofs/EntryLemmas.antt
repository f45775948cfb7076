-- Sums over entries: balances, refunds and fares, and one more entry.
use Rattle.std.proofs.Common.{sym, ◌≡◌, ℕ, ℤ, zero, suc, ◌+◌, pos, neg_ℤ, ◌*ℤ◌, ◌+ℤ◌, ◌≤ℤ◌, List, [], ◌∷◌, ◌++◌, length, map, filter, Bool, true, false, cond, eqb, Some, refl, ap, ◌∙◌, arith, inl, inr}
use Rattle.std.specs.Prelude.{◌&&◌}
use Rattle.std.proofs.lemmas.Bool.Decides.{eqb_tells}
use Rattle.std.proofs.lemmas.Int.{ints}
use Rattle.std.proofs.lemmas.List.{map-append}
use Rattle.std.proofs.lemmas.List.Elements.{filter-append}
use Rattle.bike_ledger.specs.Entries.{Entry}
use Rattle.bike_ledger.specs.declared.entry.EntryKind.{EntryKind}
use Rattle.bike_ledger.specs.declared.entry.EntryKind.TheVariants.{TopUp, Fare, Refund, Withdrawal, Charge, Credit}
use Rattle.bike_ledger.specs.Ledger.{credit, balance_of, given_back, given_back_of, refunded_of, IsAmount, AreAmounts}
use Rattle.bike_ledger.specs.Entries.{greatest_amount}
use Rattle.bike_ledger.proofs.SumLemmas.{total-append}
use Rattle.bike_operator.specs.Operator.{Operator, item_at}
use Rattle.bike_operator.specs.Sound.{is_fare, fares_of, IsPayment, IsBooking, IsLedgerSound, IsSumOf}
use Rattle.bike_laws.proofs.SingleSteps.ItemLemmas.{number_of_place}

-- ---- amounts

pub payment_amount : (z : ℤ) → IsPayment z → IsAmount z
payment_amount z p =
    let is = p.is in
    let high = p.high in
    record { low = omega (arith, ints, is); high = omega (arith, ints, is, high) }

booking_amount : (s : Operator) (e : Entry) (k : EntryKind) → IsBooking s e k → IsAmount e.amount
booking_amount s e TopUp b = payment_amount e.amount b.1
booking_amount s e Fare b = record { low = b.1; high = b.2 }
booking_amount s e Refund b = payment_amount e.amount b.1
booking_amount s e Withdrawal b = payment_amount e.amount b.1
booking_amount s e Charge b = payment_amount e.amount b.1
booking_amount s e Credit b = payment_amount e.amount b.1

each_amount : (es : List Entry) → ((n : ℕ) (e : Entry) → item_at n es ≡ Some e → IsAmount e.amount) → AreAmounts es
each_amount [] each = tt
each_amount (e ∷ es) each = (each zero e refl, each_amount es (λ n x i. each (suc n) x i))

pub amounts_of : (s : Operator) → IsLedgerSound s → AreAmounts s.entries.items
amounts_of s ledger =
    each_amount s.entries.items (λ n e i. booking_amount s e e.kind (ledger.entries (s.entries.archived + suc n) e (number_of_place n s.entries e i)).booking)

pub amounts_added : (es : List Entry) (e : Entry) → AreAmounts es → IsAmount e.amount → AreAmounts (es ++ e ∷ [])
amounts_added [] e are is = (is, tt)
amounts_added (x ∷ es) e are is = (are.0, amounts_added es e are.1 is)

-- ---- balances

-- what one entry adds to a balance
record IsShare (z : ℤ) : Type 0 where
  low : neg_ℤ greatest_amount ≤ℤ z
  high : z ≤ℤ greatest_amount

credit_share : (k : EntryKind) (z : ℤ) → IsAmount z → IsShare (credit k z)
credit_share TopUp z is = let low = is.low in let high = is.high in record { low = omega (arith, ints, low); high = omega (arith, ints, high) }
credit_share Fare z is = let low = is.low in let high = is.high in record { low = omega (arith, ints, high); high = omega (arith, ints, low) }
credit_share Refund z is = let low = is.low in let high = is.high in record { low = omega (arith, ints, low); high = omega (arith, ints, high) }
credit_share Withdrawal z is = let low = is.low in let high = is.high in record { low = omega (arith, ints, high); high = omega (arith, ints, low) }
credit_share Charge z is = let low = is.low in let high = is.high in record { low = omega (arith, ints, high); high = omega (arith, ints, low) }
credit_share Credit z is = let low = is.low in let high = is.high in record { low = omega (arith, ints, low); high = omega (arith, ints, high) }

own_share : (own : Bool) (z : ℤ) → IsShare z → IsShare (cond own z (pos 0))
own_share true z is = is
own_share false z is = record { low = omega (arith, ints); high = omega (arith, ints) }

-- a balance lies within what so many entries can come to
pub balance_within : (es : List Entry) (rider : ℕ) → AreAmounts es → IsSumOf (length es) (balance_of rider es)
balance_within [] rider are = record { low = omega (arith, ints); high = omega (arith, ints) }
balance_within (e ∷ es) rider are =
    let first = own_share (eqb e.rider rider) (credit e.kind e.amount) (credit_share e.kind e.amount are.0) in
    let first_low = first.low in
    let first_high = first.high in
    let rest = balance_within es rider are.1 in
    let rest_low = rest.low in
    let rest_high = rest.high in
    record { low = omega (arith, ints, first_low, rest_low); high = omega (arith, ints, first_high, rest_high) }

-- two sums together
pub both_sums : (m n : ℕ) (y z : ℤ) → IsSumOf m y → IsSumOf n z → IsSumOf (m + n) (y +ℤ z)
both_sums m n y z one other =
    let one_low = one.low in
    let one_high = one.high in
    let other_low = other.low in
    let other_high = other.high in
    record { low = omega (arith, ints, one_low, other_low); high = omega (arith, ints, one_high, other_high) }

-- ---- refunds

own_refund : (own : Bool) (k : EntryKind) (z : ℤ) → IsAmount z → pos 0 ≤ℤ cond own (given_back k z) (pos 0)
own_refund true TopUp z is = omega (arith, ints)
own_refund true Fare z is = omega (arith, ints)
own_refund true Refund z is = is.low
own_refund true Withdrawal z is = omega (arith, ints)
own_refund true Charge z is = omega (arith, ints)
own_refund true Credit z is = omega (arith, ints)
own_refund false k z is = omega (arith, ints)

pub refunded_low : (es : List Entry) (rental : ℕ) → AreAmounts es → pos 0 ≤ℤ refunded_of rental es
refunded_low [] rental are = omega (arith, ints)
refunded_low (e ∷ es) rental are =
    let first = own_refund (eqb e.rental rental) e.kind e.amount are.0 in
    let rest = refunded_low es rental are.1 in
    omega (arith, ints, first, rest)

pub refunded_added : (rental : ℕ) (es : List Entry) (e : Entry) → refunded_of rental (es ++ e ∷ []) ≡ refunded_of rental es +ℤ given_back_of rental e
refunded_added rental es e = total-append (given_back_of rental) es e

-- ---- fares

-- the entry is the fare of this rental
abbrev pub is_fare_of : ℕ → Entry → Bool
is_fare_of rental e = is_fare e.kind && eqb e.rental rental

pub fares_added : (rental : ℕ) (es : List Entry) (e : Entry) → fares_of rental (es ++ e ∷ []) ≡ fares_of rental es ++ map (λ (x : Entry). x.amount) (cond (is_fare_of rental e) (e ∷ []) [])
fares_added rental es e =
    ap (map (λ (x : Entry). x.amount)) (filter-append (is_fare_of rental) es (e ∷ []))
    ∙ map-append (λ (x : Entry). x.amount) (filter (is_fare_of rental) es) (filter (is_fare_of rental) (e ∷ []))

-- ---- entries of other rentals

-- neither a fare nor a refund of this rental
pub record IsApart (rental : ℕ) (e : Entry) : Type 0 where
  pub no_fare : is_fare_of rental e ≡ false
  pub no_refund : given_back_of rental e ≡ pos 0

-- an entry that is no fare of this rental
pub fares_apart : (rental : ℕ) (es : List Entry) (e : Entry) → is_fare_of rental e ≡ false → fares_of rental (es ++ e ∷ []) ≡ fares_of rental es
fares_apart rental es e apart =
    fares_added rental es e
    ∙ ap (λ (b : Bool). fares_of rental es ++ map (λ (x : Entry). x.amount) (cond b (e ∷ []) [])) apart
    ∙ append_nil (fares_of rental es)
  where
    append_nil : (zs : List ℤ) → zs ++ [] ≡ zs
    append_nil [] = refl
    append_nil (z ∷ zs) = ap (λ (ys : List ℤ). z ∷ ys) (append_nil zs)

-- where all entries are such, there is neither a fare nor a refund
pub no_fares : (rental : ℕ) (es : List Entry) → ((n : ℕ) (e : Entry) → item_at n es ≡ Some e → IsApart rental e) → fares_of rental es ≡ []
no_fares rental [] each = refl
no_fares rental (e ∷ es) each =
    ap (λ (b : Bool). map (λ (x : Entry). x.amount) (cond b (e ∷ filter (is_fare_of rental) es) (filter (is_fare_of rental) es))) (each zero e refl).no_fare
    ∙ no_fares rental es (λ n x i. each (suc n) x i)

pub no_refunds : (rental : ℕ) (es : List Entry) → ((n : ℕ) (e : Entry) → item_at n es ≡ Some e → IsApart rental e) → refunded_of rental es ≡ pos 0
no_refunds rental [] each = refl
no_refunds rental (e ∷ es) each =
    let first = (each zero e refl).no_refund in
    let rest = no_refunds rental es (λ n x i. each (suc n) x i) in
    omega (arith, ints, first, rest)

pub same_either : (b : Bool) (z : ℤ) → z ≡ pos 0 → cond b z (pos 0) ≡ pos 0
same_either true z e = e
same_either false z e = refl

pub other_number : (a b : ℕ) → (b ≡ a → ⊥) → eqb a b ≡ false
other_number a b apart = elim (eqb_tells a b) [ inl w ↦ absurd (apart (sym w.1)) | inr w ↦ w.0 ]
