-- Sums over entries of bounded amounts are bounded.
use Rattle.std.proofs.Common.{ℕ, ℤ, pos, neg_ℤ, ◌*ℤ◌, ◌<◌, ◌≤ℤ◌, List, [], ◌∷◌, length, Bool, true, false, cond, eqb, arith}
use Rattle.std.proofs.lemmas.Int.{ints}
use Rattle.bike_fields.specs.declared.numbers.TheConstants.{GREATEST_SERIAL}
use Rattle.bike_ledger.specs.declared.entry.EntryKind.{EntryKind}
use Rattle.bike_ledger.specs.declared.entry.EntryKind.TheVariants.{TopUp, Fare, Refund, Withdrawal, Charge, Credit}
use Rattle.bike_ledger.specs.Entries.{Entry}
use Rattle.bike_ledger.specs.Ledger.{total, credit, cash_in, revenue_in, share, balance_of, cash_of, revenue_of, IsAmount, AreAmounts, IsBalance}
use Rattle.bike_ledger.specs.Entries.{greatest_amount}

-- neither above the greatest amount nor below what takes it away
record IsFigure (z : ℤ) : Type 0 where
  low : neg_ℤ greatest_amount ≤ℤ z
  high : z ≤ℤ greatest_amount

record IsSum (size : ℕ) (z : ℤ) : Type 0 where
  low : neg_ℤ (greatest_amount *ℤ pos size) ≤ℤ z
  high : z ≤ℤ (greatest_amount *ℤ pos size)

total-bound : (figure : Entry → ℤ) → ((e : Entry) → IsAmount e.amount → IsFigure (figure e)) → (es : List Entry) → AreAmounts es → IsSum (length es) (total figure es)
total-bound figure each [] are = record { low = omega (arith, ints); high = omega (arith, ints) }
total-bound figure each (e ∷ es) are =
    let first = each e are.0 in
    let first_low = first.low in
    let first_high = first.high in
    let rest = total-bound figure each es are.1 in
    let rest_low = rest.low in
    let rest_high = rest.high in
    record { low = omega (arith, ints, first_low, rest_low); high = omega (arith, ints, first_high, rest_high) }

balance-bound : (size : ℕ) (z : ℤ) → size < GREATEST_SERIAL → IsSum size z → IsBalance z
balance-bound size z few is =
    let low = is.low in
    let high = is.high in
    record { low = omega (arith, ints, few, low); high = omega (arith, ints, few, high) }

credit-figure : (kind : EntryKind) (amount : ℤ) → IsAmount amount → IsFigure (credit kind amount)
credit-figure TopUp amount is = let low = is.low in let high = is.high in record { low = omega (arith, ints, low); high = omega (arith, ints, high) }
credit-figure Fare amount is = let low = is.low in let high = is.high in record { low = omega (arith, ints, high); high = omega (arith, ints, low) }
credit-figure Refund amount is = let low = is.low in let high = is.high in record { low = omega (arith, ints, low); high = omega (arith, ints, high) }
credit-figure Withdrawal amount is = let low = is.low in let high = is.high in record { low = omega (arith, ints, high); high = omega (arith, ints, low) }
credit-figure Charge amount is = let low = is.low in let high = is.high in record { low = omega (arith, ints, high); high = omega (arith, ints, low) }
credit-figure Credit amount is = let low = is.low in let high = is.high in record { low = omega (arith, ints, low); high = omega (arith, ints, high) }

cash_in-figure : (kind : EntryKind) (amount : ℤ) → IsAmount amount → IsFigure (cash_in kind amount)
cash_in-figure TopUp amount is = let low = is.low in let high = is.high in record { low = omega (arith, ints, low); high = omega (arith, ints, high) }
cash_in-figure Fare amount is = record { low = omega (arith, ints); high = omega (arith, ints) }
cash_in-figure Refund amount is = record { low = omega (arith, ints); high = omega (arith, ints) }
cash_in-figure Withdrawal amount is = let low = is.low in let high = is.high in record { low = omega (arith, ints, high); high = omega (arith, ints, low) }
cash_in-figure Charge amount is = record { low = omega (arith, ints); high = omega (arith, ints) }
cash_in-figure Credit amount is = record { low = omega (arith, ints); high = omega (arith, ints) }

revenue_in-figure : (kind : EntryKind) (amount : ℤ) → IsAmount amount → IsFigure (revenue_in kind amount)
revenue_in-figure TopUp amount is = record { low = omega (arith, ints); high = omega (arith, ints) }
revenue_in-figure Fare amount is = let low = is.low in let high = is.high in record { low = omega (arith, ints, low); high = omega (arith, ints, high) }
revenue_in-figure Refund amount is = let low = is.low in let high = is.high in record { low = omega (arith, ints, high); high = omega (arith, ints, low) }
revenue_in-figure Withdrawal amount is = record { low = omega (arith, ints); high = omega (arith, ints) }
revenue_in-figure Charge amount is = let low = is.low in let high = is.high in record { low = omega (arith, ints, low); high = omega (arith, ints, high) }
revenue_in-figure Credit amount is = let low = is.low in let high = is.high in record { low = omega (arith, ints, high); high = omega (arith, ints, low) }

either-figure : (own : Bool) (z : ℤ) → IsFigure z → IsFigure (cond own z (pos 0))
either-figure true z is = is
either-figure false z is = record { low = omega (arith, ints); high = omega (arith, ints) }

pub balance_of-bound : (es : List Entry) (rider : ℕ) → AreAmounts es → length es < GREATEST_SERIAL → IsBalance (balance_of rider es)
balance_of-bound es rider are few =
    balance-bound (length es) (balance_of rider es) few
    (total-bound (share rider) (λ e is. either-figure (eqb e.rider rider) (credit e.kind e.amount) (credit-figure e.kind e.amount is)) es are)

pub cash_of-bound : (es : List Entry) → AreAmounts es → length es < GREATEST_SERIAL → IsBalance (cash_of es)
cash_of-bound es are few =
    balance-bound (length es) (cash_of es) few (total-bound (λ e. cash_in e.kind e.amount) (λ e is. cash_in-figure e.kind e.amount is) es are)

pub revenue_of-bound : (es : List Entry) → AreAmounts es → length es < GREATEST_SERIAL → IsBalance (revenue_of es)
revenue_of-bound es are few =
    balance-bound (length es) (revenue_of es) few (total-bound (λ e. revenue_in e.kind e.amount) (λ e is. revenue_in-figure e.kind e.amount is) es are)
