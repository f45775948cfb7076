-- The ledger: what its entries add to a rider's balance, to cash, to revenue and to a rental's refunds.
use Rattle.std.specs.Prelude.{ℕ, ℤ, pos, neg_ℤ, ◌+ℤ◌, ◌≤ℤ◌, List, [], ◌∷◌, ◌==◌, if◌then◌else◌}
use Rattle.bike_ledger.specs.declared.entry.EntryKind.{EntryKind}
use Rattle.bike_ledger.specs.declared.entry.EntryKind.TheVariants.{TopUp, Fare, Refund, Withdrawal, Charge, Credit}
use Rattle.bike_ledger.specs.Entries.{Entry, greatest_amount}
use Rattle.bike_ledger.specs.declared.sums.TheConstants.{GREATEST_BALANCE}

-- the sum of a figure of each entry
abbrev pub total : (Entry → ℤ) → List Entry → ℤ
total figure [] = pos 0
total figure (e ∷ es) = figure e +ℤ total figure es

-- what a kind adds to the balance of the entry's rider: a fare, a withdrawal and a charge take away
abbrev pub credit : EntryKind → ℤ → ℤ
credit TopUp amount = amount
credit Fare amount = neg_ℤ amount
credit Refund amount = amount
credit Withdrawal amount = neg_ℤ amount
credit Charge amount = neg_ℤ amount
credit Credit amount = amount

-- what a kind adds to cash: money comes in by top-ups and goes out by withdrawals alone
abbrev pub cash_in : EntryKind → ℤ → ℤ
cash_in TopUp amount = amount
cash_in Fare amount = pos 0
cash_in Refund amount = pos 0
cash_in Withdrawal amount = neg_ℤ amount
cash_in Charge amount = pos 0
cash_in Credit amount = pos 0

-- what a kind adds to revenue
abbrev pub revenue_in : EntryKind → ℤ → ℤ
revenue_in TopUp amount = pos 0
revenue_in Fare amount = amount
revenue_in Refund amount = neg_ℤ amount
revenue_in Withdrawal amount = pos 0
revenue_in Charge amount = amount
revenue_in Credit amount = neg_ℤ amount

-- what a kind adds to the refunds of the entry's rental
abbrev pub given_back : EntryKind → ℤ → ℤ
given_back TopUp amount = pos 0
given_back Fare amount = pos 0
given_back Refund amount = amount
given_back Withdrawal amount = pos 0
given_back Charge amount = pos 0
given_back Credit amount = pos 0

-- what an entry adds to a rider's balance
abbrev pub share : ℕ → Entry → ℤ
share rider e = if e.rider == rider then credit e.kind e.amount else pos 0

-- a rider's balance: top-ups, refunds and credits less fares, withdrawals and charges
abbrev pub balance_of : ℕ → List Entry → ℤ
balance_of rider = total (share rider)

-- all top-ups less all withdrawals
abbrev pub cash_of : List Entry → ℤ
cash_of = total (λ e. cash_in e.kind e.amount)

-- all fares and charges less all refunds and credits
abbrev pub revenue_of : List Entry → ℤ
revenue_of = total (λ e. revenue_in e.kind e.amount)

-- what an entry adds to the refunds of a rental
abbrev pub given_back_of : ℕ → Entry → ℤ
given_back_of rental e = if e.rental == rental then given_back e.kind e.amount else pos 0

-- all refunds of a rental
abbrev pub refunded_of : ℕ → List Entry → ℤ
refunded_of rental = total (given_back_of rental)

-- what one entry fewer than there may be comes to, each of the greatest amount
abbrev pub greatest_balance : ℤ
greatest_balance = GREATEST_BALANCE

-- an amount that an entry may have
pub record IsAmount (amount : ℤ) : Type 0 where
  pub low : pos 0 ≤ℤ amount
  pub high : amount ≤ℤ greatest_amount

-- entries of such amounts
abbrev pub AreAmounts : List Entry → Type 0
AreAmounts [] = Unit {0}
AreAmounts (e ∷ es) = IsAmount e.amount × AreAmounts es

-- the balance of a rider, of cash or of revenue, to which one more entry can be added
pub record IsBalance (balance : ℤ) : Type 0 where
  pub low : neg_ℤ greatest_balance ≤ℤ balance
  pub high : balance ≤ℤ greatest_balance
