-- The law of money, of an operator.
use Rattle.std.specs.Prelude.{◌≡◌, ℕ, ℤ, pos, ◌+ℤ◌, List, [], ◌∷◌}
use Rattle.std.specs.FinMap.{entries}
use Rattle.bike_ledger.specs.Entries.{Entry}
use Rattle.bike_ledger.specs.Ledger.{balance_of, cash_of, revenue_of}
use Rattle.bike_operator.specs.Operator.{Operator, Rider}

-- what these riders have together: each what was archived and what the entries tell
abbrev pub riders_have : List (ℕ × Rider) → List Entry → ℤ
riders_have [] es = pos 0
riders_have (r ∷ rs) es = (r.1.before +ℤ balance_of r.0 es) +ℤ riders_have rs es

-- all revenue, and all cash
abbrev pub revenue_at : Operator → ℤ
revenue_at s = s.past.revenue +ℤ revenue_of s.entries.items

abbrev pub cash_at : Operator → ℤ
cash_at s = s.past.cash +ℤ cash_of s.entries.items

-- MONEY IS CONSERVED: what the riders have and what the operator earned is what was paid in.
abbrev pub KeepsMoney : Operator → Type 0
KeepsMoney s = riders_have (entries s.riders) s.entries.items +ℤ revenue_at s ≡ cash_at s
