-- The law of money.
use Rattle.std.specs.Prelude.{◌≡◌, ℕ, ℤ, pos, ◌+ℤ◌, List, [], ◌∷◌, Bool, true, false, ◌==◌}
use Rattle.std.specs.List.{list_any}
use Rattle.bike_ledger.specs.Entries.{Entry}
use Rattle.bike_ledger.specs.Ledger.{balance_of, cash_of, revenue_of}

-- the rider stands in the list
abbrev pub is_among : ℕ → List ℕ → Bool
is_among rider riders = list_any (λ r. r == rider) riders

-- no rider stands twice
abbrev pub AreDistinct : List ℕ → Type 0
AreDistinct [] = Unit {0}
AreDistinct (r ∷ rs) = (is_among r rs ≡ false) × AreDistinct rs

-- every entry's rider stands in the list
abbrev pub AreOf : List ℕ → List Entry → Type 0
AreOf riders [] = Unit {0}
AreOf riders (e ∷ es) = (is_among e.rider riders ≡ true) × AreOf riders es

-- the balances of the riders together
abbrev pub balances : List ℕ → List Entry → ℤ
balances [] es = pos 0
balances (r ∷ rs) es = balance_of r es +ℤ balances rs es

-- What the riders have and what the operator earned is what was paid in.
abbrev pub IsConserved : List ℕ → List Entry → Type 0
IsConserved riders es = balances riders es +ℤ revenue_of es ≡ cash_of es
