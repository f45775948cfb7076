-- What soundness says of the numbers of a record that isn't there: all are 0.
use Rattle.std.specs.Prelude.{◌≡◌, ◌<◌, ℕ, pos, List, [], None}
use Rattle.std.specs.FinMap as fin
use Rattle.bike_ledger.specs.Ledger.{balance_of, refunded_of}
use Rattle.bike_operator.specs.Operator.{Operator, last_number}
use Rattle.bike_operator.specs.Counts.{docks_broken}
use Rattle.bike_operator.specs.Sound.{IsSound}
use Rattle.bike_laws.specs.SingleSteps.Numbers.{occupied_docks}
use Rattle.bike_book.specs.ByType.{types_at}

-- a rental with a number above the last has no refunds
abbrev pub NoRefundsYet : Operator → Type 0
NoRefundsYet s = (rental : ℕ) → last_number s.rentals < rental → refunded_of rental s.entries.items ≡ pos 0

-- a rider who isn't there has a balance of 0
abbrev pub NoBalanceYet : Operator → Type 0
NoBalanceYet s = (rider : ℕ) → fin.get s.riders rider ≡ None → balance_of rider s.entries.items ≡ pos 0

-- no bicycle is in a working dock of a station that isn't there
abbrev pub NoneDockedYet : Operator → Type 0
NoneDockedYet s = (station : List ℕ) → fin.get s.stations station ≡ None → occupied_docks s station ≡ 0

-- no bicycle is in any dock of it
abbrev pub NoTypesYet : Operator → Type 0
NoTypesYet s = (station : List ℕ) → fin.get s.stations station ≡ None → types_at s station ≡ []

-- no dock of a station that isn't there is broken
abbrev pub NoneBrokenYet : Operator → Type 0
NoneBrokenYet s = (station : List ℕ) (docks : ℕ) → fin.get s.stations station ≡ None → docks_broken s station docks ≡ 0

-- the fact holds of each sound operator
abbrev pub WhereSound : (Operator → Type 0) → Type 0
WhereSound Fact = (s : Operator) → IsSound s → Fact s
