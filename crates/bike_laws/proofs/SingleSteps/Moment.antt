-- An operator at a later moment.
use Rattle.std.proofs.Common.{ℕ}
use Rattle.bike_operator.specs.Operator.{Operator, Station, AcceptedRequest, Numbered}

-- the operator at a moment, with this history
abbrev pub at_moment : Operator → ℕ → Numbered AcceptedRequest → Operator
at_moment s now k = record s { now = now; history = k }

abbrev pub reports : ℕ → Station → Station
reports now x = record x { reported = now }
