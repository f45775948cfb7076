-- The stations of a page that are still to come.
use Rattle.std.specs.Prelude.{◌≡◌, ℕ, List, length, take, Option, Some, None}
use Rattle.std.specs.List.{AllZip}
use Rattle.bike_operator.specs.Operator.{Operator, Station}
use Rattle.bike_queries.specs.After.{first_after}
use Rattle.bike_queries.specs.Pages.{entries_after}

-- these are of the first stations after the identifier
abbrev pub AreAhead : {X : Type 0} → (List ℕ × Station → X → Type 0) → Operator → Option (List ℕ) → List X → Type 0
AreAhead IsOf s after xs = AllZip IsOf (take (length xs) (entries_after after s.stations)) xs

-- THE NEXT: it is of the first station after the identifier,
-- and what is left are those after that; or there is no station
abbrev pub TakesNext : {X : Type 0} → (List ℕ × Station → X → Type 0) → Operator → Option (List ℕ) → Option X → List X
    → Type 0
TakesNext IsOf s after None left = first_after after s.stations ≡ None
TakesNext IsOf s after (Some x) left =
    (e : List ℕ × Station) × (first_after after s.stations ≡ Some e) × IsOf e x × AreAhead IsOf s (Some e.0) left
