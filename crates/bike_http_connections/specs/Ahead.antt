-- Connections of which it is known what comes.
use Rattle.std.specs.Prelude.{ℕ, ◌≤◌, length, List, [], ◌∷◌, ◌++◌, flat_map, Option, Some, None, IsPermutation}
use Rattle.bike_http_connection.specs.Asking.{Coming}
use Rattle.bike_http_connection.specs.Connected.{Connected}

-- those that were there are there still, each as it was, but for some that ended
abbrev pub Loses : {X : Type 0} → List X → List X → Type 0
Loses {X} old new = (lost : List X) × IsPermutation old (lost ++ new)

-- those that were there are there still, each as it was; others may have come in
abbrev pub Stay : {X : Type 0} → List X → List X → Type 0
Stay {X} old new = Loses new old

-- .. all but so many of them at most
abbrev pub StayBut : {X : Type 0} → ℕ → List X → List X → Type 0
StayBut {X} most old new = (gone : List X) × (length gone ≤ most) × Stay old (gone ++ new)

-- those in slots
abbrev pub open_in : {X : Type 0} → List (Option X) → List X
open_in {X} [] = []
open_in {X} (None ∷ slots) = open_in slots
open_in {X} (Some x ∷ slots) = x ∷ open_in slots

-- a client that isn't accepted yet: nothing was sent to it
abbrev pub fresh : Coming → Connected
fresh coming = record { client = coming; ahead = coming ∷ []; response = [] }

-- the requests that aren't answered yet
abbrev pub ahead_of : List Connected → List Coming
ahead_of = flat_map (λ one. one.ahead)
