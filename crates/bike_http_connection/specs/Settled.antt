-- Inputs of which no more need be read.
use Rattle.std.specs.Prelude.{◌≡◌, ◌⊎◌, ℕ, ◌≤◌, List, ◌++◌, length, map, Bool, true, IsTrue, [], Option}
use Rattle.std.specs.Io.KnownBytes.{IsAtEnd}
use Rattle.httparse.specs.Grammar.{RequestHead}
use Rattle.httparse.specs.Spans.{name_and_value}
use Rattle.bike_http_head.specs.Head.{HasHead}
use Rattle.bike_http_head.specs.Length.{body_length}
use Rattle.bike_http_head.specs.declared.length.BodyLength.{BodyLength}
use Rattle.bike_http_head.specs.declared.length.BodyLength.TheVariants.{Malformed, TooLong, Of}
use Rattle.bike_http_request.specs.Asked.{Asks}
use Rattle.bike_http_request.specs.declared.action.Action.{Action}

-- whatever follows these bytes, the same is asked for
abbrev pub IsSettled : List ℕ → Type 0
IsSettled bytes = (asked : Action) → Asks bytes asked → (more : List ℕ) → Asks (bytes ++ more) asked

-- No more is wanted of a request: its input is at its end, what it asks for is settled, or there are as many bytes as a
-- head and a body have at most.
abbrev pub IsThere : Bool → Option (List ℕ) → List ℕ → Type 0
IsThere ended left bytes = ((ended ≡ true) × IsAtEnd left) ⊎ (IsSettled bytes ⊎ (24576 ≤ length bytes))

-- The same of a request whose client, where that is known, sends these bytes still.
abbrev pub IsComplete : Bool → Bool → List ℕ → List ℕ → Type 0
IsComplete known ended coming bytes =
    ((ended ≡ true) × (IsTrue known → coming ≡ [])) ⊎ (IsSettled bytes ⊎ (24576 ≤ length bytes))

-- how many bytes of a body are wanted: none where its length is refused
abbrev pub wanted_of : BodyLength → ℕ
wanted_of Malformed = 0
wanted_of TooLong = 0
wanted_of (Of n) = n

-- these bytes are a request, whatever follows: its head, and as much behind it as that tells
abbrev pub IsWhole : List ℕ → Type 0
IsWhole bytes =
    (head : RequestHead) × (rest : List ℕ) × HasHead bytes head rest
    × (wanted_of (body_length (map name_and_value head.fields)) ≤ length rest)
