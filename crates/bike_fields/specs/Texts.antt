-- What a kind of texts says of one text.
use Rattle.std.specs.Prelude.{◌≡◌, ℕ, List, Bool, true, Option, Some, None}
use Rattle.bike_fields.specs.declared.fault.Bound.{Bound}

-- A text with no fault passes the test and is read as itself, and one with a fault is not read.
abbrev pub Judges : List ℕ → Bool → Option (List ℕ) → Option Bound → Type 0
Judges text passes read None = (passes ≡ true) × (read ≡ Some text)
Judges text passes read (Some bound) = read ≡ None
