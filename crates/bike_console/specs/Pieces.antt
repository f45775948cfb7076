-- How a key is told, and a line that is written in pieces.
use Rattle.std.specs.Prelude.{ℕ, ◌==◌, ◌⊎◌, List, [], ◌∷◌, ◌++◌, codes, if◌then◌else◌, Bool, true, false}
use Rattle.std.specs.Fmt.{signed_decimal}
use Rattle.std.specs.Str.{is_utf8}
use Rattle.sqlite_value.specs.declared.value.Value.{Value}
use Rattle.sqlite_value.specs.declared.value.Value.TheVariants.{Int, Text}
use Rattle.sqlite_value.specs.Order.{Row}
use Rattle.bike_json.specs.Outputs.{OutputState, Takes, Refuses}

-- a whole number in decimal, a text in UTF-8 as it is, and anything else `?`
abbrev pub value_text : Value → List ℕ
value_text (Int n) = signed_decimal n
value_text (Text text) = if is_utf8 text then text else codes "?"
value_text _ = codes "?"

-- the columns of a key, parted by `/`
abbrev pub key_text : Row → List ℕ
key_text [] = []
key_text (v ∷ []) = value_text v
key_text (v ∷ w ∷ more) = value_text v ++ 47 ∷ key_text (w ∷ more)

-- what stands before the column at this place: a `/`, but for the first
abbrev pub bar : ℕ → List ℕ
bar at = if at == 0 then [] else codes "/"

-- A piece is written where all before it are, and a front of it, not all,
-- where the output refuses bytes: whether all are, before and after.
abbrev pub Puts : OutputState → OutputState → List ℕ → Bool → Bool → Type 0
Puts old new bytes true true = Takes old new bytes
Puts old new bytes true false = Refuses old new bytes
Puts old new bytes false true = ⊥
Puts old new bytes false false = Takes old new []

-- a line is written, or a front of it, not all, since the output refuses bytes
abbrev pub PutsLine : OutputState → OutputState → List ℕ → Type 0
PutsLine old new line = Takes old new line ⊎ Refuses old new line
