-- A judge is shown the lines of an answer one at a time, and names the first bad key, or none.
use Rattle.std.specs.Prelude.{◌≡◌, List, [], ◌∷◌, take, Option, Some, None}
use Rattle.sqlite_value.specs.declared.value.Value.TheVariants.{Int, Text}
use Rattle.sqlite_value.specs.Order.{Row}
use Rattle.bike_judges.specs.declared.key.BadKey.{BadKey}
use Rattle.bike_judges.specs.declared.key.BadKey.TheVariants.{Number, Columns, Named, Paired}

-- the key as a row has it
abbrev pub key_row : BadKey → Row
key_row (Number number) = Int number ∷ []
key_row (Columns row keys) = take keys row
key_row (Named text) = Text text ∷ []
key_row (Paired first second) = Text first ∷ Text second ∷ []

-- after one more line: the judge says the same of those that are left, or the verdict was found
abbrev pub Continues : {J : Type 0} → (J → List Row → Option Row → Type 0) → J → List Row → Option Row → Option BadKey
    → Type 0
Continues says judge left verdict None = says judge left verdict
Continues says judge left verdict (Some key) = verdict ≡ Some (key_row key)
