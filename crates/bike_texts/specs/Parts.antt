-- A text as the list of its parts between separators.
use Rattle.std.specs.Prelude.{ℕ, List, [], Option, Some, None, ◌==◌}
use Rattle.std.specs.List.{slice_split}
use Rattle.std.specs.Borrow.{Bor}

abbrev pub Parts : Type 0
Parts = List (List ℕ)

-- the parts of what is left of a text, which has no part once nothing is left
abbrev pub parts_at : ℕ → Option (Bor (List ℕ)) → Parts
parts_at separator None = []
parts_at separator (Some text) = slice_split (λ b. b == separator) text.now
