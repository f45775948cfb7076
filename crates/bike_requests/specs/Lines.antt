-- Request lines as they are written.
use Rattle.std.specs.Prelude.{◌≡◌, ℕ, List, ◌∷◌, ◌++◌, decimal, ◌==◌, not, true}
use Rattle.std.specs.List.{list_all}
use Rattle.bike_fields.specs.Caller.{caller_text}
use Rattle.bike_commands.specs.declared.request.Request.{Request}
use Rattle.bike_commands.specs.Commands.{text_of}

-- the line that is written for a request at a moment in seconds
abbrev pub line_text : ℕ → Request → List ℕ
line_text moment q = decimal moment ++ 9 ∷ (caller_text q.caller ++ 9 ∷ (q.key ++ 9 ∷ text_of q.command))

-- the text has no line feed
abbrev pub HasNoFeed : List ℕ → Type 0
HasNoFeed text = list_all (λ b. not (b == 10)) text ≡ true
