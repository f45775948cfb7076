-- The lines of a text: its parts between line feeds (byte 10).
use Rattle.std.specs.Prelude.{◌≡◌, ℕ, Bool, true, false, ◌==◌, if◌then◌else◌, List, [], ◌∷◌, ◌++◌}

-- the byte goes onto the front of the first line
abbrev pub onto : ℕ → List (List ℕ) → List (List ℕ)
onto b [] = (b ∷ []) ∷ []
onto b (line ∷ lines) = (b ∷ line) ∷ lines

-- the parts between line feeds, the last one where it isn't empty
abbrev pub lines_of : List ℕ → List (List ℕ)
lines_of [] = []
lines_of (b ∷ bytes) = if b == 10 then [] ∷ lines_of bytes else onto b (lines_of bytes)

-- the bytes before the first line feed, or all of them
abbrev pub first_line : List ℕ → List ℕ
first_line [] = []
first_line (b ∷ bytes) = if b == 10 then [] else b ∷ first_line bytes

-- a line feed is among the bytes
abbrev pub has_feed : List ℕ → Bool
has_feed [] = false
has_feed (b ∷ bytes) = if b == 10 then true else has_feed bytes

-- no line feed is among the bytes
abbrev pub IsFree : List ℕ → Type 0
IsFree bytes = has_feed bytes ≡ false

-- the lines, each with a line feed at its end
abbrev pub lines_text : List (List ℕ) → List ℕ
lines_text [] = []
lines_text (line ∷ lines) = line ++ 10 ∷ lines_text lines
