-- What taking one line does to the bytes that are still to come.
use Rattle.std.specs.Prelude.{◌≡◌, ℕ, ◌<◌, Bool, true, false, List, [], ◌∷◌, ◌++◌, length, take, ⊤, Option, None, Some}
use Rattle.std.specs.Io.BufRead.{drop_through}
use Rattle.bike_stream.specs.Lines.{first_line, IsFree}

-- the first line was taken off a text, and its first bytes were kept; or the text is empty
abbrev pub TakesLine : ℕ → List ℕ → List ℕ → Bool → List ℕ → Type 0
TakesLine most text rest true line =
    (0 < length text) × (line ≡ take most (first_line text)) × (rest ≡ drop_through 10 text)
TakesLine most text rest false line = (text ≡ []) × (rest ≡ [])

-- the same, where the bytes are known
abbrev pub Takes : ℕ → Option (List ℕ) → Option (List ℕ) → Bool → List ℕ → Type 0
Takes most None new more line = ⊤
Takes most (Some text) None more line = ⊥
Takes most (Some text) (Some rest) more line = TakesLine most text rest more line

-- there is a byte
abbrev pub has_byte : List ℕ → Bool
has_byte [] = false
has_byte (b ∷ bytes) = true

-- a front of the first line was taken, and its first bytes were kept; whether any was taken
abbrev pub IsTaking : ℕ → List ℕ → Bool → List ℕ → List ℕ → Type 0
IsTaking most text some rest line =
    (front : List ℕ) × (text ≡ front ++ rest) × IsFree front × (line ≡ take most front) × (some ≡ has_byte front)

-- the same, where the bytes are known
abbrev pub Taking : ℕ → Option (List ℕ) → Bool → Option (List ℕ) → List ℕ → Type 0
Taking most None some new line = ⊤
Taking most (Some text) some None line = ⊥
Taking most (Some text) some (Some rest) line = IsTaking most text some rest line

-- the taking of a line ended before the line did: some front of it is taken, or nothing
abbrev pub Interrupts : ℕ → Option (List ℕ) → Option (List ℕ) → List ℕ → Type 0
Interrupts most old new line = (some : Bool) × Taking most old some new line
