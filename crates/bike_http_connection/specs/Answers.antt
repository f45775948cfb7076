-- What of an answer isn't sent yet.
use Rattle.std.specs.Prelude.{◌≡◌, ◌≤◌, ◌<◌, ◌+◌, ℕ, List, [], ◌∷◌, ◌++◌, length, drop, Option}
use Rattle.std.specs.Io.KnownBytes.{Appends}

-- the bytes of one after the other
abbrev pub concat : List (List ℕ) → List ℕ
concat [] = []
concat (block ∷ blocks) = block ++ concat blocks

-- the bytes of all blocks
abbrev pub bytes_in : List (List ℕ) → List ℕ → List ℕ
bytes_in full last = concat full ++ last

-- the bytes that are left
abbrev pub left_of : ℕ → List (List ℕ) → List ℕ → List ℕ
left_of taken full last = drop taken (bytes_in full last)

-- the bytes begin with these
abbrev pub BeginsWith : List ℕ → List ℕ → Type 0
BeginsWith bytes front = (rest : List ℕ) × (bytes ≡ front ++ rest)

-- A first block is freed where so many bytes are taken that none of it is left, and no other.
abbrev pub FreesTaken : List (List ℕ) → ℕ → List (List ℕ) → ℕ → Type 0
FreesTaken [] taken left after = (left ≡ []) × (after ≡ taken)
FreesTaken (block ∷ blocks) taken left after =
    (length block ≤ taken → (left ≡ blocks) × (taken ≡ length block + after))
    × (taken < length block → (left ≡ block ∷ blocks) × (after ≡ taken))

-- A front of what was left is sent to a writer, and the rest is left.
pub record Sends (old new : Option (List ℕ)) (before after : List ℕ) : Type 0 where
  pub sent : List ℕ
  pub left : before ≡ sent ++ after
  pub written : Appends old new sent
