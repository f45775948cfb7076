-- How many reads the taking of a line makes, and what they give.
use Rattle.std.specs.Prelude.{ℕ, ◌+◌, ◌*◌, ◌≤◌, Bool, List, [], ◌∷◌, ◌++◌, length, ⊤, Option, None, Some, Result, Ok}
use Rattle.std.specs.Prelude.{Err}
use Rattle.bike_stream.specs.declared.buffer.ReadFault.{ReadFault}
use Rattle.bike_stream.specs.declared.buffer.ReadFault.TheVariants.{Failed, TooMany}
use Rattle.bike_stream.specs.declared.buffer.TheConstants.{READ_LENGTH}

-- the bytes that may still come: those held, and as many as the reads that are left can give
abbrev pub most_ahead : List ℕ → ℕ → ℕ
most_ahead held reads = length held + READ_LENGTH * reads

-- how many reads gave no byte: one that found the end, after which no byte is ahead, or one that failed
abbrev pub idle_reads : Result Bool ReadFault → List ℕ → ℕ
idle_reads (Ok more) [] = 1
idle_reads (Ok more) (b ∷ ahead) = 0
idle_reads (Err Failed) ahead = 1
idle_reads (Err TooMany) ahead = 0

-- where the reader's bytes are known, each other read gave one at least
abbrev pub ReadsBytes : Option (List ℕ) → Option (List ℕ) → List ℕ → ℕ → ℕ → Result Bool ReadFault → Type 0
ReadsBytes None new held before after result = ⊤
ReadsBytes (Some text) None held before after result = ⊥
ReadsBytes (Some text) (Some left) held before after result =
    before + length left ≤ after + length text + idle_reads result (held ++ left)
