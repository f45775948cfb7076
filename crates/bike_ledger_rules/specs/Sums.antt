-- Sums by number: a list has one for each number below its length.
use Rattle.std.specs.Prelude.{ℕ, ℤ, pos, ◌+ℤ◌, List, get_or, set, Option, Some, None}

-- the sum of a number, and 0 beyond the end
abbrev pub sum_at : List ℤ → ℕ → ℤ
sum_at sums number = get_or sums number (pos 0)

-- with an amount added to the sum of a number; beyond the end nothing changes
abbrev pub with_added : List ℤ → ℕ → ℤ → List ℤ
with_added sums number amount = set sums number (sum_at sums number +ℤ amount)

-- with what was read, if anything was
abbrev pub with_read : {A X : Type 0} → (A → X → A) → A → Option X → A
with_read step sums None = sums
with_read step sums (Some x) = step sums x
