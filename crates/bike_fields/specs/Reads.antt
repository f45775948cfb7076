-- What a reader of a text answers.
use Rattle.std.specs.Prelude.{◌≡◌, Option, Some, None, IsSome, Result, Ok, Err}
use Rattle.std.specs.declared.alloc.AllocError.{AllocError}

-- the outcome, seen as a value, is what reading gives
abbrev pub Gives : {A B : Type 0} → (A → B) → Option A → Option B → Type 0
Gives view (Some x) read = read ≡ Some (view x)
Gives view None read = read ≡ None

-- The outcome is what reading gives. Memory is asked for only where
-- reading gives a value, so where it gives nothing there is no error.
abbrev pub IsReadAs : {A : Type 0} → Option A → Result (Option A) AllocError → Type 0
IsReadAs read (Ok outcome) = outcome ≡ read
IsReadAs read (Err refused) = IsSome read
