-- The open account is closed.
use Rattle.std.specs.Prelude.{◌≡◌, ℕ, suc, Bool, true, false, Option, Some, None}
use Rattle.sqlite_value.specs.Order.{Row}
use Rattle.bike_judges.specs.declared.key.BadKey.{BadKey}
use Rattle.bike_judges.specs.Judging.{key_row}

-- Where `before` were closed, what closing the open account finds: its key, if it is bad; else `after` are closed.
abbrev pub Closes : {A : Type 0} → (ℕ → A → Bool) → (A → Row) → Option A → ℕ → ℕ → Option BadKey → Type 0
Closes good key None before after None = after ≡ before
Closes good key None before after (Some found) = ⊥
Closes good key (Some a) before after None = (good before a ≡ true) × (after ≡ suc before)
Closes good key (Some a) before after (Some found) = (good before a ≡ false) × (key_row found ≡ key a)
