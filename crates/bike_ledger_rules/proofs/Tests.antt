-- Small tests, and what they decide.
use Rattle.std.proofs.Common.{◌≡◌, ℕ, ℤ, ◌≤◌, ◌≤ℤ◌, Bool, true, sym, ◌∙◌, arith}
use Rattle.std.specs.Prelude.{nat_le, int_le}
use Rattle.std.specs.Bool.{Decides}
use Rattle.std.proofs.lemmas.Bool.{le-leb, leb-true}
use Rattle.std.proofs.lemmas.Int.{ints}

pub at_most : (a b : ℕ) → Decides (nat_le a b) (a ≤ b)
at_most a b = (λ e. leb-true a b e, λ h. le-leb a b h)

pub at_most_z : (a b : ℤ) → Decides (int_le a b) (a ≤ℤ b)
at_most_z a b = (λ e. grind (arith, ints, e), λ h. grind (arith, ints, h))

pub is_true : (b c : Bool) → b ≡ c → Decides b (c ≡ true)
is_true b c e = (λ h. sym e ∙ h, λ h. e ∙ h)
