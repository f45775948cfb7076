-- Tests joined with a known one.
use Rattle.std.proofs.Common.{◌≡◌, Bool, true, false, ◌&&◌, refl}

pub and_false : (c : Bool) → (c && false) ≡ false
and_false true = refl
and_false false = refl

pub and_true : (c : Bool) → (c && true) ≡ c
and_true true = refl
and_true false = refl
