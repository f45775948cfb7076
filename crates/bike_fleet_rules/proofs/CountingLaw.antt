-- Counting by tests leaves what counting does.
use Rattle.std.proofs.Common.{◌≡◌, Bool, true, false, cond, refl}

module _ {A : Type 0} (more : A → A) where
  -- what is the same after one more is the same after each line
  pub kept_where : {B : Type 0} (get : A → B) → ((a : A) → get (more a) ≡ get a) → (test : A → Bool) (a : A) → get (cond (test a) (more a) a) ≡ get a
  kept_where get kept test a = go (test a) where
    go : (b : Bool) → get (cond b (more a) a) ≡ get a
    go true = kept a
    go false = refl
