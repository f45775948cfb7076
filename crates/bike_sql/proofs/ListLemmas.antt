-- What `find`, `position_from` and `slice_get` give of a list that grew at its end.
use Rattle.std.proofs.Common.{◌≡◌, ℕ, zero, suc, ◌+◌, Bool, true, false, cond, List, [], ◌∷◌, ◌++◌, slice_get, length, find, Some, None, ap, ◌∙◌, refl, arith}
use Rattle.std.specs.List.{position_from}

-- a step of a search, that hits or goes on
step : {A : Type 0} (hit : Bool) (here here' a b later later' : A) → cond hit here later ≡ a → (here ≡ a → here' ≡ b) → (later ≡ a → later' ≡ b) → cond hit here' later' ≡ b
step true here here' a b later later' is hits goes_on = hits is
step false here here' a b later later' is hits goes_on = goes_on is

module _ {X : Type 0} (p : X → Bool) where
  -- what was found is found still
  pub position_first : (base : ℕ) (xs ys : List X) (k : ℕ) → position_from p base xs ≡ Some k → position_from p base (xs ++ ys) ≡ Some k
  position_first base [] ys k is = absurd (cc)
  position_first base (x ∷ xs) ys k is =
      step (p x) (Some base) (Some base) (Some k) (Some k) (position_from p (base + 1) xs) (position_from p (base + 1) (xs ++ ys)) is (λ e. e) (λ e. position_first (base + 1) xs ys k e)

  -- what neither part has is not found
  pub position_none : (base : ℕ) (xs ys : List X) → position_from p base xs ≡ None → ((from : ℕ) → position_from p from ys ≡ None) → position_from p base (xs ++ ys) ≡ None
  position_none base [] ys none later = later base
  position_none base (x ∷ xs) ys none later =
      step (p x) (Some base) (Some base) None None (position_from p (base + 1) xs) (position_from p (base + 1) (xs ++ ys)) none (λ e. e) (λ e. position_none (base + 1) xs ys e later)

  -- what only the end has is found there
  pub position_last : (base : ℕ) (xs : List X) (y : X) → position_from p base xs ≡ None → p y ≡ true → position_from p base (xs ++ y ∷ []) ≡ Some (base + length xs)
  position_last base [] y none hit = rw hit (ap Some (omega arith))
  position_last base (x ∷ xs) y none hit =
      step (p x) (Some base) (Some base) None (Some (base + length (x ∷ xs))) (position_from p (base + 1) xs) (position_from p (base + 1) (xs ++ y ∷ [])) none
      (λ e. absurd (cc)) (λ e. position_last (base + 1) xs y e hit ∙ ap Some (omega arith))

  pub find_first : (xs ys : List X) (x : X) → find p xs ≡ Some x → find p (xs ++ ys) ≡ Some x
  find_first [] ys x is = absurd (cc)
  find_first (z ∷ xs) ys x is = step (p z) (Some z) (Some z) (Some x) (Some x) (find p xs) (find p (xs ++ ys)) is (λ e. e) (λ e. find_first xs ys x e)

  pub find_last : (xs : List X) (y : X) → find p xs ≡ None → p y ≡ true → find p (xs ++ y ∷ []) ≡ Some y
  find_last [] y none hit = rw hit
  find_last (x ∷ xs) y none hit = step (p x) (Some x) (Some x) None (Some y) (find p xs) (find p (xs ++ y ∷ [])) none (λ e. absurd (cc)) (λ e. find_last xs y e hit)

pub get_first : {X : Type 0} (xs ys : List X) (k : ℕ) (x : X) → slice_get xs k ≡ Some x → slice_get (xs ++ ys) k ≡ Some x
get_first [] ys k x is = absurd (cc)
get_first (z ∷ xs) ys zero x is = is
get_first (z ∷ xs) ys (suc k) x is = get_first xs ys k x is

pub get_last : {X : Type 0} (xs : List X) (y : X) → slice_get (xs ++ y ∷ []) (length xs) ≡ Some y
get_last [] y = refl
get_last (x ∷ xs) y = get_last xs y
