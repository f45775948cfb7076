-- A list whose items are numbered without gaps, walked by the first of a later number for which a test holds.
use Rattle.std.proofs.Common.{◌≡◌, ℕ, suc, ◌<◌, ◌≤◌, List, [], ◌∷◌, ◌++◌, Bool, true, false, cond, ◌&&◌, find, Option, Some, None, refl, sym, ap, ◌∙◌, arith, append-nil}
use Rattle.std.specs.Prelude.{nat_lt}
use Rattle.std.specs.List.{filter, flat_map}
use Rattle.std.proofs.lemmas.Bool.{lt-ltb, le-ltb}
use Rattle.std.proofs.lemmas.List.Elements.{filter-append}
use Rattle.std.proofs.lemmas.Grind.{flat_map-append}

-- numbered from n on
abbrev pub IsNumbered : {X : Type 0} → (X → ℕ) → ℕ → List X → Type 0
IsNumbered number n [] = Unit {0}
IsNumbered number n (x ∷ xs) = (number x ≡ n) × IsNumbered number (suc n) xs

module _ {X : Type 0} (number : X → ℕ) (p : X → Bool) where
  -- it has a later number, and the test holds
  abbrev pub is_next : ℕ → X → Bool
  is_next n x = nat_lt n (number x) && p x

  -- where all numbers are later the test alone counts
  beyond : (m n : ℕ) (xs : List X) → IsNumbered number n xs → m < n → find (is_next m) xs ≡ find p xs
  beyond m n [] h lt = refl
  beyond m n (x ∷ xs) h lt =
      let above : m < number x = omega (arith, h.0, lt) in
      let later : nat_lt m (number x) ≡ true = lt-ltb m (number x) above in
      ap (λ (b : Bool). cond (b && p x) (Some x) (find (is_next m) xs)) later
      ∙ ap (λ (o : Option X). cond (p x) (Some x) o) (beyond m (suc n) xs h.1 (omega (arith, lt)))

  behind_front : (n : ℕ) (front : List X) (x : X) (rest : List X) → IsNumbered number n (front ++ x ∷ rest) → n ≤ number x
  behind_front n [] x rest h = omega (arith, h.0)
  behind_front n (y ∷ front) x rest h = omega (arith, behind_front (suc n) front x rest h.1)

  -- the first of a later number than an item's stands behind the item
  pub next_behind : (n : ℕ) (front : List X) (x : X) (rest : List X) → IsNumbered number n (front ++ x ∷ rest)
      → find (is_next (number x)) (front ++ x ∷ rest) ≡ find p rest
  next_behind n [] x rest h =
      let own : nat_lt (number x) (number x) ≡ false = le-ltb (number x) (number x) (omega arith) in
      ap (λ (b : Bool). cond (b && p x) (Some x) (find (is_next (number x)) rest)) own ∙ beyond (number x) (suc n) rest h.1
      (omega (arith, h.0))
  next_behind n (y ∷ front) x rest h =
      let above : suc n ≤ number x = behind_front (suc n) front x rest h.1 in
      let earlier : nat_lt (number x) (number y) ≡ false = le-ltb (number x) (number y) (omega (arith, h.0, above)) in
      ap (λ (b : Bool). cond (b && p y) (Some y) (find (is_next (number x)) (front ++ x ∷ rest))) earlier
      ∙ next_behind (suc n) front x rest h.1

  -- numbers begin at 1, or behind what was archived, so 0 asks for the first of all
  pub next_first : (n : ℕ) (xs : List X) → IsNumbered number (suc n) xs → find (is_next 0) xs ≡ find p xs
  next_first n xs h = beyond 0 (suc n) xs h (omega arith)

module _ {X : Type 0} (p : X → Bool) where
  -- the first for which the test holds, with those before it and behind it
  pub record IsFirst (x : X) (xs : List X) : Type 0 where
    pub skipped : List X
    pub rest : List X
    pub split : xs ≡ skipped ++ x ∷ rest
    pub none : filter p skipped ≡ []
    pub passes : p x ≡ true

  pub find_first : (x : X) (xs : List X) → find p xs ≡ Some x → IsFirst x xs
  find_first x [] e = absurd cc
  find_first x (y ∷ ys) e = go (p y) refl e (find_first x ys) where
    go : (b : Bool) → p y ≡ b → cond b (Some y) (find p ys) ≡ Some x → (find p ys ≡ Some x → IsFirst x ys) → IsFirst x (y ∷ ys)
    go true is e below =
        let same : y ≡ x = cc in
        record { skipped = []; rest = ys; split = ap (λ (z : X). z ∷ ys) same; none = refl; passes = ap p (sym same) ∙ is }
    go false is e below =
        let it = below e in
        record {
          skipped = y ∷ it.skipped;
          rest = it.rest;
          split = ap (λ (zs : List X). y ∷ zs) it.split;
          none = ap (λ (b : Bool). cond b (y ∷ filter p it.skipped) (filter p it.skipped)) is ∙ it.none;
          passes = it.passes;
        }

  pub none_of : (xs : List X) → find p xs ≡ None → filter p xs ≡ []
  none_of [] e = refl
  none_of (x ∷ xs) e = go (p x) e (none_of xs) where
    go : (b : Bool) → cond b (Some x) (find p xs) ≡ None → (find p xs ≡ None → filter p xs ≡ [])
        → cond b (x ∷ filter p xs) (filter p xs) ≡ []
    go true e below = absurd cc
    go false e below = below e

  -- the lines of those for which the test holds
  module _ (line : X → List ℕ) where
    abbrev pub lines : List X → List ℕ
    lines xs = flat_map line (filter p xs)

    pub lines_then : (xs ys : List X) → lines (xs ++ ys) ≡ lines xs ++ lines ys
    lines_then xs ys = ap (flat_map line) (filter-append p xs ys) ∙ flat_map-append line (filter p xs) (filter p ys)

    pub lines_skip : (xs ys : List X) → filter p ys ≡ [] → lines (xs ++ ys) ≡ lines xs
    lines_skip xs ys none = lines_then xs ys ∙ (ap (λ (zs : List X). lines xs ++ flat_map line zs) none ∙ append-nil (lines xs))

    pub lines_first : (x : X) (xs : List X) → p x ≡ true → lines (x ∷ xs) ≡ line x ++ lines xs
    lines_first x xs passes = ap (λ (b : Bool). flat_map line (cond b (x ∷ filter p xs) (filter p xs))) passes

    pub lines_more : (xs : List X) (x : X) → p x ≡ true → lines (xs ++ x ∷ []) ≡ lines xs ++ line x
    lines_more xs x passes = lines_then xs (x ∷ []) ∙ ap (λ (bytes : List ℕ). lines xs ++ bytes) (lines_first x [] passes
        ∙ append-nil (line x))
