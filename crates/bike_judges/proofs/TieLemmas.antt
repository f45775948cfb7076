-- When two lines tie by the columns that they are in the order of.
use Rattle.std.proofs.Common.{◌≡◌, ℤ, pos, [], ◌∷◌, Less, Equal, refl}
use Rattle.sqlite_value.specs.declared.value.Value.{Value}
use Rattle.sqlite_value.specs.declared.value.Value.TheVariants.{Int}
use Rattle.sqlite_value.specs.Order.{value_cmp, row_cmp}
use Rattle.sqlite_value.proofs.KeyLemmas.{then_tied}

-- ---- an owner, a table's place, and a number

module _ (o p k l : Value) (m : ℤ) (tie : row_cmp (o ∷ Int m ∷ k ∷ []) (p ∷ Int m ∷ l ∷ []) ≡ Equal) where
  owners : value_cmp o p ≡ Equal
  owners = (then_tied (value_cmp o p) _ tie).0

  numbers : value_cmp k l ≡ Equal
  numbers = (then_tied (value_cmp k l) _ (then_tied (value_cmp (Int m) (Int m)) _ (then_tied (value_cmp o p) _ tie).1).1).0

  pub owner_ties : row_cmp (o ∷ []) (p ∷ []) ≡ Equal
  owner_ties = rw owners refl

  pub number_ties : row_cmp (k ∷ []) (l ∷ []) ≡ Equal
  number_ties = rw numbers refl

  pub both_tie : row_cmp (o ∷ k ∷ []) (p ∷ l ∷ []) ≡ Equal
  both_tie = rw (owners, numbers) refl

-- lines of tables at two places never tie
pub places_apart : (o p k l : Value) (m n : ℤ) → value_cmp (Int m) (Int n) ≡ Less → row_cmp (o ∷ Int m ∷ k ∷ []) (p ∷ Int n ∷ l ∷ []) ≡ Equal → ⊥
places_apart o p k l m n below tie = absurd (let e = (then_tied (value_cmp (Int m) (Int n)) _ (then_tied (value_cmp o p) _ tie).1).0 in cc)

-- ---- a station, a dock, a table's place, and a number

module _ (o p c d k l : Value) (m : ℤ) (tie : row_cmp (o ∷ c ∷ Int m ∷ k ∷ []) (p ∷ d ∷ Int m ∷ l ∷ []) ≡ Equal) where
  pub dock_tie : row_cmp (o ∷ c ∷ []) (p ∷ d ∷ []) ≡ Equal
  dock_tie =
      let first = then_tied (value_cmp o p) _ tie in
      let second = then_tied (value_cmp c d) _ first.1 in
      rw (first.0, second.0) refl

  pub last_ties : row_cmp (k ∷ []) (l ∷ []) ≡ Equal
  last_ties = (then_tied (value_cmp (Int m) (Int m)) _ (then_tied (value_cmp c d) _ (then_tied (value_cmp o p) _ tie).1).1).1

pub third_apart : (o p c d k l : Value) (m n : ℤ) → value_cmp (Int m) (Int n) ≡ Less → row_cmp (o ∷ c ∷ Int m ∷ k ∷ []) (p ∷ d ∷ Int n ∷ l ∷ []) ≡ Equal → ⊥
third_apart o p c d k l m n below tie = absurd (let e = (then_tied (value_cmp (Int m) (Int n)) _ (then_tied (value_cmp c d) _ (then_tied (value_cmp o p) _ tie).1).1).0 in cc)

-- ---- two values, and a number

pub third_ties : (o p c d k l : Value) → row_cmp (o ∷ c ∷ k ∷ []) (p ∷ d ∷ l ∷ []) ≡ Equal → row_cmp (k ∷ []) (l ∷ []) ≡ Equal
third_ties o p c d k l tie = (then_tied (value_cmp c d) _ (then_tied (value_cmp o p) _ tie).1).1

-- ---- the places

pub zero_one : value_cmp (Int (pos 0)) (Int (pos 1)) ≡ Less
unfolding value_cmp lib.Ieee.is_nan lib.Ieee.lt
zero_one = refl

pub zero_two : value_cmp (Int (pos 0)) (Int (pos 2)) ≡ Less
unfolding value_cmp lib.Ieee.is_nan lib.Ieee.lt
zero_two = refl

pub one_two : value_cmp (Int (pos 1)) (Int (pos 2)) ≡ Less
unfolding value_cmp lib.Ieee.is_nan lib.Ieee.lt
one_two = refl
