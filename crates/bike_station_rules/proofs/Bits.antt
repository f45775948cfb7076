-- What stands in a set of docks after many lines.
use Rattle.std.proofs.Common.{◌≡◌, inl, inr, ◌⊎◌, ℕ, zero, suc, ◌<◌, List, [], ◌∷◌, length, map, Bool, true, false, cond, ◌||◌, ◌==◌, not, Option, Some, None, is_none, find, refl, sym, ap, ◌∙◌}
use Rattle.std.specs.Prelude.{get_or, slice_set, replicate}
use Rattle.std.specs.List.{filter_map, cons_option, list_any}
use Rattle.std.proofs.lemmas.List.{get_or-set_same, get_or-set_other, length-set, set_comm}
use Rattle.std.proofs.lemmas.Bool.Decides.{eqb_tells}
use Rattle.sqlite_rules.specs.Lists.{Has}
use Rattle.bike_station_rules.specs.DockSets.{has_bit, with_bit}

-- it is this dock
abbrev pub is_bit : ℕ → Option ℕ → Bool
is_bit n None = false
is_bit n (Some m) = m == n

pub or_false : (b : Bool) → (b || false) ≡ b
or_false true = refl
or_false false = refl

pub or_true : (b : Bool) → (b || true) ≡ true
or_true true = refl
or_true false = refl

pub or_assoc : (a b c : Bool) → ((a || b) || c) ≡ (a || (b || c))
or_assoc true b c = refl
or_assoc false b c = refl

-- ---- sets

-- each dock that a line may name has a place
abbrev pub IsWithinSet : List Bool → Option ℕ → Type 0
IsWithinSet set None = Unit {0}
IsWithinSet set (Some n) = n < length set

pub with_bit_has : (o : Option ℕ) (set : List Bool) (n : ℕ) → IsWithinSet set o → has_bit (with_bit o set) n ≡ (has_bit set n || is_bit n o)
with_bit_has None set n within = sym (or_false (has_bit set n))
with_bit_has (Some m) set n within = go (eqb_tells m n) where
  go : ((m == n) ≡ true) × (m ≡ n) ⊎ ((m == n) ≡ false) × (m ≡ n → ⊥) → has_bit (slice_set set m true) n ≡ (has_bit set n || (m == n))
  go (inl same) =
      ap (λ (k : ℕ). get_or (slice_set set m true) k false) (sym same.1) ∙ get_or-set_same set m true false within ∙ sym (or_true (has_bit set n)) ∙ ap (λ (b : Bool). has_bit set n || b) (sym same.0)
  go (inr other) = get_or-set_other set m n true false (λ e. other.1 (sym e)) ∙ sym (or_false (has_bit set n)) ∙ ap (λ (b : Bool). has_bit set n || b) (sym other.0)

pub with_bit_length : (o : Option ℕ) (set : List Bool) → length (with_bit o set) ≡ length set
with_bit_length None set = refl
with_bit_length (Some m) set = length-set set m true

pub with_bit_commutes : (o p : Option ℕ) (set : List Bool) → with_bit p (with_bit o set) ≡ with_bit o (with_bit p set)
with_bit_commutes None p set = refl
with_bit_commutes (Some m) None set = refl
with_bit_commutes (Some m) (Some n) set = go (eqb_tells m n) where
  go : ((m == n) ≡ true) × (m ≡ n) ⊎ ((m == n) ≡ false) × (m ≡ n → ⊥) → slice_set (slice_set set m true) n true ≡ slice_set (slice_set set n true) m true
  go (inl same) = λ i. slice_set (slice_set set (same.1 i) true) (sym same.1 i) true
  go (inr other) = set_comm set m n true true other.1

pub none_set : (k n : ℕ) → has_bit (replicate k false) n ≡ false
none_set zero n = refl
none_set (suc k) zero = refl
none_set (suc k) (suc n) = none_set k n

-- ---- lists

-- a test of what was read
abbrev pub of_read : {Y : Type 0} → (Y → Bool) → Option Y → Bool
of_read p None = false
of_read p (Some y) = p y

module _ {X Y : Type 0} where
  pub any_map : (p : Y → Bool) (f : X → Y) (xs : List X) → list_any p (map f xs) ≡ list_any (λ x. p (f x)) xs
  any_map p f [] = refl
  any_map p f (x ∷ xs) = ap (λ (b : Bool). p (f x) || b) (any_map p f xs)

  pub any_read : (p : Y → Bool) (read : X → Option Y) (xs : List X) → list_any p (filter_map read xs) ≡ list_any (λ x. of_read p (read x)) xs
  any_read p read [] = refl
  any_read p read (x ∷ xs) = go (read x) (any_read p read xs) where
    go : (o : Option Y) → list_any p (filter_map read xs) ≡ list_any (λ z. of_read p (read z)) xs
        → list_any p (cons_option o (filter_map read xs)) ≡ (of_read p o || list_any (λ z. of_read p (read z)) xs)
    go None rest = rest
    go (Some y) rest = ap (λ (b : Bool). p y || b) rest

module _ {X : Type 0} where
  pub any_same : (p q : X → Bool) (xs : List X) → ((x : X) → Has xs x → p x ≡ q x) → list_any p xs ≡ list_any q xs
  any_same p q [] same = refl
  any_same p q (x ∷ xs) same = λ i. (same x (inl refl) i || any_same p q xs (λ y has. same y (inr has)) i)

  pub any_none : (p : X → Bool) (xs : List X) → ((x : X) → p x ≡ false) → list_any p xs ≡ false
  any_none p [] none = refl
  any_none p (x ∷ xs) none = ap (λ (b : Bool). b || list_any p xs) (none x) ∙ any_none p xs none

  pub none_found : (p : X → Bool) (xs : List X) → not (list_any p xs) ≡ is_none (find p xs)
  none_found p [] = refl
  none_found p (x ∷ xs) = go (p x) (none_found p xs) where
    go : (b : Bool) → not (list_any p xs) ≡ is_none (find p xs) → not (b || list_any p xs) ≡ is_none (cond b (Some x) (find p xs))
    go true rest = refl
    go false rest = rest
