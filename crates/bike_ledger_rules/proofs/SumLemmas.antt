-- Sums by number after amounts were added, each to the number of its owner.
use Rattle.std.proofs.Common.{◌≡◌, ℕ, suc, ℤ, pos, ◌+ℤ◌, ◌+◌, ◌-◌, ◌<◌, ◌==◌, List, [], ◌∷◌, length, Bool}
use Rattle.std.proofs.Common.{true, false, cond, ◌&&◌, Option, Some, None, refl, sym, ap, ◌∙◌, arith, get_or, set, replicate}
use Rattle.std.specs.List.{fold, filter_map, cons_option}
use Rattle.std.proofs.lemmas.Bool.Decides.{Decides-eqb, not_from_Decides}
use Rattle.std.proofs.lemmas.Int.{ints}
use Rattle.std.proofs.lemmas.List.{length-set, get_or-set_same, get_or-set_other, get_or-replicate, length-replicate}
use Rattle.bike_ledger.specs.Entries.{Entry}
use Rattle.bike_ledger.specs.Ledger.{total}
use Rattle.bike_operator.specs.Counts.{count}
use Rattle.bike_laws.proofs.SingleSteps.CountLemmas.{count-cons, one}
use Rattle.bike_ledger_rules.specs.Sums.{sum_at, with_added, with_read}

not_true : (b : Bool) → (b ≡ true → ⊥) → b ≡ false
not_true true never = absurd (never refl)
not_true false never = refl

-- a number stands at a place behind so many just where it is so much greater
pub place_number : (n archived below : ℕ) → (n - archived == suc below) ≡ (n == archived + suc below)
place_number n archived below = go (n == archived + suc below) refl where
  go : (b : Bool) → (n == archived + suc below) ≡ b → (n - archived == suc below) ≡ b
  go true e = let is = (Decides-eqb n (archived + suc below)).0 e in (Decides-eqb (n - archived) (suc below)).1 (omega (arith, is))
  go false e =
      let other = not_from_Decides (n == archived + suc below) (Decides-eqb n (archived + suc below)) e in
      not_true (n - archived == suc below) (λ t. other (let is = (Decides-eqb (n - archived) (suc below)).0 t in omega (arith, is)))

-- there are as many sums as before
pub length-with_added : (sums : List ℤ) (number : ℕ) (amount : ℤ) → length (with_added sums number amount) ≡ length sums
length-with_added sums number amount = length-set sums number (sum_at sums number +ℤ amount)

-- the sum of a number is what it was, and the amount where that was added to it
pub sum_at-with_added : (sums : List ℤ) (owner : ℕ) (amount : ℤ) (n : ℕ) → n < length sums
    → sum_at (with_added sums owner amount) n ≡ sum_at sums n +ℤ cond (owner == n) amount (pos 0)
sum_at-with_added sums owner amount n low = go (owner == n) refl where
  none : (z : ℤ) → z ≡ z +ℤ pos 0
  none z = omega (arith, ints)

  go : (b : Bool) → (owner == n) ≡ b → sum_at (with_added sums owner amount) n ≡ sum_at sums n +ℤ cond b amount (pos 0)
  go true e =
      ap (λ (m : ℕ). get_or (set sums m (sum_at sums m +ℤ amount)) n (pos 0)) ((Decides-eqb owner n).0 e)
      ∙ get_or-set_same sums n (sum_at sums n +ℤ amount) (pos 0) low
  go false e =
      let other = not_from_Decides (owner == n) (Decides-eqb owner n) e in
      get_or-set_other sums owner n (sum_at sums owner +ℤ amount) (pos 0) (λ same. other (sym same)) ∙ none (sum_at sums n)

-- ---- the items that rows spell

pub fold_read : {R X A : Type 0} (read : R → Option X) (step : A → X → A) (rows : List R) (a : A)
    → fold (λ b r. with_read step b (read r)) a rows ≡ fold step a (filter_map read rows)
fold_read read step [] a = refl
fold_read {R} {X} {A} read step (r ∷ rows) a = go (read r) (fold_read read step rows) where
  go : (o : Option X) → ((b : A) → fold (λ b r. with_read step b (read r)) b rows ≡ fold step b (filter_map read rows))
      → fold (λ b r. with_read step b (read r)) (with_read step a o) rows ≡ fold step a (cons_option o (filter_map read rows))
  go None rest = rest a
  go (Some x) rest = rest (step a x)

-- a fold over what holds the sums is one over the sums
pub fold_held : {R A B : Type 0} (get : A → B) (after : A → R → A) (step : B → R → B) → ((a : A) (r : R) → get (after a r) ≡ step (get a) r)
    → (rows : List R) (a : A) → get (fold after a rows) ≡ fold step (get a) rows
fold_held get after step same [] a = refl
fold_held get after step same (r ∷ rows) a = fold_held get after step same rows (after a r) ∙ ap (λ b. fold step b rows) (same a r)

-- ---- all items

module _ {X : Type 0} (owner : X → ℕ) (amount : X → ℤ) where
  -- the sums with the amounts of all these added
  abbrev pub with_all : List ℤ → List X → List ℤ
  with_all = fold (λ sums x. with_added sums (owner x) (amount x))

  -- what it adds to the sum of a number
  abbrev pub share_of : ℕ → X → ℤ
  share_of n x = cond (owner x == n) (amount x) (pos 0)

  -- THE SUM OF A NUMBER is the total of what the items add to it
  module _ (n : ℕ) (total_of : List X → ℤ) (none : total_of [] ≡ pos 0)
      (more : (x : X) (xs : List X) → total_of (x ∷ xs) ≡ share_of n x +ℤ total_of xs) where
    add_none : (z t : ℤ) → t ≡ pos 0 → z ≡ z +ℤ t
    add_none z t e = omega (arith, ints, e)

    regroup : (a b c : ℤ) → (a +ℤ b) +ℤ c ≡ a +ℤ (b +ℤ c)
    regroup a b c = omega (arith, ints)

    pub sum_at-with_all : (xs : List X) (sums : List ℤ) → n < length sums → sum_at (with_all sums xs) n ≡ sum_at sums n +ℤ total_of xs
    sum_at-with_all [] sums low = add_none (sum_at sums n) (total_of []) none
    sum_at-with_all (x ∷ xs) sums low =
        let next = with_added sums (owner x) (amount x) in
        sum_at-with_all xs next (let long = length-with_added sums (owner x) (amount x) in omega (arith, long, low))
        ∙ ap (λ (z : ℤ). z +ℤ total_of xs) (sum_at-with_added sums (owner x) (amount x) n low)
        ∙ regroup (sum_at sums n) (share_of n x) (total_of xs) ∙ ap (λ (z : ℤ). sum_at sums n +ℤ z) (sym (more x xs))

    -- from sums of nothing
    pub sum_from_none : (size : ℕ) (xs : List X) → n < size → sum_at (with_all (replicate size (pos 0)) xs) n ≡ total_of xs
    sum_from_none size xs low =
        sum_at-with_all xs (replicate size (pos 0)) (let long = length-replicate size (pos 0) in omega (arith, long, low))
        ∙ add_to_none (sum_at (replicate size (pos 0)) n) (total_of xs) (get_or-replicate size n (pos 0) (pos 0) low)
      where
        add_to_none : (z t : ℤ) → z ≡ pos 0 → z +ℤ t ≡ t
        add_to_none z t e = omega (arith, ints, e)

-- THE SUM OVER ENTRIES: the total of the amounts of those whose owner it is
pub sum_of_entries : (owner : Entry → ℕ) (amount : Entry → ℤ) (size : ℕ) (entries : List Entry) (n : ℕ) → n < size
    → sum_at (with_all owner amount (replicate size (pos 0)) entries) n ≡ total (share_of owner amount n) entries
sum_of_entries owner amount size entries n low =
    sum_from_none owner amount n (total (share_of owner amount n)) refl (λ e es. refl) size entries low

-- THE COUNT OF ITEMS that pass a test, of each owner
module _ {X : Type 0} (owner : X → ℕ) (test : X → Bool) where
  abbrev count_for : ℕ → List X → ℕ
  count_for n = count (λ x. (owner x == n) && test x)

  abbrev one_if : X → ℤ
  one_if x = cond (test x) (pos 1) (pos 0)

  pub count_of_items : (size : ℕ) (items : List X) (n : ℕ) → n < size
      → sum_at (with_all owner one_if (replicate size (pos 0)) items) n ≡ pos (count_for n items)
  count_of_items size items n low = sum_from_none owner one_if n (λ xs. pos (count_for n xs)) refl more size items low where
    both : (b c : Bool) (k m : ℕ) → k ≡ one (b && c) + m → pos k ≡ cond b (cond c (pos 1) (pos 0)) (pos 0) +ℤ pos m
    both true true k m e = ap pos e
    both true false k m e = ap pos e
    both false c k m e = ap pos e

    more : (x : X) (xs : List X) → pos (count_for n (x ∷ xs)) ≡ share_of owner one_if n x +ℤ pos (count_for n xs)
    more x xs = both (owner x == n) (test x) _ _ (count-cons (λ x. (owner x == n) && test x) x xs)
