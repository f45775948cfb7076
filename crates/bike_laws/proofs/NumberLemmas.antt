-- Numbered lists: an item changed, and counts of items added and changed.
use Rattle.std.proofs.Common.{◌≡◌, ℕ, zero, suc, ◌+◌, ◌-◌, ◌≤◌, List, [], ◌∷◌, ◌++◌, length, length-append, filter, Bool, true, false, cond, Some, refl, ap, ◌∙◌, arith}
use Rattle.std.proofs.lemmas.Option.{same_Some}
use Rattle.std.proofs.lemmas.List.Elements.{filter-append}
use Rattle.bike_operator.specs.Operator.{Numbered, item_at, item_in, item_numbered, item_changed, changed_in, number_changed, with_item}
use Rattle.bike_operator.specs.Counts.{count}

changed_same : {A : Type 0} (n : ℕ) (f : A → A) (xs : List A) (y : A) → item_at n xs ≡ Some y → item_at n (item_changed n f xs) ≡ Some (f y)
changed_same n f [] y e = absurd cc
changed_same zero f (x ∷ xs) y e = ap (λ z. Some (f z)) (same_Some x y e)
changed_same (suc n) f (x ∷ xs) y e = changed_same n f xs y e

same_in : {A : Type 0} (n : ℕ) (f : A → A) (xs : List A) (y : A) → item_in n xs ≡ Some y → item_in n (changed_in n f xs) ≡ Some (f y)
same_in zero f xs y e = absurd cc
same_in (suc n) f xs y e = changed_same n f xs y e

pub number_same : {A : Type 0} (n : ℕ) (f : A → A) (l : Numbered A) (y : A) → item_numbered n l ≡ Some y → item_numbered n (number_changed n f l) ≡ Some (f y)
number_same n f l y e = same_in (n - l.archived) f l.items y e

-- ---- counts

count_of_one : {A : Type 0} (p : A → Bool) (x : A) (b : Bool) → length (cond b (x ∷ []) []) ≡ cond b 1 0
count_of_one p x true = refl
count_of_one p x false = refl

pub count_added : {A : Type 0} (p : A → Bool) (xs : List A) (x : A) → count p (xs ++ x ∷ []) ≡ count p xs + cond (p x) 1 0
count_added p xs x =
    ap (λ ys. length ys) (filter-append p xs (x ∷ []))
    ∙ length-append (filter p xs) (filter p (x ∷ []))
    ∙ ap (λ (k : ℕ). count p xs + k) (count_of_one p x (p x))

count_at_first : {A : Type 0} (p : A → Bool) (f : A → A) (x : A) (rest : List A) (a b : Bool) → a ≡ true → b ≡ false → length (cond b (f x ∷ rest) rest) + 1 ≡ length (cond a (x ∷ rest) rest)
count_at_first p f x rest true true i j = absurd cc
count_at_first p f x rest true false i j = omega arith
count_at_first p f x rest false b i j = absurd cc

count_later : {A : Type 0} (x : A) (some more : List A) (b : Bool) → length some + 1 ≡ length more → length (cond b (x ∷ some) some) + 1 ≡ length (cond b (x ∷ more) more)
count_later x some more true e = omega (arith, e)
count_later x some more false e = e

count_left : {A : Type 0} (p : A → Bool) (n : ℕ) (f : A → A) (xs : List A) (y : A) → item_at n xs ≡ Some y → p y ≡ true → p (f y) ≡ false → count p (item_changed n f xs) + 1 ≡ count p xs
count_left p n f [] y e now then = absurd cc
count_left p zero f (x ∷ xs) y e now then =
    let is = same_Some x y e in
    count_at_first p f x (filter p xs) (p x) (p (f x)) (ap p is ∙ now) (ap (λ z. p (f z)) is ∙ then)
count_left p (suc n) f (x ∷ xs) y e now then = count_later x (filter p (item_changed n f xs)) (filter p xs) (p x) (count_left p n f xs y e now then)

changed_count : {A : Type 0} (p : A → Bool) (n : ℕ) (f : A → A) (xs : List A) (y : A) → item_in n xs ≡ Some y → p y ≡ true → p (f y) ≡ false
    → count p (changed_in n f xs) + 1 ≡ count p xs
changed_count p zero f xs y e now then = absurd cc
changed_count p (suc n) f xs y e now then = count_left p n f xs y e now then

-- an item that passes no longer is one less
pub count_changed : {A : Type 0} (p : A → Bool) (n : ℕ) (f : A → A) (l : Numbered A) (y : A) → item_numbered n l ≡ Some y → p y ≡ true → p (f y) ≡ false
    → count p (number_changed n f l).items + 1 ≡ count p l.items
count_changed p n f l y e now then = changed_count p (n - l.archived) f l.items y e now then

count_found : {A : Type 0} (p : A → Bool) (n : ℕ) (xs : List A) (y : A) → item_at n xs ≡ Some y → p y ≡ true → 1 ≤ count p xs
count_found p n [] y e now = absurd cc
count_found p zero (x ∷ xs) y e now = some (p x) (ap p (same_Some x y e) ∙ now) where
  some : (b : Bool) → b ≡ true → 1 ≤ length (cond b (x ∷ filter p xs) (filter p xs))
  some true i = omega arith
  some false i = absurd cc
count_found p (suc n) (x ∷ xs) y e now = more (p x) (count_found p n xs y e now) where
  more : (b : Bool) → 1 ≤ length (filter p xs) → 1 ≤ length (cond b (x ∷ filter p xs) (filter p xs))
  more true i = omega arith
  more false i = i

some_in : {A : Type 0} (p : A → Bool) (n : ℕ) (xs : List A) (y : A) → item_in n xs ≡ Some y → p y ≡ true → 1 ≤ count p xs
some_in p zero xs y e now = absurd cc
some_in p (suc n) xs y e now = count_found p n xs y e now

pub count_some : {A : Type 0} (p : A → Bool) (n : ℕ) (l : Numbered A) (y : A) → item_numbered n l ≡ Some y → p y ≡ true → 1 ≤ count p l.items
count_some p n l y e now = some_in p (n - l.archived) l.items y e now
