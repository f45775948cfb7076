-- Items and rows at the front of a list.
use Rattle.std.proofs.Common.{◌≡◌, inl, inr, ℕ, zero, suc, ◌+◌, ◌-◌, ◌<◌, ◌≤◌, List, [], ◌∷◌, ◌++◌, length, Option, Some, None, refl, sym, ap, ◌∙◌, arith}
use Rattle.std.specs.List.{filter_map, cons_option}
use Rattle.sqlite_rules.specs.Lists.{Has}
use Rattle.bike_operator.specs.Operator.{item_at, item_in}

module _ {A : Type 0} where
  item_front : (i : ℕ) (xs ys : List A) (x : A) → item_at i (xs ++ ys) ≡ Some x → i < length xs → item_at i xs ≡ Some x
  item_front i [] ys x found low = absurd (omega (arith, low))
  item_front zero (z ∷ xs) ys x found low = found
  item_front (suc i) (z ∷ xs) ys x found low = item_front i xs ys x found (omega (arith, low))

  pub front_item : (i : ℕ) (xs ys : List A) (x : A) → item_at i xs ≡ Some x → item_at i (xs ++ ys) ≡ Some x
  front_item i [] ys x found = absurd cc
  front_item zero (z ∷ xs) ys x found = found
  front_item (suc i) (z ∷ xs) ys x found = front_item i xs ys x found

  pub item_low : (i : ℕ) (xs : List A) (x : A) → item_at i xs ≡ Some x → i < length xs
  item_low i [] x found = absurd cc
  item_low zero (z ∷ xs) x found = omega arith
  item_low (suc i) (z ∷ xs) x found = let rest = item_low i xs x found in omega (arith, rest)

  pub place_front : (n : ℕ) (xs ys : List A) (x : A) → item_in n (xs ++ ys) ≡ Some x → n ≤ length xs → (i : ℕ) × (item_at i xs ≡ Some x)
  place_front zero xs ys x found low = absurd cc
  place_front (suc n) xs ys x found low = (n, item_front n xs ys x found (omega (arith, low)))

  -- an item that is there has a place behind so many that were archived
  pub record HasPlace (archived n : ℕ) (xs : List A) : Type 0 where
    pub below : ℕ
    pub number_is : n ≡ archived + suc below
    pub low : below < length xs

  pub place_of : (archived n : ℕ) (xs : List A) (x : A) → item_in (n - archived) xs ≡ Some x → HasPlace archived n xs
  place_of archived n xs x found = go (n - archived) refl found where
    go : (k : ℕ) → n - archived ≡ k → item_in k xs ≡ Some x → HasPlace archived n xs
    go zero is found = absurd cc
    go (suc k) is found = record { below = k; number_is = omega (arith, is); low = item_low k xs x found }

  -- an item stands between those before and behind it
  pub split : (xs : List A) (x : A) → Has xs x → (before : List A) × (behind : List A) × (xs ≡ before ++ x ∷ behind)
  split [] x has = elim has [ ]
  split (z ∷ xs) x (inl is) = ([], xs, ap (λ (y : A). y ∷ xs) (sym is))
  split (z ∷ xs) x (inr later) = let it = split xs x later in (z ∷ it.0, it.1, ap (λ (ys : List A). z ∷ ys) it.2)

  pub has_front : (xs ys : List A) (x : A) → Has xs x → Has (xs ++ ys) x
  has_front [] ys x has = elim has [ ]
  has_front (z ∷ xs) ys x (inl is) = inl is
  has_front (z ∷ xs) ys x (inr later) = inr (has_front xs ys x later)

-- ---- what the items of a front spell

module _ {X Y : Type 0} (read : X → Option Y) where
  pub read_append : (xs ys : List X) → filter_map read (xs ++ ys) ≡ filter_map read xs ++ filter_map read ys
  read_append [] ys = refl
  read_append (x ∷ xs) ys = go (read x) (read_append xs ys) where
    go : (o : Option Y) → filter_map read (xs ++ ys) ≡ filter_map read xs ++ filter_map read ys
        → cons_option o (filter_map read (xs ++ ys)) ≡ cons_option o (filter_map read xs) ++ filter_map read ys
    go None rest = rest
    go (Some y) rest = ap (λ (zs : List Y). y ∷ zs) rest

  pub read_few : (xs : List X) → length (filter_map read xs) ≤ length xs
  read_few [] = omega arith
  read_few (x ∷ xs) = go (read x) (read_few xs) where
    go : (o : Option Y) → length (filter_map read xs) ≤ length xs → length (cons_option o (filter_map read xs)) ≤ suc (length xs)
    go None rest = omega (arith, rest)
    go (Some y) rest = omega (arith, rest)

  pub read_all : (xs : List X) → ((x : X) → Has xs x → (y : Y) × (read x ≡ Some y)) → length (filter_map read xs) ≡ length xs
  read_all [] each = refl
  read_all (x ∷ xs) each =
      let here = each x (inl refl) in
      ap (λ (o : Option Y). length (cons_option o (filter_map read xs))) here.1 ∙ ap suc (read_all xs (λ z has. each z (inr has)))
