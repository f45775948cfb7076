-- Rows of maps and of numbered lists are read back as they were.
use Rattle.std.proofs.Common.{◌≡◌, inl, inr, ℕ, zero, suc, ◌+◌, ◌-◌, List, [], ◌∷◌, map, Option, Some, refl, sym, ap, ap₂, ◌∙◌, arith}
use Rattle.std.specs.List.{filter_map}
use Rattle.std.specs.declared.cmp.Ordering.{Ordering}
use Rattle.std.specs.FinMap as fin
use Rattle.std.specs.FinMap.{FinMap}
use Rattle.sqlite_value.specs.Order.{Row}
use Rattle.sqlite_rules.specs.Lists.{Has}
use Rattle.bike_operator.specs.Operator.{Numbered, item_at, item_in, item_numbered}
use Rattle.bike_book.specs.Stored.{numbers_from, with_numbers}
use Rattle.bike_book.proofs.MapRows.{StoresKeys, has_get}
use Rattle.bike_readings.proofs.ReadLists.{stored_read, same_map, find_has}

module _ {K X : Type 0} {R : K → K → Ordering} {keys : ℕ} {key_row : K → Row} {IsGood : K → Type 0} (h : StoresKeys R keys key_row IsGood) (read : Row → Option (K × X)) (row : K × X → Row) where
  pub map_back : (m : FinMap R X) → ((k : K) (v : X) → fin.get m k ≡ Some v → read (row (k, v)) ≡ Some (k, v)) → fin.from_sorted (filter_map read (map row (fin.entries m))) ≡ m
  map_back m back = same_map h m (filter_map read (map row (fin.entries m))) (stored_read read row (fin.entries m) (λ e has. back e.0 e.1 (has_get h.total m e has)))

-- an entry of a map stands among its entries
pub get_has : {K X : Type 0} {R : K → K → Ordering} {keys : ℕ} {key_row : K → Row} {IsGood : K → Type 0} (h : StoresKeys R keys key_row IsGood) (m : FinMap R X) (k : K) (v : X)
    → fin.get m k ≡ Some v → Has (fin.entries m) (k, v)
get_has h m k v found = find_has h k v (fin.entries m) (sym (fin.get-entries m k) ∙ found)

module _ {A : Type 0} where
  -- the item with the number
  pub record IsItem (k : ℕ) (xs : List A) (n : ℕ) (x : A) : Type 0 where
    pub at : ℕ
    pub number_is : n ≡ k + at
    pub found : item_at at xs ≡ Some x

  pub item_of : (k : ℕ) (xs : List A) (n : ℕ) (x : A) → Has (numbers_from k xs) (n, x) → IsItem k xs n x
  item_of k [] n x has = elim has [ ]
  item_of k (y ∷ xs) n x (inl is) =
      let number : n ≡ k = ap (λ (e : ℕ × A). e.0) is in
      record { at = zero; number_is = omega (arith, number); found = ap (λ (e : ℕ × A). Some e.1) (sym is) }
  item_of k (y ∷ xs) n x (inr later) =
      let it = item_of (suc k) xs n x later in
      let number = it.number_is in
      record { at = suc it.at; number_is = omega (arith, number); found = it.found }

  pub has_numbered : (l : Numbered A) (n : ℕ) (x : A) → Has (with_numbers l) (n, x) → item_numbered n l ≡ Some x
  has_numbered l n x has =
      let it = item_of (suc l.archived) l.items n x has in
      let number = it.number_is in
      let place : n - l.archived ≡ suc it.at = omega (arith, number) in
      ap (λ (k : ℕ). item_in k l.items) place ∙ it.found

  item_has : (k : ℕ) (xs : List A) (i : ℕ) (x : A) (n : ℕ) → n ≡ k + i → item_at i xs ≡ Some x → Has (numbers_from k xs) (n, x)
  item_has k [] i x n number found = absurd cc
  item_has k (y ∷ xs) zero x n number found = let first : n ≡ k = omega (arith, number) in let same : y ≡ x = cc in inl (ap₂ (λ (a : ℕ) (b : A). (a, b)) first (sym same))
  item_has k (y ∷ xs) (suc i) x n number found = inr (item_has (suc k) xs i x n (omega (arith, number)) found)

  pub numbered_has : (l : Numbered A) (n : ℕ) (x : A) → item_numbered n l ≡ Some x → Has (with_numbers l) (n, x)
  numbered_has l n x found = go (n - l.archived) refl found where
    go : (k : ℕ) → n - l.archived ≡ k → item_in k l.items ≡ Some x → Has (with_numbers l) (n, x)
    go zero place there = absurd cc
    go (suc i) place there = item_has (suc l.archived) l.items i x n (omega (arith, place)) there

  without_numbers : (k : ℕ) (xs : List A) → map (λ e. e.1) (numbers_from k xs) ≡ xs
  without_numbers k [] = refl
  without_numbers k (x ∷ xs) = ap (λ (ys : List A). x ∷ ys) (without_numbers (suc k) xs)

  module _ (read : Row → Option (ℕ × A)) (row : ℕ × A → Row) where
    pub numbered_back : (l : Numbered A) → ((n : ℕ) (x : A) → item_numbered n l ≡ Some x → read (row (n, x)) ≡ Some (n, x)) → map (λ e. e.1) (filter_map read (map row (with_numbers l))) ≡ l.items
    numbered_back l back =
        ap (map (λ (e : ℕ × A). e.1)) (stored_read read row (with_numbers l) (λ e has. back e.0 e.1 (has_numbered l e.0 e.1 has))) ∙ without_numbers (suc l.archived) l.items
