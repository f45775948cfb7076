-- Numbered records as rows: one is found by its number, one is added, and columns are set in the row of one.
use Rattle.std.proofs.Common.{◌≡◌, ℕ, zero, suc, ◌+◌, ◌-◌, ◌<◌, List, [], ◌∷◌, ◌++◌, length, Bool, true, false, cond, ◌&&◌, T, Option, Some, None, refl, sym, ap, ◌∙◌, arith}
use Rattle.std.specs.Prelude.{map, option_map}
use Rattle.std.specs.Ordering.{nat_cmp, eq_by_cmp, is_eq, is_lt}
use Rattle.std.specs.declared.cmp.Ordering.{Ordering}
use Rattle.std.specs.declared.cmp.Ordering.TheVariants.{Less, Equal, Greater}
use Rattle.std.specs.Cmp.{nat_cmp_is}
use Rattle.std.specs.FinMap.Entries as entries
use Rattle.sqlite_value.specs.Order.{Row}
use Rattle.bike_sql.specs.View.{row_with, put_row_by, rows_after_update}
use Rattle.bike_operator.specs.Operator.{Numbered, item_at, item_in, item_numbered, item_changed, changed_in, number_changed, last_number, with_item}
use Rattle.bike_book.specs.Stored.{numbers_from, with_numbers}
use Rattle.bike_book.proofs.MapRows.{BeginsWithKey, found_sorted, put_sorted, set_sorted, unset_sorted}
use Rattle.bike_book.proofs.Keys.{number_key, numbers}

is_less : (a b : ℕ) → a < b → nat_cmp a b ≡ Less
is_less a b h = sym (nat_cmp_is a b Less h)

is_equal : (a b : ℕ) → a ≡ b → nat_cmp a b ≡ Equal
is_equal a b h = sym (nat_cmp_is a b Equal h)

is_greater : (a b : ℕ) → b < a → nat_cmp a b ≡ Greater
is_greater a b h = sym (nat_cmp_is a b Greater h)

both_hold : (a b : Bool) → a ≡ true → T b → T (a && b)
both_hold true b e t = t
both_hold false b e t = absurd cc

and_intro : (a b : Bool) → T a → T b → T (a && b)
and_intro true b s t = t
and_intro false b s t = s

-- a list with an item changed to itself
pub same_item : {A : Type 0} (n : ℕ) (xs : List A) → item_changed n (λ x. x) xs ≡ xs
same_item n [] = refl
same_item zero (x ∷ xs) = refl
same_item (suc n) (x ∷ xs) = ap (λ zs. x ∷ zs) (same_item n xs)

same_in : {A : Type 0} (n : ℕ) (xs : List A) → changed_in n (λ x. x) xs ≡ xs
same_in zero xs = refl
same_in (suc n) xs = same_item n xs

pub same_number : {A : Type 0} (n : ℕ) (l : Numbered A) → number_changed n (λ x. x) l ≡ l
same_number n l = ap (λ xs. record l { items = xs }) (same_in (n - l.archived) l.items)

module _ {A : Type 0} where
  below : (k n : ℕ) (xs : List A) → k < n → T (entries.below_all nat_cmp k (numbers_from n xs))
  below k n [] h = tt
  below k n (x ∷ xs) h = both_hold (is_lt (nat_cmp k n)) (entries.below_all nat_cmp k (numbers_from (suc n) xs)) (ap is_lt (is_less k n h)) (below k (suc n) xs (omega (arith, h)))

  sorted : (n : ℕ) (xs : List A) → T (entries.is_sorted nat_cmp (numbers_from n xs))
  sorted n [] = tt
  sorted n (x ∷ xs) = and_intro (entries.below_all nat_cmp n (numbers_from (suc n) xs)) (entries.is_sorted nat_cmp (numbers_from (suc n) xs)) (below n (suc n) xs (omega arith)) (sorted (suc n) xs)

  -- ---- found

  none_below : (k n : ℕ) (xs : List A) → k < n → entries.find nat_cmp k (numbers_from n xs) ≡ None
  none_below k n [] h = refl
  none_below k n (x ∷ xs) h = ap (λ (r : Ordering). cond (is_eq r) (Some x) (entries.find nat_cmp k (numbers_from (suc n) xs))) (is_less k n h) ∙ none_below k (suc n) xs (omega (arith, h))

  find_item : (n i k : ℕ) (xs : List A) → k ≡ n + i → entries.find nat_cmp k (numbers_from n xs) ≡ item_at i xs
  find_item n i k [] is = refl
  find_item n zero k (x ∷ xs) is = ap (λ (r : Ordering). cond (is_eq r) (Some x) (entries.find nat_cmp k (numbers_from (suc n) xs))) (is_equal k n (omega (arith, is)))
  find_item n (suc i) k (x ∷ xs) is =
      ap (λ (r : Ordering). cond (is_eq r) (Some x) (entries.find nat_cmp k (numbers_from (suc n) xs))) (is_greater k n (omega (arith, is))) ∙ find_item (suc n) i k xs (omega (arith, is))

  -- what stands at the place of a number behind those that were archived
  find_place : (k a place : ℕ) (xs : List A) → k - a ≡ place → entries.find nat_cmp k (numbers_from (suc a) xs) ≡ item_in place xs
  find_place k a zero xs is = none_below k (suc a) xs (omega (arith, is))
  find_place k a (suc i) xs is = find_item (suc a) i k xs (omega (arith, is))

  pub find_numbered : (k : ℕ) (l : Numbered A) → entries.find nat_cmp k (with_numbers l) ≡ item_numbered k l
  find_numbered k l = find_place k l.archived (k - l.archived) l.items refl

  pub found_number : (row : ℕ × A → Row) → BeginsWithKey numbers row → (k : ℕ) (l : Numbered A) → row_with 1 (number_key k) (map row (with_numbers l)) ≡ option_map (λ x. row (k, x)) (item_numbered k l)
  found_number row begins k l = found_sorted numbers row begins k tt (with_numbers l) (λ e has. tt) ∙ ap (option_map (λ x. row (k, x))) (find_numbered k l)

  -- ---- added

  put_last : (n k : ℕ) (xs : List A) (y : A) → k ≡ n + length xs → entries.put nat_cmp k y (numbers_from n xs) ≡ numbers_from n (xs ++ y ∷ [])
  put_last n k [] y is = let e : k ≡ n = omega (arith, is) in ap (λ (z : ℕ). (z, y) ∷ []) e
  put_last n k (x ∷ xs) y is =
      ap (λ (r : Ordering). entries.by_order r ((k, y) ∷ (n, x) ∷ numbers_from (suc n) xs) ((n, y) ∷ numbers_from (suc n) xs) ((n, x) ∷ entries.put nat_cmp k y (numbers_from (suc n) xs)))
      (is_greater k n (omega (arith, is)))
      ∙ ap (λ (es : List (ℕ × A)). (n, x) ∷ es) (put_last (suc n) k xs y (omega (arith, is)))

  -- a row is added behind the last, and the other rows stay
  pub put_number : (row next : ℕ × A → Row) → BeginsWithKey numbers row → BeginsWithKey numbers next → (l : Numbered A) (k : ℕ) (y : A) → k ≡ last_number l + 1
      → ((e : ℕ × A) → eq_by_cmp nat_cmp k e.0 ≡ false → row e ≡ next e) → put_row_by 1 (next (k, y)) (map row (with_numbers l)) ≡ map next (with_numbers (with_item y l))
  put_number row next begins begins_next l k y is same =
      put_sorted numbers row next begins begins_next k y tt (with_numbers l) (sorted (suc l.archived) l.items) (λ e has. (tt, same e))
      ∙ ap (map next) (put_last (suc l.archived) k l.items y (omega (arith, is)))

  -- ---- changed

  put_item : (n i k : ℕ) (f : A → A) (xs : List A) (x : A) → k ≡ n + i → item_at i xs ≡ Some x → entries.put nat_cmp k (f x) (numbers_from n xs) ≡ numbers_from n (item_changed i f xs)
  put_item n i k f [] x is found = absurd cc
  put_item n zero k f (y ∷ xs) x is found =
      let same : y ≡ x = cc in
      ap (λ (r : Ordering). entries.by_order r ((k, f x) ∷ (n, y) ∷ numbers_from (suc n) xs) ((n, f x) ∷ numbers_from (suc n) xs) ((n, y) ∷ entries.put nat_cmp k (f x) (numbers_from (suc n) xs)))
      (is_equal k n (omega (arith, is)))
      ∙ ap (λ (z : A). (n, f z) ∷ numbers_from (suc n) xs) (sym same)
  put_item n (suc i) k f (y ∷ xs) x is found =
      ap (λ (r : Ordering). entries.by_order r ((k, f x) ∷ (n, y) ∷ numbers_from (suc n) xs) ((n, f x) ∷ numbers_from (suc n) xs) ((n, y) ∷ entries.put nat_cmp k (f x) (numbers_from (suc n) xs)))
      (is_greater k n (omega (arith, is)))
      ∙ ap (λ (es : List (ℕ × A)). (n, y) ∷ es) (put_item (suc n) i k f xs x (omega (arith, is)) found)

  put_place : (k a place : ℕ) (f : A → A) (xs : List A) (x : A) → k - a ≡ place → item_in place xs ≡ Some x → entries.put nat_cmp k (f x) (numbers_from (suc a) xs) ≡ numbers_from (suc a) (changed_in place f xs)
  put_place k a zero f xs x is found = absurd cc
  put_place k a (suc i) f xs x is found = put_item (suc a) i k f xs x (omega (arith, is)) found

  put_numbered : (k : ℕ) (f : A → A) (l : Numbered A) (x : A) → item_numbered k l ≡ Some x → entries.put nat_cmp k (f x) (with_numbers l) ≡ with_numbers (number_changed k f l)
  put_numbered k f l x found = put_place k l.archived (k - l.archived) f l.items x refl found

  no_item : (n : ℕ) (f : A → A) (xs : List A) → item_at n xs ≡ None → item_changed n f xs ≡ xs
  no_item n f [] none = refl
  no_item zero f (x ∷ xs) none = absurd cc
  no_item (suc n) f (x ∷ xs) none = ap (λ zs. x ∷ zs) (no_item n f xs none)

  no_place : (k : ℕ) (f : A → A) (xs : List A) → item_in k xs ≡ None → changed_in k f xs ≡ xs
  no_place zero f xs none = refl
  no_place (suc k) f xs none = no_item k f xs none

  no_number : (k : ℕ) (f : A → A) (l : Numbered A) → item_numbered k l ≡ None → number_changed k f l ≡ l
  no_number k f l none = ap (λ xs. record l { items = xs }) (no_place (k - l.archived) f l.items none)

  -- A record is changed where it is there, and so is its row.
  pub changed_number : (row next : ℕ × A → Row) → BeginsWithKey numbers row → BeginsWithKey numbers next → (l : Numbered A) (k : ℕ) (change : Row → Row) (f : A → A)
      → ((x : A) → item_numbered k l ≡ Some x → change (row (k, x)) ≡ next (k, f x)) → ((e : ℕ × A) → eq_by_cmp nat_cmp k e.0 ≡ false → row e ≡ next e)
      → rows_after_update 1 (number_key k) change (map row (with_numbers l)) ≡ map next (with_numbers (number_changed k f l))
  changed_number row next begins begins_next l k change f is same = go (item_numbered k l) refl where
    go : (o : Option A) → item_numbered k l ≡ o → rows_after_update 1 (number_key k) change (map row (with_numbers l)) ≡ map next (with_numbers (number_changed k f l))
    go None none =
        unset_sorted numbers row next begins k tt change (with_numbers l) (find_numbered k l ∙ none) (λ e has. (tt, same e)) ∙ ap (λ zs. map next (with_numbers zs)) (sym (no_number k f l none))
    go (Some x) found =
        set_sorted numbers row next begins begins_next k tt change (with_numbers l) (sorted (suc l.archived) l.items) x (f x) (find_numbered k l ∙ found) (is x found) (λ e has. (tt, same e))
        ∙ ap (map next) (put_numbered k f l x found)

  -- The list stays, and what is stored beside the record of one number changes.
  pub kept_number : (row next : ℕ × A → Row) → BeginsWithKey numbers row → BeginsWithKey numbers next → (l : Numbered A) (k : ℕ) (change : Row → Row)
      → ((x : A) → item_numbered k l ≡ Some x → change (row (k, x)) ≡ next (k, x)) → ((e : ℕ × A) → eq_by_cmp nat_cmp k e.0 ≡ false → row e ≡ next e)
      → rows_after_update 1 (number_key k) change (map row (with_numbers l)) ≡ map next (with_numbers l)
  kept_number row next begins begins_next l k change is same =
      changed_number row next begins begins_next l k change (λ x. x) is same ∙ ap (λ zs. map next (with_numbers zs)) (same_number k l)
