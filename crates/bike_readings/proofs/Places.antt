-- The row under a key, and how many rows have a lesser key, in rows that stand in the order of their keys.
use Rattle.std.proofs.Common.{◌≡◌, inl, inr, ℕ, suc, ◌+◌, ◌<◌, ◌≤◌, List, [], ◌∷◌, ◌++◌, append_assoc, length, length-append, map, Bool, true, false, cond, Option, Some, refl, sym, ap, subst, ◌∙◌}
use Rattle.std.proofs.Common.{arith}
use Rattle.std.specs.Prelude.{take}
use Rattle.std.specs.List.{filter_map}
use Rattle.std.specs.Ordering.{is_eq, is_lt, nat_cmp, ordering_reverse}
use Rattle.std.specs.declared.cmp.Ordering.{Ordering}
use Rattle.std.specs.declared.cmp.Ordering.TheVariants.{Less, Equal, Greater}
use Rattle.std.specs.Cmp.{Equal-is, nat_cmp_is, ranked}
use Rattle.std.proofs.lemmas.Cmp.{tied_itself}
use Rattle.sqlite_value.specs.Order.{Row, row_cmp}
use Rattle.sqlite_rules.specs.Lists.{Has}
use Rattle.bike_sql.specs.View.{by_key, row_with}
use Rattle.bike_sql.proofs.OrderLemmas.{Rises, all_has}
use Rattle.bike_sql.proofs.TreeLemmas.{by_key_total}
use Rattle.bike_sql.proofs.RowListLemmas.{find_only}
use Rattle.bike_operator.specs.Operator.{Numbered}
use Rattle.bike_operator.specs.Counts.{count}
use Rattle.bike_laws.proofs.SingleSteps.CountLemmas.{count-cons, one}
use Rattle.bike_book.specs.Stored.{numbers_from, with_numbers}
use Rattle.bike_book.proofs.MapRows.{BeginsWithKey}
use Rattle.bike_book.proofs.Keys.{number_key, numbers}
use Rattle.bike_readings.proofs.Ranks as rank

module _ (keys : ℕ) where
  abbrev Up : List Row → Type 0
  Up = Rises (by_key_total keys)

  abbrev key_of_row : Row → Row
  key_of_row r = take keys r

  -- how many rows have a lesser key
  abbrev pub lesser : Row → List Row → ℕ
  lesser key rows = count (λ row. is_lt (row_cmp (take keys row) key)) rows

  -- ---- the row under a key

  itself : (r : Row) → by_key keys r r ≡ Equal
  itself r = tied_itself (by_key_total keys) r

  never_both : (a b : Row) → by_key keys a b ≡ Less → by_key keys a b ≡ Equal → ⊥
  never_both a b less tie = cc

  pub same_key : (rows : List Row) (a b : Row) → Up rows → Has rows a → Has rows b → by_key keys a b ≡ Equal → a ≡ b
  same_key [] a b up p q tie = elim p [ ]
  same_key (r ∷ rows) a b up (inl p) (inl q) tie = p ∙ sym q
  same_key (r ∷ rows) a b up (inl p) (inr q) tie =
      absurd (never_both r b (all_has (λ y. by_key keys r y ≡ Less) rows b up.0 q) (ap (λ (x : Row). by_key keys x b) (sym p) ∙ tie))
  same_key (r ∷ rows) a b up (inr p) (inl q) tie =
      let back : by_key keys b a ≡ Equal = (by_key_total keys).antisymm b a ∙ ap ordering_reverse tie in
      absurd (never_both r a (all_has (λ y. by_key keys r y ≡ Less) rows a up.0 p) (ap (λ (x : Row). by_key keys x a) (sym q) ∙ back))
  same_key (r ∷ rows) a b up (inr p) (inr q) tie = same_key rows a b up.1 p q tie

  pub has_under : (rows : List Row) (r : Row) → Up rows → Has rows r → row_with keys (take keys r) rows ≡ Some r
  has_under rows r up has =
      find_only (λ row. is_eq (row_cmp (take keys row) (take keys r))) rows r has (ap is_eq (itself r))
      (λ y there passes. same_key rows y r up there has ((Equal-is (by_key keys y r)).0 passes))

  pub under_has : (key : Row) (rows : List Row) (r : Row) → row_with keys key rows ≡ Some r → Has rows r × (row_cmp (take keys r) key ≡ Equal)
  under_has key [] r found = absurd cc
  under_has key (x ∷ rows) r found = go (is_eq (row_cmp (take keys x) key)) refl found (under_has key rows r) where
    go : (b : Bool) → is_eq (row_cmp (take keys x) key) ≡ b → cond b (Some x) (row_with keys key rows) ≡ Some r → (row_with keys key rows ≡ Some r → Has rows r × (row_cmp (take keys r) key ≡ Equal))
        → Has (x ∷ rows) r × (row_cmp (take keys r) key ≡ Equal)
    go true tie is rest = let same : x ≡ r = cc in (inl (sym same), ap (λ (z : Row). row_cmp (take keys z) key) (sym same) ∙ (Equal-is (row_cmp (take keys x) key)).0 tie)
    go false apart is rest = let it = rest is in (inr it.0, it.1)

  -- ---- how many have a lesser key

  pub lesser_fewer : (rows : List Row) (r : Row) → Has rows r → lesser (take keys r) rows < length rows
  lesser_fewer rows r has = rank.lesser_fewer (by_key_total keys) rows r has

  -- the rows that stand before a row are those with lesser keys
  pub lesser_before : (before : List Row) (r : Row) (behind : List Row) → Up (before ++ r ∷ behind) → lesser (take keys r) (before ++ r ∷ behind) ≡ length before
  lesser_before before r behind up = rank.lesser_before (by_key_total keys) before r behind up

  pub has_between : (before : List Row) (r : Row) (behind : List Row) → Has (before ++ r ∷ behind) r
  has_between before r behind = rank.has_between (by_key_total keys) before r behind

  -- where each row has fewer than so many before it, there are at most so many
  pub within : (rows : List Row) (most : ℕ) → Up rows → ((r : Row) → Has rows r → lesser (take keys r) rows < most) → length rows ≤ most
  within rows most up each = rank.within (by_key_total keys) rows most up each

-- ---- numbered rows

module _ {A : Type 0} (read : Row → Option (ℕ × A)) where
  -- where each row spells the number of its place behind so many, the records have their numbers
  pub read_numbered : (archived : ℕ) (rows : List Row) → Rises (by_key_total 1) rows → ((r : Row) → Has rows r → (x : A) × (read r ≡ Some (archived + lesser 1 (take 1 r) rows + 1, x)))
      → filter_map read rows ≡ numbers_from (suc archived) (map (λ e. e.1) (filter_map read rows))
  read_numbered archived rows up each = subst (λ (n : ℕ). filter_map read rows ≡ numbers_from n (map (λ e. e.1) (filter_map read rows))) (omega arith) (go [] rows refl) where
    go : (before rest : List Row) → rows ≡ before ++ rest → filter_map read rest ≡ numbers_from (suc (archived + length before)) (map (λ e. e.1) (filter_map read rest))
    go before [] is = refl
    go before (r ∷ rest) is =
        let has : Has rows r = subst (λ (xs : List Row). Has xs r) (sym is) (has_between 1 before r rest) in
        let it = each r has in
        let at : lesser 1 (take 1 r) rows ≡ length before = ap (lesser 1 (take 1 r)) is ∙ lesser_before 1 before r rest (subst (Rises (by_key_total 1)) is up) in
        let number : archived + lesser 1 (take 1 r) rows + 1 ≡ suc (archived + length before) = omega (arith, at) in
        let more : length (before ++ r ∷ []) ≡ suc (length before) = length-append before (r ∷ []) ∙ (omega arith) in
        let next : filter_map read rest ≡ numbers_from (suc (suc (archived + length before))) (map (λ e. e.1) (filter_map read rest)) =
        subst (λ (n : ℕ). filter_map read rest ≡ numbers_from n (map (λ e. e.1) (filter_map read rest))) (omega (arith, more))
        (go (before ++ r ∷ []) rest (is ∙ sym (append_assoc before (r ∷ []) rest))) in
        let read_is : read r ≡ Some (suc (archived + length before), it.0) = it.1 ∙ ap (λ (n : ℕ). Some (n, it.0)) number in
        rw read_is (ap (λ (es : List (ℕ × A)). (suc (archived + length before), it.0) ∷ es) next)

-- the rows with numbers below one are one fewer
module _ {A : Type 0} (row : ℕ × A → Row) (begins : BeginsWithKey numbers row) where
  compared : (k n : ℕ) (x : A) → row_cmp (take 1 (row (k, x))) (number_key n) ≡ nat_cmp k n
  compared k n x = ap (λ (z : Row). row_cmp z (number_key n)) (begins (k, x)) ∙ numbers.compares k n tt tt

  none_from : (k n : ℕ) (xs : List A) → n ≤ k → lesser 1 (number_key n) (map row (numbers_from k xs)) ≡ 0
  none_from k n [] high = refl
  none_from k n (x ∷ xs) high =
      let out : one (is_lt (nat_cmp k n)) ≡ 0 = not_less (nat_cmp k n) refl in
      let at : one (is_lt (row_cmp (take 1 (row (k, x))) (number_key n))) ≡ one (is_lt (nat_cmp k n)) = ap (λ (o : Ordering). one (is_lt o)) (compared k n x) in
      let c = count-cons (λ r. is_lt (row_cmp (take 1 r) (number_key n))) (row (k, x)) (map row (numbers_from (suc k) xs)) in
      let rest = none_from (suc k) n xs (omega (arith, high)) in
      omega (arith, out, at, c, rest)
    where
      not_less : (o : Ordering) → nat_cmp k n ≡ o → one (is_lt o) ≡ 0
      not_less Less e = let low : k < n = ranked k n Less (sym e) in absurd (omega (arith, low, high))
      not_less Equal e = refl
      not_less Greater e = refl

  -- so many rows have numbers below that of a row
  lesser_from : (k n : ℕ) (xs : List A) (x : A) → Has (numbers_from k xs) (n, x) → lesser 1 (number_key n) (map row (numbers_from k xs)) + k ≡ n
  lesser_from k n [] x has = elim has [ ]
  lesser_from k n (y ∷ xs) x (inl is) =
      let same : n ≡ k = ap (λ (e : ℕ × A). e.0) is in
      let none = none_from k n (y ∷ xs) (omega (arith, same)) in
      omega (arith, none, same)
  lesser_from k n (y ∷ xs) x (inr later) =
      let rest = lesser_from (suc k) n xs x later in
      let low : k < n = omega (arith, rest) in
      let in_it : one (is_lt (row_cmp (take 1 (row (k, y))) (number_key n))) ≡ 1 = ap (λ (o : Ordering). one (is_lt o)) (compared k n y ∙ sym (nat_cmp_is k n Less low)) in
      let c = count-cons (λ r. is_lt (row_cmp (take 1 r) (number_key n))) (row (k, y)) (map row (numbers_from (suc k) xs)) in
      omega (arith, in_it, c, rest)

  pub lesser_numbered : (n : ℕ) (l : Numbered A) (x : A) → Has (with_numbers l) (n, x) → l.archived + lesser 1 (take 1 (row (n, x))) (map row (with_numbers l)) + 1 ≡ n
  lesser_numbered n l x has =
      let key = ap (λ (key : Row). lesser 1 key (map row (with_numbers l))) (begins (n, x)) in
      let behind = lesser_from (suc l.archived) n l.items x has in
      omega (arith, key, behind)
