-- A sorted list whose elements are apart is the list in order.
use Rattle.std.proofs.Common.{◌≡◌, inl, inr, ◌+◌, List, [], ◌∷◌, map, false, Ordering, Less, Equal, Greater, refl, sym, ap, subst, ◌∙◌, arith}
use Rattle.std.specs.Cmp.{IsTotalOrder}
use Rattle.std.specs.List.{AllByRecursion, IsDistinct}
use Rattle.std.specs.List.Sorted.{IsPermutation, IsSorted}
use Rattle.std.specs.Ordering.{eq_by_cmp, is_eq, is_lt, match_ordering, ordering_reverse}
use Rattle.std.proofs.lemmas.Bool.{true≢false}
use Rattle.std.proofs.lemmas.List.Sorted.{IsPermutation-sym, IsPermutation-refl, IsPermutation-trans, IsPermutation-cons, IsPermutation-middle}
use Rattle.std.proofs.lemmas.Map.Keys.{IsDistinct-IsPermutation}
use native.Mathlib.Numerals.{unary_clauses}
use Rattle.sqlite_trees.specs.Tree.{IsAscending}
use Rattle.sqlite_rules.specs.Lists.{Has}
use Rattle.bike_sql.specs.Keyed.{put_in, in_order}
use Rattle.bike_sql.proofs.OrderLemmas.{all_map, all_has, order_is, order_has, Rises}
use Rattle.bike_sql.proofs.RowListLemmas.{permuted}

module _ {X : Type 0} {R : X → X → Ordering} (o : IsTotalOrder R) where
  -- ---- a list that is sorted place by place is sorted throughout

  abbrev pub NoneAbove : List X → Type 0
  NoneAbove = IsAscending (λ a b. is_lt (R b a) ≡ false)

  not_above : (x y z : X) → is_lt (R y x) ≡ false → is_lt (R z y) ≡ false → is_lt (R z x) ≡ false
  not_above x y z a b = by (R z x) refl (R x y) refl
    where
      by : (p : Ordering) → R z x ≡ p → (q : Ordering) → R x y ≡ q → is_lt p ≡ false
      by Less e Less f = absurd (let t : R z y ≡ Less = o.trans z x y e f in true≢false (rw t at b))
      by Less e Equal f =
          let back : R x z ≡ Greater = rw e at (o.antisymm x z) in
          let far : R y z ≡ Greater = sym (o.congr x y z f) ∙ back in
          let low : R z y ≡ Less = rw far at (o.antisymm z y) in
          absurd (true≢false (rw low at b))
      by Less e Greater f = absurd (let low : R y x ≡ Less = rw f at (o.antisymm y x) in true≢false (rw low at a))
      by Equal e q f = refl
      by Greater e q f = refl

  pub ascends : (xs : List X) → IsSorted R xs → NoneAbove xs
  ascends [] sorted = tt
  ascends (x ∷ []) sorted = (tt, tt)
  ascends (x ∷ y ∷ ys) sorted =
      let first : is_lt (R y x) ≡ false = sorted 0 x (omega arith) (omega arith) in
      let later = ascends (y ∷ ys) (λ k d low high. simp unary_clauses (simp unary_clauses at (sorted (k + 1) d (omega arith) (omega (arith, high))))) in
      ((first, all_map (λ z. is_lt (R z y) ≡ false) (λ z. is_lt (R z x) ≡ false) (λ z h. not_above x y z first h) ys later.0), later)

  -- ---- elements that are apart

  -- no two elements tie, wherever they stand
  abbrev pub AreApartAll : List X → Type 0
  AreApartAll = IsDistinct (eq_by_cmp R)

  flips : (x y : X) → eq_by_cmp R x y ≡ eq_by_cmp R y x
  flips x y = ap is_eq (o.antisymm x y) ∙ by (R y x)
    where
      by : (c : Ordering) → is_eq (ordering_reverse c) ≡ is_eq c
      by Less = refl
      by Equal = refl
      by Greater = refl

  below : (a b : X) → is_lt (R b a) ≡ false → is_eq (R a b) ≡ false → R a b ≡ Less
  below a b up other = by (R a b) refl
    where
      by : (c : Ordering) → R a b ≡ c → R a b ≡ Less
      by Less e = e
      by Equal e = absurd (let t = rw e at other in cc)
      by Greater e = absurd (let back : R b a ≡ Less = rw e at (o.antisymm b a) in let t = rw back at up in cc)

  strictly : (xs : List X) → NoneAbove xs → AreApartAll xs → IsAscending (λ a b. R a b ≡ Less) xs
  unfolding IsDistinct
  strictly [] up apart = tt
  strictly (x ∷ xs) up apart = (each xs up.0 apart.0, strictly xs up.1 apart.1)
    where
      each : (ys : List X) → AllByRecursion (λ y. is_lt (R y x) ≡ false) ys → AllByRecursion (λ y. eq_by_cmp R x y ≡ false) ys → AllByRecursion (λ y. R x y ≡ Less) ys
      each [] a b = tt
      each (y ∷ ys) a b = (below x y a.0 b.0, each ys a.1 b.1)

  one_tie : (xs : List X) → AreApartAll xs → (a b : X) → Has xs a → Has xs b → R a b ≡ Equal → a ≡ b
  unfolding IsDistinct
  one_tie [] apart a b p q tie = elim p [ ]
  one_tie (x ∷ xs) apart a b (inl p) (inl q) tie = p ∙ sym q
  one_tie (x ∷ xs) apart a b (inl p) (inr q) tie =
      absurd (let t : R x b ≡ Equal = subst (λ z. R z b ≡ Equal) p tie in let far : is_eq (R x b) ≡ false = all_has (λ y. eq_by_cmp R x y ≡ false) xs b apart.0 q in true≢false (rw t at far))
  one_tie (x ∷ xs) apart a b (inr p) (inl q) tie =
      absurd (
      let t : R a x ≡ Equal = subst (λ z. R a z ≡ Equal) q tie in
      let back : R x a ≡ Equal = rw t at (o.antisymm x a) in
      let far : is_eq (R x a) ≡ false = all_has (λ y. eq_by_cmp R x y ≡ false) xs a apart.0 p in
      true≢false (rw back at far)
      )
  one_tie (x ∷ xs) apart a b (inr p) (inr q) tie = one_tie xs apart.1 a b p q tie

  pub ordered_is : (xs ys : List X) → IsPermutation xs ys → NoneAbove ys → AreApartAll xs → ys ≡ in_order R xs
  ordered_is xs ys same up apart =
      sym (order_is o xs ys (one_tie xs apart) (strictly ys up (IsDistinct-IsPermutation (eq_by_cmp R) flips xs ys same apart)) (λ x h. permuted xs ys x same h)
      (λ x h. permuted ys xs x (IsPermutation-sym _ _ same) h))

  pub sorted_is : (xs ys : List X) → IsPermutation xs ys → IsSorted R ys → AreApartAll xs → ys ≡ in_order R xs
  sorted_is xs ys same sorted apart = ordered_is xs ys same (ascends ys sorted) apart

  -- ---- a list that rises is in order

  rising_none_above : (xs : List X) → Rises o xs → NoneAbove xs
  rising_none_above [] up = tt
  rising_none_above (x ∷ xs) up = (all_map (λ y. R x y ≡ Less) (λ y. is_lt (R y x) ≡ false) (λ y low. ap is_lt (o.antisymm y x ∙ ap ordering_reverse low)) xs up.0, rising_none_above xs up.1)

  pub rising_apart : (xs : List X) → Rises o xs → AreApartAll xs
  unfolding IsDistinct
  rising_apart [] up = tt
  rising_apart (x ∷ xs) up = (all_map (λ y. R x y ≡ Less) (λ y. eq_by_cmp R x y ≡ false) (λ y low. ap is_eq low) xs up.0, rising_apart xs up.1)

  pub rising_is : (xs : List X) → Rises o xs → in_order R xs ≡ xs
  rising_is xs up = sym (ordered_is xs xs (IsPermutation-refl xs) (rising_none_above xs up) (rising_apart xs up))

  -- ---- putting in order moves elements that are apart, and loses none

  put_permutes : (x : X) (ys : List X) → ((y : X) → Has ys y → R y x ≡ Equal → ⊥) → IsPermutation (x ∷ ys) (put_in R x ys)
  put_permutes x [] far = IsPermutation-refl (x ∷ [])
  put_permutes x (y ∷ ys) far = by (R y x) refl (put_permutes x ys (λ z h. far z (inr h)))
    where
      by : (c : Ordering) → R y x ≡ c → IsPermutation (x ∷ ys) (put_in R x ys) → IsPermutation (x ∷ y ∷ ys) (match_ordering c (y ∷ put_in R x ys) (x ∷ ys) (x ∷ y ∷ ys))
      by Less e rest = IsPermutation-trans _ _ _ (IsPermutation-sym _ _ (IsPermutation-middle (y ∷ []) x ys)) (IsPermutation-cons y (x ∷ ys) (put_in R x ys) rest)
      by Equal e rest = absurd (far y (inl refl) e)
      by Greater e rest = IsPermutation-refl (x ∷ y ∷ ys)

  pub order_permutes : (xs : List X) → AreApartAll xs → IsPermutation xs (in_order R xs)
  unfolding IsDistinct
  order_permutes [] apart = IsPermutation-refl []
  order_permutes (x ∷ xs) apart =
      IsPermutation-trans _ _ _ (IsPermutation-cons x xs (in_order R xs) (order_permutes xs apart.1))
      (put_permutes x (in_order R xs) (λ y h tie.
      let back : R x y ≡ Equal = rw tie at (o.antisymm x y) in
      let far : is_eq (R x y) ≡ false = all_has (λ z. eq_by_cmp R x z ≡ false) xs y apart.0 (order_has o xs y h) in
      true≢false (rw back at far)))

-- putting in order goes by the comparison alone
pub order_map : {X Y : Type 0} (R : X → X → Ordering) (Q : Y → Y → Ordering) (f : X → Y) → ((a b : X) → Q (f a) (f b) ≡ R a b) → (xs : List X) → in_order Q (map f xs) ≡ map f (in_order R xs)
order_map R Q f same [] = refl
order_map {X} R Q f same (x ∷ xs) = ap (put_in Q (f x)) (order_map R Q f same xs) ∙ put_map (in_order R xs)
  where
    put_map : (ys : List X) → put_in Q (f x) (map f ys) ≡ map f (put_in R x ys)
    put_map [] = refl
    put_map (y ∷ ys) = ap (λ c. match_ordering c (f y ∷ put_in Q (f x) (map f ys)) (f x ∷ map f ys) (f x ∷ f y ∷ map f ys)) (same y x) ∙ by (R y x) (put_map ys)
      where
        by : (c : Ordering) → put_in Q (f x) (map f ys) ≡ map f (put_in R x ys)
            → match_ordering c (f y ∷ put_in Q (f x) (map f ys)) (f x ∷ map f ys) (f x ∷ f y ∷ map f ys) ≡ map f (match_ordering c (y ∷ put_in R x ys) (x ∷ ys) (x ∷ y ∷ ys))
        by Less rest = ap (λ l. f y ∷ l) rest
        by Equal rest = refl
        by Greater rest = refl

-- and so does being apart
pub apart_map : {X Y Z : Type 0} (Q : Y → Y → Ordering) (P : Z → Z → Ordering) (f : X → Y) (g : X → Z) → ((a b : X) → P (g a) (g b) ≡ Q (f a) (f b)) → (xs : List X)
    → IsDistinct (eq_by_cmp Q) (map f xs) → IsDistinct (eq_by_cmp P) (map g xs)
unfolding IsDistinct
apart_map Q P f g same [] apart = tt
apart_map {X} Q P f g same (x ∷ xs) apart = (each xs apart.0, apart_map Q P f g same xs apart.1)
  where
    each : (ys : List X) → AllByRecursion (λ y. eq_by_cmp Q (f x) y ≡ false) (map f ys) → AllByRecursion (λ z. eq_by_cmp P (g x) z ≡ false) (map g ys)
    each [] all = tt
    each (y ∷ ys) all = (ap is_eq (same x y) ∙ all.0, each ys all.1)
