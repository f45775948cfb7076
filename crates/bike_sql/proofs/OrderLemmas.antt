-- What a list in the order of its keys holds, over any total order.
use Rattle.std.proofs.Common.{◌≡◌, ◌⊎◌, List, [], ◌∷◌, ◌++◌, filter, cond, Bool, true, false, Ordering, Less, Equal, Greater, refl, sym, ap, ◌∙◌, subst, inl, inr}
use Rattle.std.specs.Cmp.{IsTotalOrder}
use Rattle.std.specs.Ordering.{match_ordering}
use Rattle.std.specs.List.{AllByRecursion}
use Rattle.std.proofs.lemmas.Cmp.{tied_itself}
use Rattle.sqlite_rules.specs.Lists.{Has}
use Rattle.sqlite_trees.specs.Tree.{IsAscending}
use Rattle.bike_sql.specs.Keyed.{put_in, in_order}
use Rattle.bike_sql.proofs.RowListLemmas.{has_filter, filter_has}

pub all_map : {X : Type 0} (P Q : X → Type 0) → ((x : X) → P x → Q x) → (xs : List X) → AllByRecursion P xs → AllByRecursion Q xs
all_map P Q f [] h = tt
all_map P Q f (x ∷ xs) h = (f x h.0, all_map P Q f xs h.1)

pub all_has : {X : Type 0} (P : X → Type 0) (xs : List X) (x : X) → AllByRecursion P xs → Has xs x → P x
all_has P [] x all has = elim has [ ]
all_has P (y ∷ ys) x all (inl is) = subst P (sym is) all.0
all_has P (y ∷ ys) x all (inr later) = all_has P ys x all.1 later

pub all_from : {X : Type 0} (P : X → Type 0) (xs : List X) → ((x : X) → Has xs x → P x) → AllByRecursion P xs
all_from P [] f = tt
all_from P (x ∷ xs) f = (f x (inl refl), all_from P xs (λ y h. f y (inr h)))

module _ {X : Type 0} {R : X → X → Ordering} (o : IsTotalOrder R) where
  abbrev pub Rises : List X → Type 0
  Rises = IsAscending (λ a b. R a b ≡ Less)

  -- no two elements tie
  abbrev pub AreApart : List X → Type 0
  AreApart xs = (a b : X) → Has xs a → Has xs b → R a b ≡ Equal → a ≡ b

  -- `put_in`, where the comparison with the first element is known
  abbrev PutBy : Ordering → X → X → List X → List X
  PutBy q new x xs = match_ordering q (x ∷ put_in R new xs) (new ∷ xs) (new ∷ x ∷ xs)

  -- ---- the members

  pub has_put : (new : X) (xs : List X) → Has (put_in R new xs) new
  has_put new [] = inl refl
  has_put new (x ∷ xs) = elim (R x new) as (λ q. Has (PutBy q new x xs) new) [ Less ↦ inr (has_put new xs) | Equal ↦ inl refl | Greater ↦ inl refl ]

  pub put_has : (new : X) (xs : List X) (y : X) → Has (put_in R new xs) y → (y ≡ new) ⊎ Has xs y
  put_has new [] y h = h
  put_has new (x ∷ xs) y h = by (R x new) h (put_has new xs y)
    where
      by : (q : Ordering) → Has (PutBy q new x xs) y → (Has (put_in R new xs) y → (y ≡ new) ⊎ Has xs y) → (y ≡ new) ⊎ Has (x ∷ xs) y
      by Less (inl is) rest = inr (inl is)
      by Less (inr later) rest = elim (rest later) [ inl is ↦ inl is | inr was ↦ inr (inr was) ]
      by Equal (inl is) rest = inl is
      by Equal (inr later) rest = inr (inr later)
      by Greater here rest = here

  -- what does not tie with the new element stays
  pub put_keeps : (new : X) (xs : List X) (y : X) → (R y new ≡ Equal → ⊥) → Has xs y → Has (put_in R new xs) y
  put_keeps new [] y apart h = elim h [ ]
  put_keeps new (x ∷ xs) y apart h = by (R x new) refl h (put_keeps new xs y apart)
    where
      by : (q : Ordering) → R x new ≡ q → Has (x ∷ xs) y → (Has xs y → Has (put_in R new xs) y) → Has (PutBy q new x xs) y
      by Less e (inl is) rest = inl is
      by Less e (inr later) rest = inr (rest later)
      by Equal e (inl is) rest = absurd (apart (ap (λ z. R z new) is ∙ e))
      by Equal e (inr later) rest = inr later
      by Greater e here rest = inr here

  -- ---- the order

  all_put : (P : X → Type 0) (new : X) (xs : List X) → P new → AllByRecursion P xs → AllByRecursion P (put_in R new xs)
  all_put P new [] it h = (it, tt)
  all_put P new (x ∷ xs) it h = elim (R x new) as (λ q. AllByRecursion P (PutBy q new x xs)) [ Less ↦ (h.0, all_put P new xs it h.1) | Equal ↦ (it, h.1) | Greater ↦ (it, h) ]

  pub rises_put : (new : X) (xs : List X) → Rises xs → Rises (put_in R new xs)
  rises_put new [] h = (tt, tt)
  rises_put new (x ∷ xs) h = by (R x new) refl (rises_put new xs h.1)
    where
      by : (q : Ordering) → R x new ≡ q → Rises (put_in R new xs) → Rises (PutBy q new x xs)
      by Less e rest = (all_put (λ y. R x y ≡ Less) new xs e h.0, rest)
      by Equal e rest = (all_map (λ y. R x y ≡ Less) (λ y. R new y ≡ Less) (λ y below. sym (o.congr x new y e) ∙ below) xs h.0, h.1)
      by Greater e rest =
          let first : R new x ≡ Less = rw e at (o.antisymm new x) in
          ((first, all_map (λ y. R x y ≡ Less) (λ y. R new y ≡ Less) (λ y below. o.trans new x y first below) xs h.0), h)

  pub rises : (xs : List X) → Rises (in_order R xs)
  rises [] = tt
  rises (x ∷ xs) = rises_put x (in_order R xs) (rises xs)

  -- what stays beside a new element does not tie with it
  pub put_apart : (new : X) (xs : List X) (y : X) → Rises xs → Has (put_in R new xs) y → (y ≡ new) ⊎ (Has xs y × (R y new ≡ Equal → ⊥))
  put_apart new [] y up (inl is) = inl is
  put_apart new [] y up (inr none) = elim none [ ]
  put_apart new (x ∷ xs) y up has = by (R x new) refl has (put_apart new xs y up.1)
    where
      by : (q : Ordering) → R x new ≡ q → Has (PutBy q new x xs) y → (Has (put_in R new xs) y → (y ≡ new) ⊎ (Has xs y × (R y new ≡ Equal → ⊥))) → (y ≡ new) ⊎ (Has (x ∷ xs) y × (R y new ≡ Equal → ⊥))
      by Less e (inl is) rest = inr (inl is, λ tie. let t : R x new ≡ Equal = subst (λ z. R z new ≡ Equal) is tie in cc)
      by Less e (inr later) rest = elim (rest later) [ inl is ↦ inl is | inr was ↦ inr (inr was.0, was.1) ]
      by Equal e (inl is) rest = inl is
      by Equal e (inr later) rest =
          let below : R x y ≡ Less = all_has (λ z. R x z ≡ Less) xs y up.0 later in
          inr (
            inr later,
            λ tie.
                let back : R y x ≡ Equal = o.congr y new x tie ∙ (rw e at (o.antisymm new x)) in
                let again : R x y ≡ Equal = rw back at (o.antisymm x y) in
                cc,
          )
      by Greater e (inl is) rest = inl is
      by Greater e (inr (inl is)) rest = inr (inl is, λ tie. let t : R x new ≡ Equal = subst (λ z. R z new ≡ Equal) is tie in cc)
      by Greater e (inr (inr later)) rest =
          let below : R x y ≡ Less = all_has (λ z. R x z ≡ Less) xs y up.0 later in
          let first : R new x ≡ Less = rw e at (o.antisymm new x) in
          let far : R new y ≡ Less = o.trans new x y first below in
          inr (inr later, λ tie. let back : R y new ≡ Greater = rw far at (o.antisymm y new) in cc)

  -- ---- a list that rises is known by its members

  pub same_list : (xs ys : List X) → Rises xs → Rises ys → ((x : X) → Has xs x → Has ys x) → ((x : X) → Has ys x → Has xs x) → xs ≡ ys
  same_list [] [] a b f g = refl
  same_list [] (y ∷ ys) a b f g = absurd (g y (inl refl))
  same_list (x ∷ xs) [] a b f g = absurd (f x (inl refl))
  same_list (x ∷ xs) (y ∷ ys) a b f g =
      let heads : x ≡ y = first (f x (inl refl)) (g y (inl refl)) in
      let tails : xs ≡ ys = same_list xs ys a.1 b.1
      (λ z later. elim (f z (inr later)) [ inl is ↦ absurd (not_below x z (all_has (λ w. R x w ≡ Less) xs z a.0 later) (is ∙ sym heads)) | inr there ↦ there ])
      (λ z later. elim (g z (inr later)) [ inl is ↦ absurd (not_below y z (all_has (λ w. R y w ≡ Less) ys z b.0 later) (is ∙ heads)) | inr there ↦ there ]) in
      cc
    where
      not_below : (v z : X) → R v z ≡ Less → z ≡ v → ⊥
      not_below v z low is = let tie : R v v ≡ Equal = tied_itself o v in let below : R v v ≡ Less = subst (λ w. R v w ≡ Less) is low in cc

      first : (x ≡ y) ⊎ Has ys x → (y ≡ x) ⊎ Has xs y → x ≡ y
      first (inl is) other = is
      first (inr later) (inl is) = sym is
      first (inr later) (inr here) =
          absurd (let low : R x y ≡ Less = all_has (λ w. R x w ≡ Less) xs y a.0 here in let high : R y x ≡ Less = all_has (λ w. R y w ≡ Less) ys x b.0 later in let back : R x y ≡ Greater = rw high at (o.antisymm x y) in cc)

  pub order_has : (xs : List X) (y : X) → Has (in_order R xs) y → Has xs y
  order_has [] y h = elim h [ ]
  order_has (x ∷ xs) y h = elim (put_has x (in_order R xs) y h) [ inl is ↦ inl is | inr was ↦ inr (order_has xs y was) ]

  pub has_order : (xs : List X) → AreApart xs → (y : X) → Has xs y → Has (in_order R xs) y
  has_order [] apart y h = elim h [ ]
  has_order (x ∷ xs) apart y (inl is) = subst (Has (put_in R x (in_order R xs))) (sym is) (has_put x (in_order R xs))
  has_order (x ∷ xs) apart y (inr later) = by (R y x) refl (has_order xs (λ a b p q. apart a b (inr p) (inr q)) y later)
    where
      by : (q : Ordering) → R y x ≡ q → Has (in_order R xs) y → Has (put_in R x (in_order R xs)) y
      by Equal e there = subst (Has (put_in R x (in_order R xs))) (sym (apart y x (inr later) (inl refl) e)) (has_put x (in_order R xs))
      by Less e there = put_keeps x (in_order R xs) y (λ tie. cc) there
      by Greater e there = put_keeps x (in_order R xs) y (λ tie. cc) there

  pub order_is : (xs ys : List X) → AreApart xs → Rises ys → ((x : X) → Has xs x → Has ys x) → ((x : X) → Has ys x → Has xs x) → in_order R xs ≡ ys
  order_is xs ys apart up f g = same_list (in_order R xs) ys (rises xs) up (λ x h. f x (order_has xs x h)) (λ x h. has_order xs apart x (g x h))

  -- one element came in, in place of what tied with it
  pub order_put : (old now : List X) (new : X) → AreApart old → AreApart now → Has now new → ((x : X) → Has now x → (x ≡ new) ⊎ (Has old x × (R x new ≡ Equal → ⊥)))
      → ((x : X) → Has old x → (R x new ≡ Equal → ⊥) → Has now x)
      → in_order R now ≡ put_in R new (in_order R old)
  order_put old now new old_apart now_apart it came kept =
      let was = in_order R old in
      order_is now (put_in R new was) now_apart (rises_put new was (rises old))
      (λ x h. elim (came x h) [ inl is ↦ subst (Has (put_in R new was)) (sym is) (has_put new was) | inr stayed ↦ put_keeps new was x stayed.1 (has_order old old_apart x stayed.0) ])
      (λ x h. elim (put_apart new was x (rises old) h) [ inl is ↦ subst (Has now) (sym is) it | inr stayed ↦ kept x (order_has old x stayed.0) stayed.1 ])

  rises_filter : (p : X → Bool) (xs : List X) → Rises xs → Rises (filter p xs)
  rises_filter p [] up = tt
  rises_filter p (x ∷ xs) up = elim (p x) as (λ b. Rises (cond b (x ∷ filter p xs) (filter p xs))) [
    | true ↦ (all_from (λ y. R x y ≡ Less) (filter p xs) (λ y h. all_has (λ z. R x z ≡ Less) xs y up.0 (has_filter p xs y h).0), rises_filter p xs up.1)
    | false ↦ rises_filter p xs up.1
  ]

  -- those elements are left that pass a test
  pub order_filter : (p : X → Bool) (old now : List X) → AreApart old → AreApart now → ((x : X) → Has now x → Has old x × (p x ≡ true)) → ((x : X) → Has old x → p x ≡ true → Has now x)
      → in_order R now ≡ filter p (in_order R old)
  order_filter p old now old_apart now_apart kept stays =
      let was = in_order R old in
      order_is now (filter p was) now_apart (rises_filter p was (rises old))
      (λ x h. let it = kept x h in filter_has p was x (has_order old old_apart x it.0) it.1)
      (λ x h. let it = has_filter p was x h in stays x (order_has old x it.0) it.1)

  -- one list that rises and then another, each of whose elements is above those of the first
  pub rises_append : (xs ys : List X) → Rises xs → Rises ys → ((x y : X) → Has xs x → Has ys y → R x y ≡ Less) → Rises (xs ++ ys)
  rises_append [] ys a b low = b
  rises_append (x ∷ xs) ys a b low = (all_append xs a.0, rises_append xs ys a.1 b (λ z y h there. low z y (inr h) there))
    where
      all_append : (zs : List X) → AllByRecursion (λ y. R x y ≡ Less) zs → AllByRecursion (λ y. R x y ≡ Less) (zs ++ ys)
      all_append [] h = all_from (λ y. R x y ≡ Less) ys (λ y there. low x y (inl refl) there)
      all_append (z ∷ zs) h = (h.0, all_append zs h.1)
