-- How many elements of a list in order are less than one of them: as many as stand before it.
use Rattle.std.proofs.Common.{◌≡◌, inl, inr, ℕ, suc, ◌+◌, ◌<◌, ◌≤◌, List, [], ◌∷◌, ◌++◌, append_assoc, length, length-append, Bool, true, false, sym, ap, subst, ◌∙◌, refl, arith}
use Rattle.std.specs.List.{AllByRecursion}
use Rattle.std.specs.Ordering.{is_lt, ordering_reverse}
use Rattle.std.specs.declared.cmp.Ordering.{Ordering}
use Rattle.std.specs.declared.cmp.Ordering.TheVariants.{Less, Greater}
use Rattle.std.specs.Cmp.{IsTotalOrder}
use Rattle.std.proofs.lemmas.Cmp.{tied_itself}
use Rattle.sqlite_rules.specs.Lists.{Has}
use Rattle.bike_sql.proofs.OrderLemmas.{Rises, all_has}
use Rattle.bike_operator.specs.Counts.{count}
use Rattle.bike_laws.proofs.SingleSteps.CountLemmas.{count-cons, one}
use Rattle.bike_readings.proofs.Fares.{counted}

module _ {X : Type 0} {R : X → X → Ordering} (o : IsTotalOrder R) where
  -- how many are less
  abbrev pub lesser : X → List X → ℕ
  lesser x xs = count (λ y. is_lt (R y x)) xs

  -- what fails a test isn't counted
  fewer : (test : X → Bool) (xs : List X) (x : X) → Has xs x → test x ≡ false → count test xs < length xs
  fewer test [] x has fails = elim has [ ]
  fewer test (y ∷ xs) x (inl is) fails =
      let out : one (test y) ≡ 0 = ap one (ap test (sym is) ∙ fails) in
      let c = count-cons test y xs in
      let rest = counted test xs in
      omega (arith, out, c, rest)
  fewer test (y ∷ xs) x (inr later) fails = let rest = fewer test xs x later fails in let c = count-cons test y xs in go (test y) c rest where
    go : (b : Bool) → count test (y ∷ xs) ≡ one b + count test xs → count test xs < length xs → count test (y ∷ xs) < suc (length xs)
    go true c rest = omega (arith, c, rest)
    go false c rest = omega (arith, c, rest)

  -- one is not less than itself
  pub lesser_fewer : (xs : List X) (x : X) → Has xs x → lesser x xs < length xs
  lesser_fewer xs x has = fewer (λ y. is_lt (R y x)) xs x has (ap is_lt (tied_itself o x))

  none_lesser : (x : X) (xs : List X) → AllByRecursion (λ y. R x y ≡ Less) xs → lesser x xs ≡ 0
  none_lesser x [] up = refl
  none_lesser x (y ∷ xs) up =
      let back : R y x ≡ Greater = o.antisymm y x ∙ ap ordering_reverse up.0 in
      let out : one (is_lt (R y x)) ≡ 0 = ap (λ (r : Ordering). one (is_lt r)) back in
      let c = count-cons (λ z. is_lt (R z x)) y xs in
      let rest = none_lesser x xs up.1 in
      omega (arith, out, c, rest)

  pub has_between : (before : List X) (x : X) (behind : List X) → Has (before ++ x ∷ behind) x
  has_between [] x behind = inl refl
  has_between (y ∷ before) x behind = inr (has_between before x behind)

  -- those that stand before one are the lesser ones
  pub lesser_before : (before : List X) (x : X) (behind : List X) → Rises o (before ++ x ∷ behind) → lesser x (before ++ x ∷ behind) ≡ length before
  lesser_before [] x behind up =
      let out : one (is_lt (R x x)) ≡ 0 = ap (λ (r : Ordering). one (is_lt r)) (tied_itself o x) in
      let c = count-cons (λ y. is_lt (R y x)) x behind in
      let rest = none_lesser x behind up.0 in
      omega (arith, out, c, rest)
  lesser_before (y ∷ before) x behind up =
      let low : R y x ≡ Less = all_has (λ z. R y z ≡ Less) (before ++ x ∷ behind) x up.0 (has_between before x behind) in
      let in_it : one (is_lt (R y x)) ≡ 1 = ap (λ (r : Ordering). one (is_lt r)) low in
      let c = count-cons (λ z. is_lt (R z x)) y (before ++ x ∷ behind) in
      let rest = lesser_before before x behind up.1 in
      omega (arith, in_it, c, rest)

  -- A LIMIT: where each has fewer than so many before it, there are at most so many,
  pub within : (xs : List X) (most : ℕ) → Rises o xs → ((x : X) → Has xs x → lesser x xs < most) → length xs ≤ most
  within xs most up each = go [] xs refl (omega arith) where
    go : (before rest : List X) → xs ≡ before ++ rest → length before ≤ most → length xs ≤ most
    go before [] is few = let e : length xs ≡ length before + 0 = ap length is ∙ length-append before [] in omega (arith, e, few)
    go before (x ∷ rest) is few =
        let has : Has xs x = subst (λ (ys : List X). Has ys x) (sym is) (has_between before x rest) in
        let room : lesser x xs < most = each x has in
        let at : lesser x xs ≡ length before = ap (lesser x) is ∙ lesser_before before x rest (subst (Rises o) is up) in
        let more : length (before ++ x ∷ []) ≡ length before + 1 = length-append before (x ∷ []) in
        go (before ++ x ∷ []) rest (is ∙ sym (append_assoc before (x ∷ []) rest)) (omega (arith, room, at, more))

  -- and where there are at most so many, each has fewer before it.
  pub has_room : (xs : List X) (most : ℕ) → length xs ≤ most → (x : X) → Has xs x → lesser x xs < most
  has_room xs most few x has = let fewer_are = lesser_fewer xs x has in omega (arith, few, fewer_are)
