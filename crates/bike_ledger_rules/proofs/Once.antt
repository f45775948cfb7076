-- At most one item of a list passes a test exactly where any two that pass have one place.
use Rattle.std.proofs.Common.{◌≡◌, ℕ, zero, suc, ◌≤◌, List, [], ◌∷◌, Bool, true, false, Some, refl, ap, ◌∙◌, arith}
use Rattle.bike_operator.specs.Operator.{item_at}
use Rattle.bike_operator.specs.Counts.{count}
use Rattle.bike_laws.proofs.SingleSteps.CountLemmas.{count-cons, one}

module _ {A : Type 0} (test : A → Bool) where
  -- the item at this place passes
  pub record Passes (xs : List A) (at : ℕ) : Type 0 where
    pub item : A
    pub found : item_at at xs ≡ Some item
    pub passes : test item ≡ true

  -- any two items that pass have one place
  abbrev pub AreOnce : List A → Type 0
  AreOnce xs = (a b : ℕ) → Passes xs a → Passes xs b → a ≡ b

  first_one : (x : A) (xs : List A) → Passes (x ∷ xs) zero → test x ≡ true
  first_one x xs it = let is : x ≡ it.item = (let f = it.found in cc) in ap test is ∙ it.passes

  later_one : (x : A) (xs : List A) (a : ℕ) → Passes (x ∷ xs) (suc a) → Passes xs a
  later_one x xs a it = record { item = it.item; found = it.found; passes = it.passes }

  one_later : (x : A) (xs : List A) (a : ℕ) → Passes xs a → Passes (x ∷ xs) (suc a)
  one_later x xs a it = record { item = it.item; found = it.found; passes = it.passes }

  pub passing_counts : (xs : List A) (a : ℕ) → Passes xs a → 1 ≤ count test xs
  passing_counts [] a it = absurd (let f = it.found in cc)
  passing_counts (x ∷ xs) zero it =
      let c = count-cons test x xs in
      let in_it : one (test x) ≡ 1 = ap one (first_one x xs it) in
      omega (arith, c, in_it)
  passing_counts (x ∷ xs) (suc a) it =
      let c = count-cons test x xs in
      let rest = passing_counts xs a (later_one x xs a it) in
      omega (arith, c, rest)

  -- where some pass, one of them has a place
  pub counted_passes : (xs : List A) → 1 ≤ count test xs → (a : ℕ) × Passes xs a
  counted_passes [] some = absurd (omega (arith, some))
  counted_passes (x ∷ xs) some = go (test x) refl (counted_passes xs) where
    go : (b : Bool) → test x ≡ b → (1 ≤ count test xs → (a : ℕ) × Passes xs a) → (a : ℕ) × Passes (x ∷ xs) a
    go true e rest = (zero, record { item = x; found = refl; passes = e })
    go false e rest =
        let c = count-cons test x xs in
        let out : one (test x) ≡ 0 = ap one e in
        let later = rest (omega (arith, c, out, some)) in
        (suc later.0, one_later x xs later.0 later.1)

  pub counted_once : (xs : List A) → count test xs ≤ 1 → AreOnce xs
  counted_once [] few a b p q = absurd (let f = p.found in cc)
  counted_once (x ∷ xs) few zero zero p q = refl
  counted_once (x ∷ xs) few zero (suc b) p q =
      let c = count-cons test x xs in
      let in_it : one (test x) ≡ 1 = ap one (first_one x xs p) in
      let rest = passing_counts xs b (later_one x xs b q) in
      absurd (omega (arith, c, in_it, rest, few))
  counted_once (x ∷ xs) few (suc a) zero p q =
      let c = count-cons test x xs in
      let in_it : one (test x) ≡ 1 = ap one (first_one x xs q) in
      let rest = passing_counts xs a (later_one x xs a p) in
      absurd (omega (arith, c, in_it, rest, few))
  counted_once (x ∷ xs) few (suc a) (suc b) p q =
      let c = count-cons test x xs in
      ap suc (counted_once xs (omega (arith, c, few)) a b (later_one x xs a p) (later_one x xs b q))

  pub once_counted : (xs : List A) → AreOnce xs → count test xs ≤ 1
  once_counted [] once = omega arith
  once_counted (x ∷ xs) once = go (test x) refl (once_counted xs (λ a b p q. let same = once (suc a) (suc b) (one_later x xs a p) (one_later x xs b q) in omega (arith, same))) where
    none : (n : ℕ) → test x ≡ true → count test xs ≡ n → n ≡ 0
    none zero e is = refl
    none (suc n) e is =
        let later = counted_passes xs (omega (arith, is)) in
        let same = once zero (suc later.0) (record { item = x; found = refl; passes = e }) (one_later x xs later.0 later.1) in
        absurd (omega (arith, same))

    go : (b : Bool) → test x ≡ b → count test xs ≤ 1 → count test (x ∷ xs) ≤ 1
    go true e few =
        let c = count-cons test x xs in
        let in_it : one (test x) ≡ 1 = ap one e in
        let rest = none (count test xs) e refl in
        omega (arith, c, in_it, rest)
    go false e few =
        let c = count-cons test x xs in
        let out : one (test x) ≡ 0 = ap one e in
        omega (arith, c, out, few)
