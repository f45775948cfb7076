-- How many entries pass a test, where tests or entries differ at one entry.
use Rattle.std.proofs.Common.{◌≡◌, inl, inr, ℕ, zero, suc, ◌+◌, ◌≤◌, ◌<◌, List, [], ◌∷◌, ◌++◌, Bool, true, false, cond, T, find, Option, Some, None, is_some, refl, sym, ap, ◌∙◌, ◌==◌, ◌⊎◌, arith}
use Rattle.std.specs.Ordering.{is_eq}
use Rattle.std.specs.declared.cmp.Ordering.{Ordering}
use Rattle.std.specs.declared.cmp.Ordering.TheVariants.{Less}
use Rattle.std.specs.Cmp.{IsTotalOrder, eq_by_cmp_equiv}
use Rattle.std.specs.FinMap.Entries as entries
use Rattle.std.proofs.lemmas.Bool.Decides.{eqb_tells}
use Rattle.bike_operator.specs.Counts.{count, docks_up_to}
use Rattle.bike_laws.proofs.SingleSteps.CountLemmas.{count-cons}
use Rattle.bike_laws.specs.SingleSteps.Laws.{one}
use Rattle.bike_laws.proofs.SingleSteps.Members.{Has, both, below_has}

module _ {A : Type 0} where
  pub count_same : (t u : A → Bool) (xs : List A) → ((x : A) → Has xs x → t x ≡ u x) → count t xs ≡ count u xs
  count_same t u [] same = refl
  count_same t u (x ∷ xs) same =
      let first : one (t x) ≡ one (u x) = ap one (same x (inl refl)) in
      let rest = count_same t u xs (λ y has. same y (inr has)) in
      let a = count-cons t x xs in
      let b = count-cons u x xs in
      omega (arith, first, rest, a, b)

  pub count_none : (t : A → Bool) (xs : List A) → ((x : A) → Has xs x → t x ≡ false) → count t xs ≡ 0
  count_none t [] none = refl
  count_none t (x ∷ xs) none =
      let first : one (t x) ≡ 0 = ap one (none x (inl refl)) in
      let rest = count_none t xs (λ y has. none y (inr has)) in
      let a = count-cons t x xs in
      omega (arith, first, rest, a)

  -- a test that passes what the one or the other of two passes
  pub count_sum : (t u v : A → Bool) (xs : List A) → ((x : A) → one (t x) ≡ one (u x) + one (v x)) → count t xs ≡ count u xs + count v xs
  count_sum t u v [] sums = refl
  count_sum t u v (x ∷ xs) sums =
      let first = sums x in
      let rest = count_sum t u v xs sums in
      let a = count-cons t x xs in
      let b = count-cons u x xs in
      let c = count-cons v x xs in
      omega (arith, first, rest, a, b, c)

  pub count_last : (t : A → Bool) (xs : List A) (x : A) → count t (xs ++ x ∷ []) ≡ count t xs + one (t x)
  count_last t [] x = let a = count-cons t x [] in omega (arith, a)
  count_last t (y ∷ xs) x = let a = count-cons t y (xs ++ x ∷ []) in let b = count-cons t y xs in let rest = count_last t xs x in omega (arith, a, b, rest)

-- ---- entries of which one at most passes

never_below : {K : Type 0} {R : K → K → Ordering} → IsTotalOrder R → (k q : K) → k ≡ q → R k q ≡ Less → ⊥
never_below {K} {R} total k q same less =
    let tie : is_eq (R k q) ≡ true = ap (λ (z : K). is_eq (R k z)) (sym same) ∙ (eq_by_cmp_equiv total).refl k in
    let not : is_eq (R k q) ≡ false = ap is_eq less in
    absurd cc

module _ {K X : Type 0} {R : K → K → Ordering} (total : IsTotalOrder R) where
  -- no two of them pass
  abbrev pub PassOnce : (X → Bool) → List (K × X) → Type 0
  PassOnce p es = (a b : K × X) → Has es a → Has es b → p a.1 ≡ true → p b.1 ≡ true → a.0 ≡ b.0

  -- where the first passes, no other does
  others_fail : (p : X → Bool) (e : K × X) (es : List (K × X)) → T (entries.is_sorted R (e ∷ es)) → PassOnce p (e ∷ es) → p e.1 ≡ true → (x : K × X) → Has es x → p x.1 ≡ false
  others_fail p e es sorted once here x has = go (p x.1) refl where
    go : (b : Bool) → p x.1 ≡ b → p x.1 ≡ false
    go true passes = absurd (never_below total e.0 x.0 (once e x (inl refl) (inr has) here passes) (below_has total e.0 es x (both (entries.below_all R e.0 es) (entries.is_sorted R es) sorted).0 has))
    go false fails = fails

  pub count_once : (p : X → Bool) (es : List (K × X)) → T (entries.is_sorted R es) → PassOnce p es → count (λ e. p e.1) es ≡ one (is_some (find (λ e. p e.1) es))
  count_once p [] sorted once = refl
  count_once p (e ∷ es) sorted once = go (p e.1) refl (count_once p es (both (entries.below_all R e.0 es) (entries.is_sorted R es) sorted).1 (λ a b ha hb. once a b (inr ha) (inr hb))) where
    go : (b : Bool) → p e.1 ≡ b → count (λ e. p e.1) es ≡ one (is_some (find (λ e. p e.1) es)) → count (λ e. p e.1) (e ∷ es) ≡ one (is_some (cond b (Some e) (find (λ e. p e.1) es)))
    go true here rest =
        let a = count-cons (λ (e : K × X). p e.1) e es in
        let first : one (p e.1) ≡ 1 = ap one here in
        let none = count_none (λ (e : K × X). p e.1) es (others_fail p e es sorted once here) in
        omega (arith, a, first, none)
    go false here rest =
        let a = count-cons (λ (e : K × X). p e.1) e es in
        let first : one (p e.1) ≡ 0 = ap one here in
        omega (arith, a, first, rest)

  -- what the one that is found adds, by a test
  abbrev pub found_share : (X → Bool) → Option (K × X) → ℕ
  found_share t None = 0
  found_share t (Some e) = one (t e.1)

  -- two tests that differ at most where a third passes, which passes once: the counts differ by what it finds
  pub count_turned : (t u p : X → Bool) (es : List (K × X)) → T (entries.is_sorted R es) → PassOnce p es → ((e : K × X) → Has es e → p e.1 ≡ false → t e.1 ≡ u e.1)
      → count (λ e. u e.1) es + found_share t (find (λ e. p e.1) es) ≡ count (λ e. t e.1) es + found_share u (find (λ e. p e.1) es)
  count_turned t u p [] sorted once same = refl
  count_turned t u p (e ∷ es) sorted once same =
      go (p e.1) refl (count_turned t u p es (both (entries.below_all R e.0 es) (entries.is_sorted R es) sorted).1 (λ a b ha hb. once a b (inr ha) (inr hb)) (λ x has. same x (inr has)))
    where
      go : (b : Bool) → p e.1 ≡ b → count (λ e. u e.1) es + found_share t (find (λ e. p e.1) es) ≡ count (λ e. t e.1) es + found_share u (find (λ e. p e.1) es)
          → count (λ e. u e.1) (e ∷ es) + found_share t (cond b (Some e) (find (λ e. p e.1) es)) ≡ count (λ e. t e.1) (e ∷ es) + found_share u (cond b (Some e) (find (λ e. p e.1) es))
      go true here rest =
          let a = count-cons (λ (e : K × X). t e.1) e es in
          let b = count-cons (λ (e : K × X). u e.1) e es in
          let others = count_same (λ (e : K × X). t e.1) (λ (e : K × X). u e.1) es (λ x has. same x (inr has) (others_fail p e es sorted once here x has)) in
          omega (arith, a, b, others)
      go false here rest =
          let a = count-cons (λ (e : K × X). t e.1) e es in
          let b = count-cons (λ (e : K × X). u e.1) e es in
          let first : one (t e.1) ≡ one (u e.1) = ap one (same e (inl refl) here) in
          omega (arith, a, b, first, rest)

-- ---- docks of a station, where two tests differ at one of them

module _ (t u : ℕ → Bool) (n : ℕ) (same : (m : ℕ) → (m ≡ n → ⊥) → t m ≡ u m) where
  before_it : (d : ℕ) → d < n → count u (docks_up_to d) ≡ count t (docks_up_to d)
  unfolding docks_up_to
  before_it zero low = refl
  before_it (suc d) low =
      let a = count_last u (docks_up_to d) (suc d) in
      let b = count_last t (docks_up_to d) (suc d) in
      let here : one (t (suc d)) ≡ one (u (suc d)) = ap one (same (suc d) (λ e. omega (arith, e, low))) in
      let rest = before_it d (omega (arith, low)) in
      omega (arith, a, b, here, rest)

  pub dock_turned : (d : ℕ) → 1 ≤ n → n ≤ d → count u (docks_up_to d) + one (t n) ≡ count t (docks_up_to d) + one (u n)
  unfolding docks_up_to
  dock_turned zero low high = absurd (omega (arith, low, high))
  dock_turned (suc d) low high =
      let a = count_last u (docks_up_to d) (suc d) in
      let b = count_last t (docks_up_to d) (suc d) in
      go (λ h. dock_turned d low h) a b (eqb_tells n (suc d))
    where
      go : (n ≤ d → count u (docks_up_to d) + one (t n) ≡ count t (docks_up_to d) + one (u n)) → count u (docks_up_to d ++ suc d ∷ []) ≡ count u (docks_up_to d) + one (u (suc d))
          → count t (docks_up_to d ++ suc d ∷ []) ≡ count t (docks_up_to d) + one (t (suc d))
          → ((n == suc d) ≡ true) × (n ≡ suc d) ⊎ ((n == suc d) ≡ false) × (n ≡ suc d → ⊥)
          → count u (docks_up_to d ++ suc d ∷ []) + one (t n) ≡ count t (docks_up_to d ++ suc d ∷ []) + one (u n)
      go less a b (inl is) =
          let rest = before_it d (let e = is.1 in omega (arith, e)) in
          let tn : one (t n) ≡ one (t (suc d)) = ap (λ m. one (t m)) is.1 in
          let un : one (u n) ≡ one (u (suc d)) = ap (λ m. one (u m)) is.1 in
          omega (arith, a, b, rest, tn, un)
      go less a b (inr other) =
          let rest = less (let e = other.1 in omega (arith, e, high)) in
          let here : one (t (suc d)) ≡ one (u (suc d)) = ap one (same (suc d) (λ e. other.1 (sym e))) in
          omega (arith, a, b, rest, here)
