-- A path that takes a route is as the route's pattern says.
use Rattle.std.proofs.Common.{◌≡◌, ℕ, zero, suc, ◌-◌, ◌<◌, List, [], ◌∷◌, ◌++◌, Bool, true, false, ◌==◌, ltb, ◌&&◌, Option, Some, None, All, length, take, drop, get_or, refl, sym, ap, ◌∙◌, subst, ◌⊎◌}
use Rattle.std.proofs.Common.{inl, inr, nat_eq, arith, take-append-drop}
use Rattle.std.proofs.lemmas.Bool.Decides.{nat_tests}
use Rattle.std.proofs.lemmas.List.{take_all}
use Rattle.std.proofs.lemmas.List.Elements.{All-nil, All-cons}
use Rattle.std.specs.List.{ends_with}
use Rattle.matchit.specs.Rows.{RowsOf, param_token, catch_all_token}
use Rattle.matchit.specs.Seek.{slash, segment, has_slash, same_text, cuts, better, own, step, or_else, longest_from, longest_suffix, with_suffix, param_step, seek}

abbrev pub IsBytes : List ℕ → Type 0
IsBytes path = (i : ℕ) → get_or path i 0 < 256

abbrev pub HasNoSlash : List ℕ → Type 0
HasNoSlash text = All (λ b. (b == slash) ≡ false) text

-- the path is the pattern, with a text that has no slash in the place of each parameter
abbrev pub Matches : List ℕ → List ℕ → Type 0
Matches [] path = path ≡ []
Matches (x ∷ pattern) path =
    ((x < 256) × (rest : List ℕ) × (path ≡ x ∷ rest) × Matches pattern rest)
    ⊎ ((x ≡ 256) × (part : List ℕ) × (rest : List ℕ) × (path ≡ part ++ rest) × HasNoSlash part × Matches pattern rest)
    ⊎ (x ≡ 257)

one_of : {A B C P : Type 0} → (A → P) → (B → P) → (C → P) → A ⊎ B ⊎ C → P
one_of f g h (inl a) = f a
one_of f g h (inr (inl b)) = g b
one_of f g h (inr (inr c)) = h c

-- ---- the suffix that ends a segment

shorter : (a b c : Bool) (best s seg : ℕ) → ltb best s ≡ a → ltb s seg ≡ b → best < seg → (a && (b && c)) ≡ true → s < seg
shorter true true c best s seg e f h is = grind (f, arith, nat_tests)
shorter true false c best s seg e f h is = absurd (cc is)
shorter false b c best s seg e f h is = absurd (cc is)

better_short : (seg best s : List ℕ) → length best < length seg → length (better seg best s) < length seg
better_short seg best s h = by (ltb (length best) (length s) && cuts seg s) refl
  where
    by : (v : Bool) → (ltb (length best) (length s) && cuts seg s) ≡ v → length (better seg best s) < length seg
    by true e = rw e (shorter (ltb (length best) (length s)) (ltb (length s) (length seg)) (ends_with nat_eq seg s) _ _ _ refl refl h e)
    by false e = rw e h

-- the front of a segment has no slash
front_no_slash : (path : List ℕ) (n : ℕ) → n < length (segment path) → HasNoSlash (take n path)
front_no_slash [] n h = absurd (omega arith)
front_no_slash (b ∷ path) zero h = All-nil _
front_no_slash (b ∷ path) (suc n) h = by (b == slash) refl (front_no_slash path n)
  where
    by : (v : Bool) → (b == slash) ≡ v → (n < length (segment path) → HasNoSlash (take n path)) → HasNoSlash (take (suc n) (b ∷ path))
    by true e more = absurd (let short : suc n < 1 = rw e at h in omega arith)
    by false e more = All-cons (λ c. (c == slash) ≡ false) b (take n path) e (more (let long : suc n < suc (length (segment path)) = rw e at h in omega arith))

all_no_slash : (path : List ℕ) → has_slash path ≡ false → HasNoSlash path
all_no_slash [] e = All-nil _
all_no_slash (b ∷ path) e = by (b == slash) refl (all_no_slash path)
  where
    by : (v : Bool) → (b == slash) ≡ v → (has_slash path ≡ false → HasNoSlash path) → HasNoSlash (b ∷ path)
    by true f more = absurd (let no : true ≡ false = rw f at e in cc no)
    by false f more = All-cons (λ c. (c == slash) ≡ false) b path f (more (rw f at e))

segment_some : (b : ℕ) (path : List ℕ) → 0 < length (segment (b ∷ path))
segment_some b path = by (b == slash) refl
  where
    by : (v : Bool) → (b == slash) ≡ v → 0 < length (segment (b ∷ path))
    by true e = rw e (omega arith)
    by false e = rw e (omega arith)

module _ {K : Type 0} where
  -- the rows hold the pattern under that key
  abbrev pub Has : List ℕ → K → RowsOf K → Type 0
  Has t k [] = ⊥
  Has t k ((u, l) ∷ rest) = ((u ≡ t) × (l ≡ k)) ⊎ Has t k rest

  own_has : (rows : RowsOf K) (k : K) → own rows ≡ Some k → Has [] k rows
  own_has [] k e = absurd (cc e)
  own_has (([], l) ∷ rest) k e = inl (refl, cc e)
  own_has ((x ∷ t, l) ∷ rest) k e = inr (own_has rest k e)

  step_has : (b : ℕ) (rows : RowsOf K) (t : List ℕ) (k : K) → Has t k (step b rows) → Has (b ∷ t) k rows
  step_has b [] t k h = h
  step_has b (([], l) ∷ rest) t k h = inr (step_has b rest t k h)
  step_has b ((x ∷ u, l) ∷ rest) t k h = by (x == b) refl (step_has b rest t k)
    where
      one : (x ≡ b) → (Has t k (step b rest) → Has (b ∷ t) k rest) → ((u ≡ t) × (l ≡ k)) ⊎ Has t k (step b rest) → Has (b ∷ t) k ((x ∷ u, l) ∷ rest)
      one is more (inl here) = inl (ap (λ (y : ℕ). y ∷ u) is ∙ ap (λ (w : List ℕ). b ∷ w) here.0, here.1)
      one is more (inr there) = inr (more there)

      by : (v : Bool) → (x == b) ≡ v → (Has t k (step b rest) → Has (b ∷ t) k rest) → Has (b ∷ t) k ((x ∷ u, l) ∷ rest)
      by true e more = one (grind (e, arith, nat_tests)) more (rw e at h)
      by false e more = inr (more (rw e at h))

  suffix_has : (s : List ℕ) (rows : RowsOf K) (t : List ℕ) (k : K) → Has t k (with_suffix s rows) → Has t k rows
  suffix_has s [] t k h = h
  suffix_has s ((u, l) ∷ rest) t k h = by (same_text (segment u) s) refl (suffix_has s rest t k)
    where
      one : (Has t k (with_suffix s rest) → Has t k rest) → ((u ≡ t) × (l ≡ k)) ⊎ Has t k (with_suffix s rest) → Has t k ((u, l) ∷ rest)
      one more (inl here) = inl here
      one more (inr there) = inr (more there)

      by : (v : Bool) → same_text (segment u) s ≡ v → (Has t k (with_suffix s rest) → Has t k rest) → Has t k ((u, l) ∷ rest)
      by true e more = one more (rw e at h)
      by false e more = inr (more (rw e at h))

  longest_short : (seg best : List ℕ) (rows : RowsOf K) → length best < length seg → length (longest_from seg best rows) < length seg
  longest_short seg best [] h = h
  longest_short seg best ((t, l) ∷ rest) h = longest_short seg (better seg best (segment t)) rest (better_short seg best (segment t) h)

  -- what a parameter takes has no slash, and the rows that go on are rows that were there
  record Takes (rows : RowsOf K) (path t : List ℕ) (k : K) (n : ℕ) : Type 0 where
    there : Has t k rows
    some : 0 < n
    plain : HasNoSlash (take n path)

  param_takes : (rows : RowsOf K) (b : ℕ) (path t : List ℕ) (k : K) → Has t k (param_step rows (b ∷ path)).1 → Takes rows (b ∷ path) t k (param_step rows (b ∷ path)).0
  unfolding param_step
  param_takes rows b path t k h = by (ltb 0 (length suffix)) (has_slash (b ∷ path)) refl refl
    where
      suffix : List ℕ
      suffix = longest_suffix (segment (b ∷ path)) rows

      by : (u v : Bool) → ltb 0 (length suffix) ≡ u → has_slash (b ∷ path) ≡ v → Takes rows (b ∷ path) t k (param_step rows (b ∷ path)).0
      by true v e f =
          let short : length suffix < length (segment (b ∷ path)) = longest_short (segment (b ∷ path)) [] rows (segment_some b path) in
          let long : 0 < length suffix = grind (e, arith, nat_tests) in
          rw e (record {
            there = suffix_has suffix rows t k (rw e at h);
            some = omega arith;
            plain = front_no_slash (b ∷ path) (length (segment (b ∷ path)) - length suffix) (omega arith);
          })
      by false true e f = absurd (rw (e, f) at h)
      by false false e f =
          rw (e, f) (record { there = rw (e, f) at h; some = omega arith; plain = subst HasNoSlash (sym (take_all (length (b ∷ path)) (b ∷ path) (omega arith))) (all_no_slash (b ∷ path) f) })

  or_else_some : (a b c : Option K) (k : K) → or_else a (or_else b c) ≡ Some k → (a ≡ Some k) ⊎ (b ≡ Some k) ⊎ (c ≡ Some k)
  or_else_some (Some x) b c k e = inl e
  or_else_some None (Some x) c k e = inr (inl e)
  or_else_some None None c k e = inr (inr e)

  -- a row that matches the path
  abbrev pub Found : RowsOf K → K → List ℕ → Type 0
  Found rows k path = (t : List ℕ) × Has t k rows × Matches t path

  by_byte : (rows : RowsOf K) (k : K) (b : ℕ) (path : List ℕ) → b < 256 → Found (step b rows) k path → Found rows k (b ∷ path)
  by_byte rows k b path small (t, has, fits) = (b ∷ t, step_has b rows t k has, inl (small, path, refl, fits))

  by_part : (rows : RowsOf K) (k : K) (b : ℕ) (path : List ℕ) → Found (param_step (step param_token rows) (b ∷ path)).1 k (drop ((param_step (step param_token rows) (b ∷ path)).0 - 1) path)
      → Found rows k (b ∷ path)
  by_part rows k b path (t, has, fits) =
      let n : ℕ = (param_step (step param_token rows) (b ∷ path)).0 in
      let takes = param_takes (step param_token rows) b path t k has in
      let at : suc (n - 1) ≡ n = (let some = takes.some in omega arith) in
      let rest : drop (n - 1) path ≡ drop n (b ∷ path) = ap (λ m. drop m (b ∷ path)) at in (
        param_token ∷ t,
        step_has param_token rows t k takes.there,
        inr (inl (refl, take n (b ∷ path), drop n (b ∷ path), sym (take-append-drop n (b ∷ path)), takes.plain, subst (Matches t) rest fits)),
      )

  by_catch : (rows : RowsOf K) (k : K) (path : List ℕ) → own (step catch_all_token rows) ≡ Some k → Found rows k path
  by_catch rows k path e = (catch_all_token ∷ [], step_has catch_all_token rows [] k (own_has _ k e), inr (inr refl))

  -- the route that the walk finds is of a row that matches the path
  pub seek_found : (skip : ℕ) (rows : RowsOf K) (path : List ℕ) (k : K) → IsBytes path → seek skip rows path ≡ Some k → Found rows k (drop skip path)
  unfolding seek
  seek_found zero rows [] k bytes e = ([], own_has rows k e, refl)
  seek_found (suc skip) rows [] k bytes e = ([], own_has rows k e, refl)
  seek_found (suc skip) rows (b ∷ path) k bytes e = seek_found skip rows path k (λ i. bytes (suc i)) e
  seek_found zero rows (b ∷ path) k bytes e =
      let more : IsBytes path = λ i. bytes (suc i) in
      one_of (λ here. by_byte rows k b path (bytes 0) (seek_found 0 (step b rows) path k more here))
      (λ part. by_part rows k b path (seek_found _ _ path k more part)) (λ rest. by_catch rows k (b ∷ path) rest) (or_else_some _ _ _ k e)
