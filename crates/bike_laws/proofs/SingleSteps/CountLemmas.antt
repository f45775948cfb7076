-- Entries of maps that pass a test, and how many do.
use Rattle.std.proofs.Common.{◌≡◌, ℕ, ◌+◌, ◌≤◌, List, [], ◌∷◌, length, Bool, true, false, cond, ◌&&◌, T, filter, find, Option, Some, None, refl, sym, ap, ◌∙◌, subst, arith}
use Rattle.std.specs.Ordering.{eq_by_cmp, is_eq, is_lt}
use Rattle.std.specs.declared.cmp.Ordering.{Ordering}
use Rattle.std.specs.declared.cmp.Ordering.TheVariants.{Less, Equal, Greater}
use Rattle.std.specs.Cmp.{eq_by_cmp_equiv}
use Rattle.std.specs.FinMap as map
use Rattle.std.specs.FinMap.{FinMap}
use Rattle.std.specs.FinMap.Entries.{put, by_order, below_all, is_sorted}
use Rattle.bike_operator.specs.Counts.{count}
use Rattle.bike_operator.specs.Steps.{found_changed, key_changed}
use Rattle.bike_laws.proofs.SingleSteps.MapLemmas.{IsKeyOrder, tied}

-- 1 for what passes
abbrev pub one : Bool → ℕ
one b = cond b 1 0

abbrev pub weight : {X : Type 0} → (X → Bool) → Option X → ℕ
weight test None = 0
weight test (Some x) = one (test x)

pub count-cons : {A : Type 0} (test : A → Bool) (x : A) (xs : List A) → count test (x ∷ xs) ≡ one (test x) + count test xs
count-cons test x xs = go (test x) where
  go : (b : Bool) → length (cond b (x ∷ filter test xs) (filter test xs)) ≡ one b + count test xs
  go true = omega arith
  go false = omega arith

and_first : (a b : Bool) → T (a && b) → T a
and_first true b h = tt
and_first false b h = h

and_second : (a b : Bool) → T (a && b) → T b
and_second true b h = h
and_second false b h = absurd h

less : (r : Ordering) → T (is_lt r) → r ≡ Less
less Less h = refl
less Equal h = absurd h
less Greater h = absurd h

module _ {K : Type 0} {R : K → K → Ordering} (o : IsKeyOrder R) where
  module _ {X : Type 0} where
    below_less : (x y : K) (es : List (K × X)) → R x y ≡ Less → T (below_all R y es) → T (below_all R x es)
    below_less x y [] e h = tt
    below_less x y (f ∷ es) e h =
        let first = o.total.trans x y f.0 e (less (R y f.0) (and_first (is_lt (R y f.0)) (below_all R y es) h)) in
        rw first (below_less x y es e (and_second (is_lt (R y f.0)) (below_all R y es) h))

    below_none : (q : K) (es : List (K × X)) → T (below_all R q es) → map.find R q es ≡ None
    below_none q [] h = refl
    below_none q (e ∷ es) h =
        ap (λ (r : Ordering). cond (is_eq r) (Some e.1) (map.find R q es)) (less (R q e.0) (and_first (is_lt (R q e.0)) (below_all R q es) h))
        ∙ below_none q es (and_second (is_lt (R q e.0)) (below_all R q es) h)

    -- a key stands once
    find_tail : (q : K) (y : X) (e : K × X) (es : List (K × X)) → T (is_sorted R (e ∷ es)) → map.find R q es ≡ Some y → map.find R q (e ∷ es) ≡ Some y
    find_tail q y e es h found = go (eq_by_cmp R q e.0) refl where
      go : (b : Bool) → eq_by_cmp R q e.0 ≡ b → cond b (Some e.1) (map.find R q es) ≡ Some y
      go true t =
          let same = tied o q e.0 t in
          let none : map.find R e.0 es ≡ None = below_none e.0 es (and_first (below_all R e.0 es) (is_sorted R es) h) in
          absurd cc
      go false t = found

    find_head : (e : K × X) (es : List (K × X)) → map.find R e.0 (e ∷ es) ≡ Some e.1
    find_head e es = ap (λ (b : Bool). cond b (Some e.1) (map.find R e.0 es)) ((eq_by_cmp_equiv o.total).refl e.0)

    -- ---- how many pass

    -- one more entry, or another value: what passes grows by the new value and falls by the old one
    count-put : (test : X → Bool) (k : K) (v : X) (es : List (K × X)) → T (is_sorted R es)
        → count (λ e. test e.1) (put R k v es) + weight test (map.find R k es) ≡ count (λ e. test e.1) es + one (test v)
    count-put test k v [] h = rw (count-cons (λ (e : K × X). test e.1) (k, v) []) (omega arith)
    count-put test k v (e ∷ es) h = go (R k e.0) refl (count-put test k v es (and_second (below_all R e.0 es) (is_sorted R es) h)) where
      go : (r : Ordering) → R k e.0 ≡ r → count (λ e. test e.1) (put R k v es) + weight test (map.find R k es) ≡ count (λ e. test e.1) es + one (test v)
          → count (λ e. test e.1) (by_order r ((k, v) ∷ e ∷ es) ((e.0, v) ∷ es) (e ∷ put R k v es)) + weight test (cond (is_eq r) (Some e.1) (map.find R k es))
          ≡ count (λ e. test e.1) (e ∷ es) + one (test v)
      go Less is rest =
          let none = below_none k es (below_less k e.0 es is (and_first (below_all R e.0 es) (is_sorted R es) h)) in
          rw none (let c = count-cons (λ (e : K × X). test e.1) (k, v) (e ∷ es) in omega (arith, c))
      go Equal is rest = let c = count-cons (λ (e : K × X). test e.1) (e.0, v) es in let d = count-cons (λ (e : K × X). test e.1) e es in omega (arith, c, d)
      go Greater is rest =
          let c = count-cons (λ (e : K × X). test e.1) e (put R k v es) in
          let d = count-cons (λ (e : K × X). test e.1) e es in
          omega (arith, c, d, rest)

    pub count-added : (test : X → Bool) (m : FinMap R X) (k : K) (v : X)
        → count (λ e. test e.1) (map.entries (map.insert m k v)) + weight test (map.get m k) ≡ count (λ e. test e.1) (map.entries m) + one (test v)
    count-added test m k v = rw (map.entries-insert o.total m k v, map.get-entries m k) (count-put test k v (map.entries m) (map.entries_sorted m))

    -- a value that is changed counts in place of the old one
    pub count-changed : (test : X → Bool) (m : FinMap R X) (k : K) (f : X → X) (x : X) → map.get m k ≡ Some x
        → count (λ e. test e.1) (map.entries (key_changed m k f)) + one (test x) ≡ count (λ e. test e.1) (map.entries m) + one (test (f x))
    count-changed test m k f x found =
        let c : count (λ e. test e.1) (map.entries (map.insert m k (f x))) + weight test (Some x) ≡ count (λ e. test e.1) (map.entries m) + one (test (f x)) =
        subst (λ (o : Option X). count (λ e. test e.1) (map.entries (map.insert m k (f x))) + weight test o ≡ count (λ e. test e.1) (map.entries m) + one (test (f x))) found
        (count-added test m k (f x)) in
        subst (λ (o : Option X). count (λ e. test e.1) (map.entries (found_changed m k f o)) + one (test x) ≡ count (λ e. test e.1) (map.entries m) + one (test (f x))) (sym found) c

    -- at most one more where the changed value passes, and no more where it doesn't
    pub count-most : (test : X → Bool) (m : FinMap R X) (k : K) (f : X → X) (passes : Bool) → ((x : X) → test (f x) ≡ passes)
        → count (λ e. test e.1) (map.entries (key_changed m k f)) ≤ count (λ e. test e.1) (map.entries m) + one passes
    count-most test m k f passes is = go (map.get m k) refl where
      go : (o : Option X) → map.get m k ≡ o → count (λ e. test e.1) (map.entries (found_changed m k f o)) ≤ count (λ e. test e.1) (map.entries m) + one passes
      go None e = omega arith
      go (Some x) e = let c = count-added test m k (f x) in let w : one (test (f x)) ≡ one passes = ap one (is x) in omega (arith, c, w)

    -- ---- none passes

    none_passes : (test : X → Bool) (es : List (K × X)) → T (is_sorted R es) → ((q : K) (y : X) → map.find R q es ≡ Some y → test y ≡ false) → count (λ e. test e.1) es ≡ 0
    none_passes test [] h each = refl
    none_passes test (e ∷ es) h each =
        let head = each e.0 e.1 (find_head e es) in
        let tail = none_passes test es (and_second (below_all R e.0 es) (is_sorted R es) h) (λ q y found. each q y (find_tail q y e es h found)) in
        count-cons (λ (e : K × X). test e.1) e es ∙ rw head (omega (arith, tail))

    pub none_counted : (test : X → Bool) (m : FinMap R X) → ((q : K) (y : X) → map.get m q ≡ Some y → test y ≡ false) → count (λ e. test e.1) (map.entries m) ≡ 0
    none_counted test m each = none_passes test (map.entries m) (map.entries_sorted m) (λ q y found. each q y (map.get-entries m q ∙ found))

    found_fails : (test : X → Bool) (q : K) (y : X) (es : List (K × X)) → count (λ e. test e.1) es ≡ 0 → map.find R q es ≡ Some y → test y ≡ false
    found_fails test q y [] none found = absurd cc
    found_fails test q y (e ∷ es) none found = go (found_fails test q y es) (eq_by_cmp R q e.0) (test e.1) refl (sym (count-cons (λ (e : K × X). test e.1) e es) ∙ none) found where
      go : (count (λ e. test e.1) es ≡ 0 → map.find R q es ≡ Some y → test y ≡ false) → (b t : Bool) → test e.1 ≡ t → one t + count (λ e. test e.1) es ≡ 0
          → cond b (Some e.1) (map.find R q es) ≡ Some y → test y ≡ false
      go rest b true is none found = absurd (omega (arith, none))
      go rest true false is none found = let same : e.1 ≡ y = cc in subst (λ (z : X). test z ≡ false) same is
      go rest false false is none found = rest (omega (arith, none)) found

    pub uncounted : (test : X → Bool) (m : FinMap R X) (q : K) (y : X) → count (λ e. test e.1) (map.entries m) ≡ 0 → map.get m q ≡ Some y → test y ≡ false
    uncounted test m q y none found = found_fails test q y (map.entries m) none (sym (map.get-entries m q) ∙ found)

    -- ---- what is found by a test

    missed_fails : (test : X → Bool) (q : K) (y : X) (es : List (K × X)) → find (λ e. test e.1) es ≡ None → map.find R q es ≡ Some y → test y ≡ false
    missed_fails test q y [] none found = absurd cc
    missed_fails test q y (e ∷ es) none found = go (missed_fails test q y es) (eq_by_cmp R q e.0) (test e.1) refl none found where
      go : (find (λ e. test e.1) es ≡ None → map.find R q es ≡ Some y → test y ≡ false) → (b t : Bool) → test e.1 ≡ t → cond t (Some e) (find (λ e. test e.1) es) ≡ None
          → cond b (Some e.1) (map.find R q es) ≡ Some y → test y ≡ false
      go rest b true is none found = absurd cc
      go rest true false is none found = let same : e.1 ≡ y = cc in subst (λ (z : X). test z ≡ false) same is
      go rest false false is none found = rest none found

    pub missed : (test : X → Bool) (m : FinMap R X) (q : K) (y : X) → find (λ e. test e.1) (map.entries m) ≡ None → map.get m q ≡ Some y → test y ≡ false
    missed test m q y none found = missed_fails test q y (map.entries m) none (sym (map.get-entries m q) ∙ found)

    first_found : (test : X → Bool) (b : K × X) (es : List (K × X)) → T (is_sorted R es) → find (λ e. test e.1) es ≡ Some b → (map.find R b.0 es ≡ Some b.1) × (test b.1 ≡ true)
    first_found test b [] h found = absurd cc
    first_found test b (e ∷ es) h found = go (first_found test b es (and_second (below_all R e.0 es) (is_sorted R es) h)) (test e.1) refl found where
      go : (find (λ e. test e.1) es ≡ Some b → (map.find R b.0 es ≡ Some b.1) × (test b.1 ≡ true)) → (t : Bool) → test e.1 ≡ t → cond t (Some e) (find (λ e. test e.1) es) ≡ Some b
          → (map.find R b.0 (e ∷ es) ≡ Some b.1) × (test b.1 ≡ true)
      go rest true is found = let same : e ≡ b = cc in subst (λ (z : K × X). (map.find R z.0 (e ∷ es) ≡ Some z.1) × (test z.1 ≡ true)) same (find_head e es, is)
      go rest false is found = let r = rest found in (find_tail b.0 b.1 e es h r.0, r.1)

    pub found_by : (test : X → Bool) (m : FinMap R X) (b : K × X) → find (λ e. test e.1) (map.entries m) ≡ Some b → (map.get m b.0 ≡ Some b.1) × (test b.1 ≡ true)
    found_by test m b found = let f = first_found test b (map.entries m) (map.entries_sorted m) found in (map.get-entries m b.0 ∙ f.0, f.1)
