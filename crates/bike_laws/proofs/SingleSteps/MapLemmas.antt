-- Maps with a record added, or with one record changed.
use Rattle.std.proofs.Common.{◌≡◌, ℕ, ◌+◌, ◌≤◌, ◌<◌, Bool, true, false, cond, leb, Option, Some, None, is_some, refl, sym, ap, ◌∙◌, arith}
use Rattle.std.specs.Ordering.{nat_cmp, eq_by_cmp}
use Rattle.std.specs.declared.cmp.Ordering.{Ordering}
use Rattle.std.specs.Cmp.{IsTotalOrder, Equal-is, eq_by_cmp_equiv, nat_cmp_total}
use Rattle.std.specs.Cmp.Lexicographic.{nat_list_cmp_total, lists_total}
use Rattle.std.specs.FinMap as map
use Rattle.std.specs.FinMap.{FinMap}
use Rattle.std.proofs.lemmas.Bool.Decides.{nat_tests}
use Rattle.bike_operator.specs.Operator.{text_cmp, texts_cmp}
use Rattle.bike_operator.specs.Steps.{found_changed, key_changed}

-- a total order in which only equal keys tie
pub record IsKeyOrder {K : Type 0} (R : K → K → Ordering) : Type 0 where
  pub total : IsTotalOrder R
  pub same : map.IsAntisymmetric R

pub texts_order : IsKeyOrder texts_cmp
texts_order = record { total = lists_total nat_list_cmp_total; same = map.slice_cmp-IsAntisymmetric (map.slice_cmp-IsAntisymmetric map.nat_cmp-IsAntisymmetric) }

pub text_order : IsKeyOrder text_cmp
text_order = record { total = nat_list_cmp_total; same = map.slice_cmp-IsAntisymmetric map.nat_cmp-IsAntisymmetric }

pub number_order : IsKeyOrder nat_cmp
number_order = record { total = nat_cmp_total; same = map.nat_cmp-IsAntisymmetric }

pub there_of : {X : Type 0} (o : Option X) → is_some o ≡ true → (x : X) × (o ≡ Some x)
there_of None e = absurd cc
there_of (Some x) e = (x, refl)

-- What stands under a key where a record was added: the new one, or one that was there.
pub data IsAdded {K X : Type 0} {R : K → K → Ordering} (m : FinMap R X) (k : K) (v : X) (q : K) (y : X) : Type 0 where
  New : q ≡ k → y ≡ v → IsAdded m k v q y
  Old : eq_by_cmp R q k ≡ false → map.get m q ≡ Some y → IsAdded m k v q y

-- What stands under a key where a record was changed.
pub data IsChanged {K X : Type 0} {R : K → K → Ordering} (m : FinMap R X) (k : K) (f : X → X) (q : K) (y : X) : Type 0 where
  Changed : (x : X) → q ≡ k → map.get m k ≡ Some x → y ≡ f x → IsChanged m k f q y
  Other : eq_by_cmp R q k ≡ false → map.get m q ≡ Some y → IsChanged m k f q y

-- A record is the same or changed.
pub data IsKept {X : Type 0} (f : X → X) (x y : X) : Type 0 where
  Same : y ≡ x → IsKept f x y
  Turned : y ≡ f x → IsKept f x y

-- What was there goes on being there, the same or changed.
pub record HasKept {K X : Type 0} {R : K → K → Ordering} (m : FinMap R X) (k : K) (f : X → X) (q : K) (x : X) : Type 0 where
  pub row : X
  pub found : map.get (key_changed m k f) q ≡ Some row
  pub is : IsKept f x row

module _ {K : Type 0} {R : K → K → Ordering} (o : IsKeyOrder R) where
  pub tied : (q k : K) → eq_by_cmp R q k ≡ true → q ≡ k
  tied q k e = o.same q k ((Equal-is (R q k)).0 e)

  module _ {X : Type 0} where
    added_go : (m : FinMap R X) (k : K) (v : X) (q : K) (y : X) (b : Bool) → eq_by_cmp R q k ≡ b → cond b (Some v) (map.get m q) ≡ Some y → IsAdded m k v q y
    added_go m k v q y true e h = New (tied q k e) cc
    added_go m k v q y false e h = Old e h

    pub added_at : (m : FinMap R X) (k : K) (v : X) (q : K) (y : X) → map.get (map.insert m k v) q ≡ Some y → IsAdded m k v q y
    added_at m k v q y h = added_go m k v q y (eq_by_cmp R q k) refl (sym (map.get-insert o.total m k v q) ∙ h)

    changed_some : (m : FinMap R X) (k : K) (f : X → X) (q : K) (y x : X) → map.get m k ≡ Some x → IsAdded m k (f x) q y → IsChanged m k f q y
    changed_some m k f q y x e (New same is) = Changed x same e is
    changed_some m k f q y x e (Old apart is) = Other apart is

    changed_none : (m : FinMap R X) (k : K) (f : X → X) (q : K) (y : X) → map.get m k ≡ None → map.get m q ≡ Some y → (b : Bool) → eq_by_cmp R q k ≡ b → IsChanged m k f q y
    changed_none m k f q y e h true t = let same = tied q k t in absurd cc
    changed_none m k f q y e h false t = Other t h

    changed_go : (m : FinMap R X) (k : K) (f : X → X) (q : K) (y : X) (x : Option X) → map.get m k ≡ x → map.get (found_changed m k f x) q ≡ Some y → IsChanged m k f q y
    changed_go m k f q y None e h = changed_none m k f q y e h (eq_by_cmp R q k) refl
    changed_go m k f q y (Some x) e h = changed_some m k f q y x e (added_at m k (f x) q y h)

    pub changed_at : (m : FinMap R X) (k : K) (f : X → X) (q : K) (y : X) → map.get (key_changed m k f) q ≡ Some y → IsChanged m k f q y
    changed_at m k f q y h = changed_go m k f q y (map.get m k) refl h

    -- what was there when a record with a new key is added
    pub kept_added : (m : FinMap R X) (k : K) (v : X) (q : K) (y : X) → map.get m k ≡ None → map.get m q ≡ Some y → map.get (map.insert m k v) q ≡ Some y
    kept_added m k v q y free h = map.get-insert o.total m k v q ∙ go (eq_by_cmp R q k) refl where
      go : (b : Bool) → eq_by_cmp R q k ≡ b → cond b (Some v) (map.get m q) ≡ Some y
      go true t = let same = tied q k t in absurd cc
      go false t = h

    pub known_added : (m : FinMap R X) (k : K) (v : X) (q : K) → map.contains_key m q ≡ true → map.contains_key (map.insert m k v) q ≡ true
    known_added m k v q h = rw (map.get-insert o.total m k v q) (go (eq_by_cmp R q k)) where
      go : (b : Bool) → is_some (cond b (Some v) (map.get m q)) ≡ true
      go true = refl
      go false = h

    pub few_added : (m : FinMap R X) (k : K) (v : X) (most : ℕ) → leb most (map.len m) ≡ false → map.len (map.insert m k v) ≤ most
    few_added m k v most full = go (map.contains_key m k) (map.len-insert o.total m k v) (grind (arith, nat_tests, full)) where
      go : (b : Bool) → map.len (map.insert m k v) ≡ cond b (map.len m) (map.len m + 1) → map.len m < most → map.len (map.insert m k v) ≤ most
      go true e h = omega (arith, e, h)
      go false e h = omega (arith, e, h)

    kept_go : (m : FinMap R X) (k : K) (f : X → X) (q : K) (x : X) → map.get m q ≡ Some x → (z : Option X) → map.get m k ≡ z → (y : X) × (map.get (found_changed m k f z) q ≡ Some y) × (IsKept f x y)
    kept_go m k f q x h None e = (x, h, Same refl)
    kept_go m k f q x h (Some z) e = go (eq_by_cmp R q k) refl where
      go : (b : Bool) → eq_by_cmp R q k ≡ b → (y : X) × (map.get (map.insert m k (f z)) q ≡ Some y) × (IsKept f x y)
      go true t =
          let same = tied q k t in
          let is : z ≡ x = cc in
          (f z, map.get-insert o.total m k (f z) q ∙ ap (λ (b : Bool). cond b (Some (f z)) (map.get m q)) t, Turned (ap f is))
      go false t = (x, map.get-insert o.total m k (f z) q ∙ ap (λ (b : Bool). cond b (Some (f z)) (map.get m q)) t ∙ h, Same refl)

    pub kept_changed : (m : FinMap R X) (k : K) (f : X → X) (q : K) (x : X) → map.get m q ≡ Some x → HasKept m k f q x
    kept_changed m k f q x h = let k3 = kept_go m k f q x h (map.get m k) refl in record { row = k3.0; found = k3.1; is = k3.2 }

    pub known_changed : (m : FinMap R X) (k : K) (f : X → X) (q : K) → map.contains_key m q ≡ true → map.contains_key (key_changed m k f) q ≡ true
    known_changed m k f q h = let x = there_of (map.get m q) h in let y = kept_changed m k f q x.0 x.1 in ap is_some y.found

    -- the record that is there, again
    insert-same : (m : FinMap R X) (k : K) (v : X) → map.get m k ≡ Some v → map.insert m k v ≡ m
    insert-same m k v h = map.same_map o.total o.same (map.insert m k v) m (λ q. map.get-insert o.total m k v q ∙ go q (eq_by_cmp R q k) refl) where
      go : (q : K) (b : Bool) → eq_by_cmp R q k ≡ b → cond b (Some v) (map.get m q) ≡ map.get m q
      go q true t = let same = tied q k t in cc
      go q false t = refl

    -- a record in place of one that was removed
    pub insert-remove : (m : FinMap R X) (k : K) (v : X) → map.insert (map.remove m k) k v ≡ map.insert m k v
    insert-remove m k v =
        map.same_map o.total o.same (map.insert (map.remove m k) k v) (map.insert m k v)
        (λ q. map.get-insert o.total (map.remove m k) k v q ∙ ap (cond (eq_by_cmp R q k) (Some v)) (map.get-remove o.total m k q) ∙ go q (eq_by_cmp R q k) ∙ sym (map.get-insert o.total m k v q))
      where
        go : (q : K) (b : Bool) → cond b (Some v) (cond b None (map.get m q)) ≡ cond b (Some v) (map.get m q)
        go q true = refl
        go q false = refl

    -- a record that was removed, put back
    pub put_back : (m : FinMap R X) (k : K) (v : X) → map.get m k ≡ Some v → map.insert (map.remove m k) k v ≡ m
    put_back m k v h = insert-remove m k v ∙ insert-same m k v h

    pub removed_gone : (m : FinMap R X) (k : K) → map.get (map.remove m k) k ≡ None
    removed_gone m k = map.get-remove o.total m k k ∙ ap (λ (b : Bool). cond b None (map.get m k)) ((eq_by_cmp_equiv o.total).refl k)

    -- what stands where a record was removed was there
    pub removed_at : (m : FinMap R X) (k q : K) (y : X) → map.get (map.remove m k) q ≡ Some y → map.get m q ≡ Some y
    removed_at m k q y h = go (eq_by_cmp R q k) (sym (map.get-remove o.total m k q) ∙ h) where
      go : (b : Bool) → cond b None (map.get m q) ≡ Some y → map.get m q ≡ Some y
      go true e = absurd cc
      go false e = e

    len_found : (m : FinMap R X) (k : K) (f : X → X) (x : Option X) → map.get m k ≡ x → map.len (found_changed m k f x) ≡ map.len m
    len_found m k f None e = refl
    len_found m k f (Some x) e = map.len-insert o.total m k (f x) ∙ ap (λ (z : Option X). cond (is_some z) (map.len m) (map.len m + 1)) e

    pub len_changed : (m : FinMap R X) (k : K) (f : X → X) → map.len (key_changed m k f) ≡ map.len m
    len_changed m k f = len_found m k f (map.get m k) refl
