-- Keys of maps that stay, and records found under them.
use Rattle.std.proofs.Common.{◌≡◌, ℕ, Bool, true, false, cond, Option, Some, None, refl, sym, ap, ◌∙◌}
use Rattle.std.specs.Prelude.{is_some}
use Rattle.std.specs.FinMap as finmap
use Rattle.std.specs.Ordering.{nat_cmp, eq_by_cmp, is_eq}
use Rattle.std.specs.declared.cmp.Ordering.{Ordering}
use Rattle.std.specs.declared.cmp.Ordering.TheVariants.{Less, Equal, Greater}
use Rattle.std.specs.Cmp.{IsTotalOrder, tied_itself, nat_cmp_total}
use Rattle.bike_operator.specs.Steps.{found_changed, key_changed}

-- ---- any keys

is_kept : {X : Type 0} (b : Bool) (v : X) (o : Option X) → is_some o ≡ true → is_some (cond b (Some v) o) ≡ true
is_kept true v o e = refl
is_kept false v o e = e

pub insert_keeps : {K X : Type 0} {R : K → K → Ordering} (total : IsTotalOrder R) (m : finmap.FinMap R X) (k : K) (v : X) (id : K) → is_some (finmap.get m id) ≡ true
    → is_some (finmap.get (finmap.insert m k v) id) ≡ true
insert_keeps {R = R} total m k v id e = ap (λ o. is_some o) (finmap.get-insert total m k v id) ∙ is_kept (eq_by_cmp R id k) v (finmap.get m id) e

found_keeps : {K X : Type 0} {R : K → K → Ordering} (total : IsTotalOrder R) (m : finmap.FinMap R X) (k : K) (f : X → X) (o : Option X) (id : K) → is_some (finmap.get m id) ≡ true
    → is_some (finmap.get (found_changed m k f o) id) ≡ true
found_keeps total m k f None id e = e
found_keeps total m k f (Some x) id e = insert_keeps total m k (f x) id e

pub changed_keeps : {K X : Type 0} {R : K → K → Ordering} (total : IsTotalOrder R) (m : finmap.FinMap R X) (k : K) (f : X → X) (id : K) → is_some (finmap.get m id) ≡ true
    → is_some (finmap.get (key_changed m k f) id) ≡ true
changed_keeps total m k f id e = found_keeps total m k f (finmap.get m k) id e

-- ---- numbers as keys

same_of : (a b : ℕ) → eq_by_cmp nat_cmp a b ≡ true → a ≡ b
same_of a b e = go (nat_cmp a b) refl e where
  go : (r : Ordering) → nat_cmp a b ≡ r → is_eq r ≡ true → a ≡ b
  go Less is e = absurd cc
  go Equal is e = finmap.nat_cmp-IsAntisymmetric a b is
  go Greater is e = absurd cc

other_of : (a b : ℕ) → (a ≡ b → ⊥) → eq_by_cmp nat_cmp a b ≡ false
other_of a b apart = go (eq_by_cmp nat_cmp a b) refl where
  go : (r : Bool) → eq_by_cmp nat_cmp a b ≡ r → r ≡ false
  go true e = absurd (apart (same_of a b e))
  go false e = refl

pub get_inserted : {X : Type 0} (m : finmap.FinMap nat_cmp X) (k : ℕ) (v : X) → finmap.get (finmap.insert m k v) k ≡ Some v
get_inserted m k v = finmap.get-insert nat_cmp_total m k v k ∙ ap (λ r. cond (is_eq r) (Some v) (finmap.get m k)) (tied_itself nat_cmp_total k)

pub get_other : {X : Type 0} (m : finmap.FinMap nat_cmp X) (k : ℕ) (v : X) (id : ℕ) → (id ≡ k → ⊥) → finmap.get (finmap.insert m k v) id ≡ finmap.get m id
get_other m k v id apart = finmap.get-insert nat_cmp_total m k v id ∙ ap (λ b. cond b (Some v) (finmap.get m id)) (other_of id k apart)

pub changed_found : {X : Type 0} (m : finmap.FinMap nat_cmp X) (k : ℕ) (f : X → X) (x : X) → finmap.get m k ≡ Some x → finmap.get (key_changed m k f) k ≡ Some (f x)
changed_found m k f x e = ap (λ o. finmap.get (found_changed m k f o) k) e ∙ get_inserted m k (f x)

found_other : {X : Type 0} (m : finmap.FinMap nat_cmp X) (k : ℕ) (f : X → X) (o : Option X) (id : ℕ) → (id ≡ k → ⊥) → finmap.get (found_changed m k f o) id ≡ finmap.get m id
found_other m k f None id apart = refl
found_other m k f (Some x) id apart = get_other m k (f x) id apart

pub changed_other : {X : Type 0} (m : finmap.FinMap nat_cmp X) (k : ℕ) (f : X → X) (id : ℕ) → (id ≡ k → ⊥) → finmap.get (key_changed m k f) id ≡ finmap.get m id
changed_other m k f id apart = found_other m k f (finmap.get m k) id apart

-- the key is this one or another
pub data Either (a b : ℕ) : Type 0 where
  Same : a ≡ b → Either a b
  Other : (a ≡ b → ⊥) → Either a b

pub either : (a b : ℕ) → Either a b
either a b = go (eq_by_cmp nat_cmp a b) refl where
  go : (r : Bool) → eq_by_cmp nat_cmp a b ≡ r → Either a b
  go true e = Same (same_of a b e)
  go false e = Other (λ i. let t : eq_by_cmp nat_cmp a b ≡ true = ap (λ x. eq_by_cmp nat_cmp a x) (sym i) ∙ ap (λ r. is_eq r) (tied_itself nat_cmp_total a) in absurd cc)
