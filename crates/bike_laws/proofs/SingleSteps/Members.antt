-- Members of lists, and of the entries of maps.
use Rattle.std.proofs.Common.{◌≡◌, ◌⊎◌, inl, inr, List, [], ◌∷◌, Bool, true, false, cond, ◌&&◌, T, Some, refl, sym, ap, ◌∙◌}
use Rattle.std.specs.Ordering.{is_eq, is_lt, eq_by_cmp}
use Rattle.std.specs.declared.cmp.Ordering.{Ordering}
use Rattle.std.specs.declared.cmp.Ordering.TheVariants.{Less, Equal, Greater}
use Rattle.std.specs.Cmp.{IsTotalOrder, eq_by_cmp_equiv}
use Rattle.std.specs.FinMap as map
use Rattle.std.specs.FinMap.{FinMap}
use Rattle.std.specs.FinMap.Entries as entries

abbrev pub Has : {A : Type 0} → List A → A → Type 0
Has [] x = ⊥
Has (y ∷ ys) x = (x ≡ y) ⊎ Has ys x

pub both : (a b : Bool) → T (a && b) → T a × T b
both true true t = (tt, tt)
both true false t = absurd t
both false b t = absurd t

less_is : (r : Ordering) → T (is_lt r) → r ≡ Less
less_is Less t = refl
less_is Equal t = absurd t
less_is Greater t = absurd t

module _ {K X : Type 0} {R : K → K → Ordering} (total : IsTotalOrder R) where
  -- a key below all is below each
  pub below_has : (k : K) (es : List (K × X)) (e : K × X) → T (entries.below_all R k es) → Has es e → R k e.0 ≡ Less
  below_has k [] e h has = elim has [ ]
  below_has k (x ∷ es) e h (inl is) = ap (λ (z : K × X). R k z.0) is ∙ less_is (R k x.0) (both (is_lt (R k x.0)) (entries.below_all R k es) h).0
  below_has k (x ∷ es) e h (inr later) = below_has k es e (both (is_lt (R k x.0)) (entries.below_all R k es) h).1 later

  has_find : (es : List (K × X)) (e : K × X) → T (entries.is_sorted R es) → Has es e → entries.find R e.0 es ≡ Some e.1
  has_find [] e h has = elim has [ ]
  has_find (x ∷ es) e h (inl is) =
      let tie : eq_by_cmp R e.0 x.0 ≡ true = ap (λ (z : K × X). eq_by_cmp R e.0 z.0) (sym is) ∙ (eq_by_cmp_equiv total).refl e.0 in
      ap (λ (b : Bool). cond b (Some x.1) (entries.find R e.0 es)) tie ∙ ap (λ (z : K × X). Some z.1) (sym is)
  has_find (x ∷ es) e h (inr later) =
      let parts = both (entries.below_all R x.0 es) (entries.is_sorted R es) h in
      let below : R x.0 e.0 ≡ Less = below_has x.0 es e parts.0 later in
      let apart : eq_by_cmp R e.0 x.0 ≡ false = (eq_by_cmp_equiv total).symm e.0 x.0 ∙ ap is_eq below in
      ap (λ (b : Bool). cond b (Some x.1) (entries.find R e.0 es)) apart ∙ has_find es e parts.1 later

  -- an entry of a map is what is found under its key
  pub has_get : (m : FinMap R X) (e : K × X) → Has (map.entries m) e → map.get m e.0 ≡ Some e.1
  has_get m e has = map.get-entries m e.0 ∙ has_find (map.entries m) e (map.entries_sorted m) has
