-- Entries in the order of their keys: the one that stands next after a front, and what is found under its key.
use Rattle.std.proofs.Common.{◌≡◌, List, [], ◌∷◌, ◌++◌, Bool, true, false, cond, ◌&&◌, T, find, Some, refl, ap, ◌∙◌, subst}
use Rattle.std.specs.Prelude.{slice_get}
use Rattle.std.specs.Ordering.{is_lt, is_eq, eq_by_cmp, ordering_reverse}
use Rattle.std.specs.declared.cmp.Ordering.{Ordering}
use Rattle.std.specs.declared.cmp.Ordering.TheVariants.{Less, Equal, Greater}
use Rattle.std.specs.Cmp.{IsTotalOrder, tied_itself}
use Rattle.std.specs.FinMap.{FinMap, entries, entries_sorted, get, get-entries}
use Rattle.std.specs.FinMap.Entries as list

both : (a b : Bool) → T (a && b) → T a × T b
both true true t = (tt, tt)
both true false t = absurd t
both false b t = absurd t

less_is : (r : Ordering) → T (is_lt r) → r ≡ Less
less_is Less t = refl
less_is Equal t = absurd t
less_is Greater t = absurd t

is_true : (b : Bool) → T b → b ≡ true
is_true true t = refl
is_true false t = absurd t

turned_back : {K : Type 0} {R : K → K → Ordering} → IsTotalOrder R → (k q : K) → R k q ≡ Less → R q k ≡ Greater
turned_back total k q e = total.antisymm q k ∙ ap ordering_reverse e

module _ {K X : Type 0} {R : K → K → Ordering} (total : IsTotalOrder R) where
  -- a key below all of these is below the one in their midst
  below_middle : (k : K) (front : List (K × X)) (e : K × X) (rest : List (K × X)) → T (list.below_all R k (front ++ e ∷ rest)) → R k e.0 ≡ Less
  below_middle k [] e rest h = less_is (R k e.0) (both (is_lt (R k e.0)) (list.below_all R k rest) h).0
  below_middle k (x ∷ front) e rest h = below_middle k front e rest (both (is_lt (R k x.0)) (list.below_all R k (front ++ e ∷ rest)) h).1

  -- all that come after an entry stand behind it
  next_behind : (e : K × X) (rest : List (K × X)) → T (list.below_all R e.0 rest) → find (λ x. is_lt (R e.0 x.0)) rest ≡ slice_get rest 0
  next_behind e [] h = refl
  next_behind e (x ∷ rest) h =
      let passes : is_lt (R e.0 x.0) ≡ true = is_true (is_lt (R e.0 x.0)) (both (is_lt (R e.0 x.0)) (list.below_all R e.0 rest) h).0 in
      ap (λ (b : Bool). cond b (Some x) (find (λ y. is_lt (R e.0 y.0)) rest)) passes

  next_after : (front : List (K × X)) (e : K × X) (rest : List (K × X)) → T (list.is_sorted R (front ++ e ∷ rest))
      → find (λ x. is_lt (R e.0 x.0)) (front ++ e ∷ rest) ≡ slice_get rest 0
  next_after [] e rest h =
      let own : is_lt (R e.0 e.0) ≡ false = ap is_lt (tied_itself total e.0) in
      ap (λ (b : Bool). cond b (Some e) (find (λ y. is_lt (R e.0 y.0)) rest)) own ∙ next_behind e rest (both (list.below_all R e.0 rest) (list.is_sorted R rest) h).0
  next_after (x ∷ front) e rest h =
      let parts = both (list.below_all R x.0 (front ++ e ∷ rest)) (list.is_sorted R (front ++ e ∷ rest)) h in
      let fails : is_lt (R e.0 x.0) ≡ false = ap is_lt (turned_back total x.0 e.0 (below_middle x.0 front e rest parts.0)) in
      ap (λ (b : Bool). cond b (Some x) (find (λ y. is_lt (R e.0 y.0)) (front ++ e ∷ rest))) fails ∙ next_after front e rest parts.1

  found_middle : (front : List (K × X)) (e : K × X) (rest : List (K × X)) → T (list.is_sorted R (front ++ e ∷ rest)) → list.find R e.0 (front ++ e ∷ rest) ≡ Some e.1
  found_middle [] e rest h = ap (λ (b : Bool). cond b (Some e.1) (list.find R e.0 rest)) (ap is_eq (tied_itself total e.0))
  found_middle (x ∷ front) e rest h =
      let parts = both (list.below_all R x.0 (front ++ e ∷ rest)) (list.is_sorted R (front ++ e ∷ rest)) h in
      let apart : eq_by_cmp R e.0 x.0 ≡ false = ap is_eq (turned_back total x.0 e.0 (below_middle x.0 front e rest parts.0)) in
      ap (λ (b : Bool). cond b (Some x.1) (list.find R e.0 (front ++ e ∷ rest))) apart ∙ found_middle front e rest parts.1

  -- what stands next after one of the entries
  pub next_entry : (es front : List (K × X)) (e : K × X) (rest : List (K × X)) → T (list.is_sorted R es) → es ≡ front ++ e ∷ rest
      → find (λ x. is_lt (R e.0 x.0)) es ≡ slice_get rest 0
  next_entry es front e rest sorted split = ap (find (λ x. is_lt (R e.0 x.0))) split ∙ next_after front e rest (subst (λ es. T (list.is_sorted R es)) split sorted)

  -- what it has under the key of one of its entries
  pub map_found : (m : FinMap R X) (front : List (K × X)) (e : K × X) (rest : List (K × X)) → entries m ≡ front ++ e ∷ rest → get m e.0 ≡ Some e.1
  map_found m front e rest split =
      get-entries m e.0 ∙ (ap (list.find R e.0) split ∙ found_middle front e rest (subst (λ es. T (list.is_sorted R es)) split (entries_sorted m)))
