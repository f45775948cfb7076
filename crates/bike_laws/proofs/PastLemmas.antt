-- What riders have of the entries that were archived, as a rider is added or changed.
use Rattle.std.proofs.Common.{◌≡◌, ℕ, ℤ, pos, ◌+ℤ◌, ◌*ℤ◌, ◌≤ℤ◌, List, [], ◌∷◌, Bool, true, false, cond, T, Option, Some, None, refl, sym, ap, ◌∙◌, subst, arith}
use Rattle.std.specs.Prelude.{◌&&◌, is_some}
use Rattle.std.specs.FinMap as map
use Rattle.std.specs.FinMap.{FinMap}
use Rattle.std.specs.FinMap.Entries.{put, by_order}
use Rattle.std.specs.Ordering.{nat_cmp, is_eq, eq_by_cmp}
use Rattle.std.specs.Cmp.{nat_cmp_total}
use Rattle.std.specs.declared.cmp.Ordering.{Ordering}
use Rattle.std.specs.declared.cmp.Ordering.TheVariants.{Less, Equal, Greater}
use Rattle.std.proofs.lemmas.Int.{ints}
use Rattle.std.proofs.lemmas.Option.{same_Some}
use Rattle.bike_ledger.specs.Entries.{greatest_amount}
use Rattle.bike_laws.proofs.SingleSteps.MapLemmas.{number_order, insert-remove, put_back, removed_gone}
use Rattle.bike_operator.specs.Operator.{Rider}
use Rattle.bike_operator.specs.Sound.{IsSumOf, befores}

-- nothing is a sum of any number of entries
pub none_before : (n : ℕ) → IsSumOf n (pos 0)
none_before n = record { low = omega (arith, ints); high = omega (arith, ints) }

pub none_there : (o : Option Rider) → is_some o ≡ false → o ≡ None
none_there None e = refl
none_there (Some r) e = absurd cc

-- ---- one more entry of the map

put_added : (k : ℕ) (r : Rider) (es : List (ℕ × Rider)) → map.find nat_cmp k es ≡ None → befores (put nat_cmp k r es) ≡ befores es +ℤ r.before
put_added k r [] free = omega (arith, ints)
put_added k r (e ∷ es) free = go (nat_cmp k e.0) free (put_added k r es) where
  go : (o : Ordering) → cond (is_eq o) (Some e.1) (map.find nat_cmp k es) ≡ None → (map.find nat_cmp k es ≡ None → befores (put nat_cmp k r es) ≡ befores es +ℤ r.before)
      → befores (by_order o ((k, r) ∷ e ∷ es) ((e.0, r) ∷ es) (e ∷ put nat_cmp k r es)) ≡ befores (e ∷ es) +ℤ r.before
  go Less free rest = omega (arith, ints)
  go Equal free rest = absurd cc
  go Greater free rest = let is = rest free in omega (arith, ints, is)

pub befores_added : (m : FinMap nat_cmp Rider) (k : ℕ) (r : Rider) → map.get m k ≡ None → befores (map.entries (map.insert m k r)) ≡ befores (map.entries m) +ℤ r.before
befores_added m k r free = rw (map.entries-insert nat_cmp_total m k r) (put_added k r (map.entries m) (sym (map.get-entries m k) ∙ free))

-- ---- a rider in the place of one who had as much

pub befores_set : (m : FinMap nat_cmp Rider) (k : ℕ) (was r : Rider) → map.get m k ≡ Some was → r.before ≡ was.before → befores (map.entries (map.insert m k r)) ≡ befores (map.entries m)
befores_set m k was r found same =
    let less = map.remove m k in
    let now : befores (map.entries (map.insert m k r)) ≡ befores (map.entries less) +ℤ r.before =
    ap (λ (z : FinMap nat_cmp Rider). befores (map.entries z)) (sym (insert-remove number_order m k r)) ∙ befores_added less k r (removed_gone number_order m k) in
    let then : befores (map.entries m) ≡ befores (map.entries less) +ℤ was.before =
    ap (λ (z : FinMap nat_cmp Rider). befores (map.entries z)) (sym (put_back number_order m k was found)) ∙ befores_added less k was (removed_gone number_order m k) in
    omega (arith, ints, now, then, same)
