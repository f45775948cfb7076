-- There are at most as many bicycles as the number of the last, since their numbers begin at 1 and rise.
use Rattle.std.proofs.Common.{◌≡◌, ◌+◌, ◌<◌, ◌≤◌, inl, ℕ, List, [], ◌∷◌, map, length, slice_get, false, nat_le, T, Less, refl, sym, arith}
use Rattle.std.proofs.lemmas.Bool.{lt-leb}
use Rattle.std.proofs.lemmas.Cmp.{ranked}
use Rattle.std.specs.Ordering.{nat_cmp}
use Rattle.std.specs.FinMap as fin
use Rattle.std.specs.FinMap.Entries.{is_sorted, below_all}
use Rattle.sqlite_rules.specs.Lists.{Has}
use Rattle.bike_sql.specs.View.{last_of}
use Rattle.bike_operator.specs.declared.records.Bike.{Bike}
use Rattle.bike_book.specs.Tables.{Bikes}
use Rattle.bike_book.specs.Stored.{stored_bike}
use Rattle.bike_book.specs.Found.{last_row, WhereListed, IsLast}
use Rattle.bike_book.proofs.Keys.{numbers}
use Rattle.bike_book.proofs.MapRows.{both, below_has, has_get}

-- numbers that rise from above a least one are at most as many as the last is above it
rising : (least : ℕ) (e : ℕ × Bike) (es : List (ℕ × Bike)) → least < e.0 → T (is_sorted nat_cmp (e ∷ es))
    → (n : ℕ) × IsLast 0 n (slice_get (last_of (map stored_bike (e ∷ es))) 0) × (least + length (e ∷ es) ≤ n)
rising least e [] above sorted = (e.0, refl, omega (arith, above))
rising least e (f ∷ es) above sorted =
    let parts = both (below_all nat_cmp e.0 (f ∷ es)) (is_sorted nat_cmp (f ∷ es)) sorted in
    let next = ranked e.0 f.0 Less (sym (below_has numbers.total e.0 (f ∷ es) f parts.0 (inl refl))) in
    let rest = rising e.0 f es next parts.1 in
    (rest.0, rest.1, omega (arith, above, rest.2))

pub bikes_at_most : WhereListed (λ s m. (n : ℕ) × IsLast 0 n (last_row s m Bikes) × (fin.len s.bikes ≤ n))
bikes_at_most s m sound listing =
    let it = at_most (fin.entries s.bikes) (λ e has. (sound.bikes.bikes e.0 e.1 (has_get numbers.total s.bikes e has)).low) (fin.entries_sorted s.bikes) in
    (it.0, it.1, omega (arith, it.2, fin.len-entries s.bikes))
  where
    at_most : (es : List (ℕ × Bike)) → ((e : ℕ × Bike) → Has es e → 1 ≤ e.0) → T (is_sorted nat_cmp es) → (n : ℕ) × IsLast 0 n (slice_get (last_of (map stored_bike es)) 0) × (length es ≤ n)
    at_most [] low sorted = (0, refl, omega arith)
    at_most (e ∷ es) low sorted = let it = rising 0 e es (omega (arith, low e (inl refl))) sorted in (it.0, it.1, omega (arith, it.2))

-- fewer than there may be
pub not_full : (most n last : ℕ) → n ≤ last → last < most → false ≡ nat_le most n
not_full most n last few below = sym (lt-leb most n (omega (arith, few, below)))
