-- The text of the types at a station of a sound operator is UTF-8.
use Rattle.std.proofs.Common.{◌≡◌, ℕ, suc, ◌+◌, ◌≤◌, List, [], ◌∷◌, length, Bool, true, false, cond, subst, arith}
use Rattle.std.specs.Prelude.{fold}
use Rattle.std.specs.declared.cmp.Ordering.{Ordering}
use Rattle.std.specs.declared.cmp.Ordering.TheVariants.{Less, Equal, Greater}
use Rattle.std.specs.FinMap as fin
use Rattle.std.specs.List.{AllByRecursion}
use Rattle.std.specs.Str.{bytes_eq, is_utf8}
use Rattle.bike_operator.specs.declared.records.Bike.{Bike}
use Rattle.bike_operator.specs.Operator.{Operator, text_cmp}
use Rattle.bike_operator.specs.Counts.{is_at, is_available}
use Rattle.bike_operator.specs.Sound.{IsSound}
use Rattle.bike_book.specs.declared.by_type.TypeCounts.{TypeCounts}
use Rattle.bike_book.specs.declared.by_type.CountedType.{CountedType}
use Rattle.bike_book.specs.ByType.{AreIdents, are_none, counts_of, with_first, placed, with_counts, one_more, with_bike, types_at, by_type_text}
use Rattle.bike_book.proofs.TypeLaws.{types_idents}
use Rattle.bike_readings.proofs.TextUtf8.{IsWritten, by_type_utf8}

abbrev AreUpTo : ℕ → TypeCounts → Type 0
AreUpTo most n = (n.available ≤ most) × (n.disabled ≤ most)

abbrev AllUpTo : ℕ → List CountedType → Type 0
AllUpTo most = AllByRecursion (λ c. AreUpTo most c.counts)

all_more : (most : ℕ) (cs : List CountedType) → AllUpTo most cs → AllUpTo (suc most) cs
all_more most [] h = tt
all_more most (c ∷ cs) h = let a = h.0.0 in let d = h.0.1 in ((omega (arith, a), omega (arith, d)), all_more most cs h.1)

-- ---- a bicycle more

counts_within : (most : ℕ) (type_id : List ℕ) (cs : List CountedType) → AllUpTo most cs → AreUpTo most (counts_of type_id cs)
counts_within most type_id [] h = (omega arith, omega arith)
counts_within most type_id (c ∷ cs) h = by (bytes_eq c.type_id type_id) (counts_within most type_id cs h.1)
  where
    by : (b : Bool) → AreUpTo most (counts_of type_id cs) → AreUpTo most (cond b c.counts (counts_of type_id cs))
    by true rest = h.0
    by false rest = rest

first_within : (most : ℕ) (type_id : List ℕ) (n : TypeCounts) (cs : List CountedType) → AreUpTo most n → AllUpTo most cs → AllUpTo most (with_first type_id n cs)
first_within most type_id n cs first h = by (are_none n)
  where
    by : (b : Bool) → AllUpTo most (cond b cs (record { type_id = type_id; counts = n } ∷ cs))
    by true = h
    by false = (first, h)

set_within : (most : ℕ) (type_id : List ℕ) (n : TypeCounts) (cs : List CountedType) → AreUpTo most n → AllUpTo most cs → AllUpTo most (with_counts type_id n cs)
set_within most type_id n [] set h = first_within most type_id n [] set tt
set_within most type_id n (c ∷ cs) set h = by (text_cmp type_id c.type_id) (set_within most type_id n cs set h.1)
  where
    by : (o : Ordering) → AllUpTo most (with_counts type_id n cs) → AllUpTo most (placed o type_id n c cs (with_counts type_id n cs))
    by Less later = first_within most type_id n (c ∷ cs) set h
    by Equal later = first_within most type_id n cs set h.1
    by Greater later = (h.0, later)

one_more_within : (most : ℕ) (available : Bool) (n : TypeCounts) → AreUpTo most n → AreUpTo (suc most) (one_more available n)
one_more_within most true n h = let a = h.0 in let d = h.1 in (omega (arith, a), omega (arith, d))
one_more_within most false n h = let a = h.0 in let d = h.1 in (omega (arith, a), omega (arith, d))

module _ (s : Operator) (station : List ℕ) where
  bike_within : (most : ℕ) (cs : List CountedType) (b : ℕ × Bike) → AllUpTo most cs → AllUpTo (suc most) (with_bike s station cs b)
  bike_within most cs b h = by (is_at station b.1.place)
    where
      by : (there : Bool) → AllUpTo (suc most) (cond there (with_counts b.1.type_id (one_more (is_available s station b.1) (counts_of b.1.type_id cs)) cs) cs)
      by true =
          set_within (suc most) b.1.type_id _ cs (one_more_within most (is_available s station b.1) (counts_of b.1.type_id cs) (counts_within most b.1.type_id cs h)) (all_more most cs h)
      by false = all_more most cs h

  -- the counts are no more than the bicycles
  bikes_within : (most : ℕ) (cs : List CountedType) (bs : List (ℕ × Bike)) → AllUpTo most cs → AllUpTo (most + length bs) (fold (with_bike s station) cs bs)
  bikes_within most cs [] h = let same : most ≡ most + 0 = omega arith in subst (λ (n : ℕ). AllUpTo n cs) same h
  bikes_within most cs (b ∷ bs) h =
      let same : suc most + length bs ≡ most + length (b ∷ bs) = omega arith in
      subst (λ (n : ℕ). AllUpTo n (fold (with_bike s station) cs (b ∷ bs))) same (bikes_within (suc most) (with_bike s station cs b) bs (bike_within most cs b h))

-- ---- the text

all_written : (most : ℕ) → most ≤ 4294967295 → (cs : List CountedType) → AreIdents cs → AllUpTo most cs → AllByRecursion IsWritten cs
all_written most few [] named h = tt
all_written most few (c ∷ cs) named h = let a = h.0.0 in let d = h.0.1 in ((named.0, omega (arith, few, a), omega (arith, few, d)), all_written most few cs named.1 h.1)

pub station_utf8 : (s : Operator) → IsSound s → (station : List ℕ) → is_utf8 (by_type_text (types_at s station)) ≡ true
station_utf8 s sound station =
    let all = fin.len-entries s.bikes in
    let few = sound.bikes.few in
    by_type_utf8 (types_at s station)
    (all_written (0 + length (fin.entries s.bikes)) (omega (arith, all, few)) (types_at s station) (types_idents s station sound) (bikes_within s station 0 [] (fin.entries s.bikes) tt))
