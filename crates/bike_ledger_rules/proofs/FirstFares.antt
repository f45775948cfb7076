-- The pass over entries counts the fares of those before each.
use Rattle.std.proofs.Common.{◌≡◌, ◌⊎◌, inl, inr, ℕ, suc, ℤ, pos, ◌+◌, ◌-◌, ◌<◌, ◌≤◌, ◌==◌, ◌&&◌, ◌||◌, List}
use Rattle.std.proofs.Common.{[], ◌∷◌, ◌++◌, append_assoc, length, length-append, map, take, Bool, true, cond, Some, refl, sym, ap, ◌∙◌}
use Rattle.std.proofs.Common.{arith, replicate}
use Rattle.std.specs.List.{filter_map}
use Rattle.std.specs.Ordering.{int_eq}
use Rattle.std.specs.Bool.{Decides}
use Rattle.std.specs.Prelude.{nat_le}
use Rattle.std.proofs.lemmas.Bool.Decides.{Decides-int_eq, Decides-or}
use Rattle.std.proofs.lemmas.List.{take_at}
use Rattle.sqlite_value.specs.Order.{Row}
use Rattle.bike_ledger.specs.Entries.{Entry}
use Rattle.bike_ledger.specs.declared.entry.EntryKind.{EntryKind}
use Rattle.bike_ledger.specs.declared.entry.EntryKind.TheVariants.{TopUp, Fare, Refund, Withdrawal, Charge, Credit}
use Rattle.bike_operator.specs.Counts.{count}
use Rattle.bike_operator.specs.Sound.{is_fare}
use Rattle.bike_readings.specs.Readings.{entry_read}
use Rattle.sqlite_rules.specs.Lists.{Has}
use Rattle.bike_judges.specs.Lines.{part}
use Rattle.bike_judges.specs.Passes.{first_failing}
use Rattle.bike_ledger_rules.specs.Sums.{sum_at, with_read}
use Rattle.bike_ledger_rules.specs.Entries.{with_fare, with_fares, entry_holds, first_bad}
use Rattle.bike_ledger_rules.proofs.Folds.{fold_append}
use Rattle.bike_ledger_rules.proofs.SumLemmas.{fold_read, count_of_items, place_number}
use Rattle.bike_ledger_rules.proofs.Tests.{at_most}

-- ---- the pass

-- where so many rentals were archived, and before the first row so many entries
module _ (riders : ℕ → Bool) (now riding archived start : ℕ) (fares : List ℤ) (line : Row → Row) where
  -- one more row, after those that stand before it
  abbrev next : List ℤ → Row → List ℤ
  next sums row = with_read (with_fare archived) sums (entry_read row)

  -- what a line is asked with the fares of the rows before it
  abbrev pub of_all : List Row → ℕ → Row → Bool
  of_all all n = entry_holds riders now riding archived (with_fares archived fares (take n all)) (start + n)

  -- a line holds its entry in front
  abbrev Shows : List Row → Type 0
  Shows rows = (row : Row) → Has rows row → part 0 6 (line row) ≡ row

  -- the pass over these rows, which stand behind those
  abbrev Passes : List Row → List Row → Type 0
  Passes before rows =
      first_bad riders now riding archived (with_fares archived fares before) (start + length before) (map line rows)
      ≡ first_failing (of_all (before ++ rows)) (take 1) (length before) (map line rows)

  passing : (before rows : List Row) → Shows rows → Passes before rows
  unfolding first_failing
  passing before [] shows = refl
  passing before (row ∷ rows) shows = go (passing (before ++ row ∷ []) rows (λ r has. shows r (inr has))) where
    here : before ≡ take (length before) (before ++ row ∷ rows)
    here = sym (take_at before (row ∷ rows) (length before) refl)

    go : Passes (before ++ row ∷ []) rows → Passes before (row ∷ rows)
    go later =
        let all = before ++ row ∷ rows in
        let front = before ++ row ∷ [] in
        let pass = λ (sums : List ℤ) (n : ℕ). first_bad riders now riding archived sums n (map line rows) in
        let long : length front ≡ length before + 1 = length-append before (row ∷ []) in
        let rest : pass (next (with_fares archived fares before) (part 0 6 (line row))) (start + length before + 1) ≡ first_failing (of_all all) (take 1) (suc (length before)) (map line rows) =
        ap (λ (r : Row). pass (next (with_fares archived fares before) r) (start + length before + 1)) (shows row (inl refl))
        ∙ ap (λ (sums : List ℤ). pass sums (start + length before + 1)) (sym (fold_append next fares before (row ∷ [])))
        ∙ ap (pass (with_fares archived fares front)) (omega (arith, long)) ∙ later
        ∙ ap (λ (xs : List Row). first_failing (of_all xs) (take 1) (length front) (map line rows)) (append_assoc before (row ∷ []) rows)
        ∙ ap (λ (n : ℕ). first_failing (of_all all) (take 1) n (map line rows)) (long ∙ (omega arith)) in
        λ i. cond (entry_holds riders now riding archived (with_fares archived fares (here i)) (start + length before) (line row)) (rest i) (Some (take 1 (line row)))

  -- THE PASS over all rows
  pub entries_pass : (rows : List Row) → Shows rows → first_bad riders now riding archived fares start (map line rows) ≡ first_failing (of_all rows) (take 1) 0 (map line rows)
  entries_pass rows shows = ap (λ (n : ℕ). first_bad riders now riding archived fares n (map line rows)) none ∙ passing [] rows shows where
    none : start ≡ start + 0
    none = omega arith

-- ---- how many fares there are

abbrev pub is_fare_of : ℕ → Entry → Bool
is_fare_of rental e = (e.rental == rental) && is_fare e.kind

-- of the rental at a place behind so many that were archived
pub fares_counted : (archived length_of : ℕ) (rows : List Row) (below : ℕ) → suc below < length_of
    → sum_at (with_fares archived (replicate length_of (pos 0)) rows) (suc below)
    ≡ pos (count (is_fare_of (archived + suc below)) (filter_map entry_read rows))
fares_counted archived length_of rows below low =
    ap (λ (sums : List ℤ). sum_at sums (suc below)) (fold_read entry_read (with_fare archived) rows (replicate length_of (pos 0)))
    ∙ count_of_items (λ e. e.rental - archived) (λ e. is_fare e.kind) length_of (filter_map entry_read rows) (suc below) low
    ∙ (λ i. pos (count (λ (e : Entry). place_number e.rental archived below i && is_fare e.kind) (filter_map entry_read rows)))

-- a rental was archived, or it has no fares
abbrev pub IsFirst : ℕ → ℕ → ℤ → Type 0
IsFirst archived rental z = (rental ≤ archived) ⊎ (z ≡ pos 0)

abbrev is_one : ℕ → ℕ → ℤ → Bool
is_one archived rental z = nat_le rental archived || int_eq z (pos 0)

one_decides : (archived rental : ℕ) (z : ℤ) → Decides (is_one archived rental z) (IsFirst archived rental z)
one_decides archived rental z =
    Decides-or (nat_le rental archived) (int_eq z (pos 0)) (at_most rental archived) (Decides-int_eq z (pos 0))

-- a fare that is the first of its rental finds none before it
module _ (archived rental : ℕ) where
  pub first_finds : (k : EntryKind) (z : ℤ) → cond (is_fare k) (is_one archived rental z) true ≡ true → k ≡ Fare → IsFirst archived rental z
  first_finds TopUp z is fare = absurd cc
  first_finds Fare z is fare = (one_decides archived rental z).0 is
  first_finds Refund z is fare = absurd cc
  first_finds Withdrawal z is fare = absurd cc
  first_finds Charge z is fare = absurd cc
  first_finds Credit z is fare = absurd cc

  pub finds_first : (k : EntryKind) (z : ℤ) → (k ≡ Fare → IsFirst archived rental z) → cond (is_fare k) (is_one archived rental z) true ≡ true
  finds_first TopUp z none = refl
  finds_first Fare z none = (one_decides archived rental z).1 (none refl)
  finds_first Refund z none = refl
  finds_first Withdrawal z none = refl
  finds_first Charge z none = refl
  finds_first Credit z none = refl

pub kind_of_fare : (k : EntryKind) → is_fare k ≡ true → k ≡ Fare
kind_of_fare TopUp is = absurd cc
kind_of_fare Fare is = refl
kind_of_fare Refund is = absurd cc
kind_of_fare Withdrawal is = absurd cc
kind_of_fare Charge is = absurd cc
kind_of_fare Credit is = absurd cc
