-- What the entries of rentals come to by their numbers is what the ledger says, and rentals are asked the same by what is held in memory.
use Rattle.std.proofs.Common.{◌≡◌, ℕ, ℤ, pos, suc, ◌+◌, ◌-◌, ◌<◌, ◌==◌, ◌&&◌, List, [], ◌∷◌, length}
use Rattle.std.proofs.Common.{filter, replicate, Bool, true, false, cond, Option, Some, None, refl, sym, ap, ap₂, subst, ◌∙◌, arith}
use Rattle.std.specs.Prelude.{option_map, take}
use Rattle.std.specs.List.{fold, filter_map}
use Rattle.std.proofs.lemmas.Bool.Decides.{Decides-eqb}
use Rattle.std.proofs.lemmas.List.{length-map}
use Rattle.sqlite_value.specs.Order.{Row}
use Rattle.sqlite.specs.Effect.{Database}
use Rattle.bike_ledger.specs.Entries.{Entry}
use Rattle.bike_ledger.specs.Ledger.{given_back, refunded_of, total}
use Rattle.bike_operator.specs.declared.records.Rental.{Rental}
use Rattle.bike_operator.specs.Counts.{count}
use Rattle.bike_operator.specs.Sound.{is_fare, fares_of}
use Rattle.bike_book.specs.Tables.{Tables, Rentals}
use Rattle.bike_schema.specs.Tables.{tables_of}
use Rattle.bike_readings.specs.Readings.{entry_read, rental_read}
use Rattle.bike_readings.specs.ReadOff.{operator_of}
use Rattle.bike_readings.specs.Rules.{row_under, rows_below}
use Rattle.bike_readings.proofs.Fares.{is_fare_of}
use Rattle.bike_readings.proofs.Places.{under_has, lesser_fewer}
use Rattle.bike_readings.proofs.RulesLaws.{stored_in_order}
use Rattle.bike_judges.specs.declared.key.BadKey.{BadKey}
use Rattle.bike_judges.specs.Judging.{key_row}
use Rattle.bike_judges.specs.Passes.{first_failing, OfRow, Demands}
use Rattle.bike_judges.specs.Verdicts.{IsFirstFailing}
use Rattle.bike_readings.proofs.RowRules.{below_tied}
use Rattle.bike_judges.proofs.LineLaw.{rows_verdict}
use Rattle.bike_ledger_rules.specs.declared.known.Names.{Names}
use Rattle.bike_ledger_rules.specs.declared.rental_entries.RentalEntries.{RentalEntries}
use Rattle.bike_ledger_rules.specs.Lines.{FindsFailing, first_column}
use Rattle.bike_ledger_rules.specs.Sums.{sum_at, with_added}
use Rattle.bike_ledger_rules.specs.Known.{Known, has_station, known_in, held_in}
use Rattle.bike_ledger_rules.specs.Rentals.{names_test, ends_test, is_booked, fare_count, refund_sum, fares_held, refunds_held, passes, rental_test, held_test, with_entry, with_line, AreSums}
use Rattle.bike_ledger_rules.proofs.Folds.{entries_read}
use Rattle.bike_ledger_rules.proofs.Rows.{failing_same}
use Rattle.bike_ledger_rules.proofs.SumLemmas.{with_all, fold_read, sum_of_entries, count_of_items, place_number}

-- ---- the sums of all entries

abbrev fare_in : Entry → ℤ
fare_in e = cond (is_fare e.kind) (pos 1) (pos 0)

abbrev refund_in : Entry → ℤ
refund_in e = given_back e.kind e.amount

turned : (a b : Bool) → (a && b) ≡ (b && a)
turned true true = refl
turned true false = refl
turned false true = refl
turned false false = refl

-- so many fares, counted by the owner first
fares_counted : (number : ℕ) (es : List Entry)
    → pos (count (λ e. (e.rental == number) && is_fare e.kind) es) ≡ pos (length (fares_of number es))
fares_counted number es =
    (λ i. pos (count (λ (e : Entry). turned (e.rental == number) (is_fare e.kind) i) es))
    ∙ ap pos (sym (length-map (filter (is_fare_of number) es) (λ e. e.amount)))

module _ (t : Tables) where
  abbrev es : List Entry
  es = filter_map entry_read t.entries

  -- from nothing on
  module _ (next : ℕ) (next_is : next ≡ length t.rentals + 1) (none : RentalEntries) (archived_is : none.archived ≡ (operator_of t).rentals.archived)
      (fares : none.fares ≡ replicate next (pos 0)) (refunds : none.refunds ≡ replicate next (pos 0)) where
    abbrev all_of : RentalEntries
    all_of = fold with_entry none es

    -- the place of its rental
    abbrev owner : Entry → ℕ
    owner e = e.rental - none.archived

    all : fold with_line none t.entries ≡ all_of
    all = fold_read entry_read with_entry t.entries none

    all_archived : (xs : List Entry) (a : RentalEntries) → (fold with_entry a xs).archived ≡ a.archived
    all_archived [] a = refl
    all_archived (x ∷ xs) a = all_archived xs (with_entry a x)

    -- with the places behind those that were archived, which stay so many
    all_fares : (xs : List Entry) (a : RentalEntries) → a.archived ≡ none.archived → (fold with_entry a xs).fares ≡ with_all owner fare_in a.fares xs
    all_fares [] a is = refl
    all_fares (x ∷ xs) a is =
        all_fares xs (with_entry a x) is ∙ ap (λ (n : ℕ). with_all owner fare_in (with_added a.fares (x.rental - n) (fare_in x)) xs) is

    all_refunds : (xs : List Entry) (a : RentalEntries) → a.archived ≡ none.archived → (fold with_entry a xs).refunds ≡ with_all owner refund_in a.refunds xs
    all_refunds [] a is = refl
    all_refunds (x ∷ xs) a is =
        all_refunds xs (with_entry a x) is ∙ ap (λ (n : ℕ). with_all owner refund_in (with_added a.refunds (x.rental - n) (refund_in x)) xs) is

    -- an entry is of the place just where it is of the number there
    at_place : (below : ℕ) (e : Entry) → (owner e == suc below) ≡ (e.rental == none.archived + suc below)
    at_place below e = place_number e.rental none.archived below

    -- THE SUMS of all entries are those of the ledger
    pub sums_are : AreSums t (fold with_line none t.entries)
    sums_are = record {
      archived_is = ap (λ (a : RentalEntries). a.archived) all ∙ all_archived es none ∙ archived_is;
      fares = λ below low.
          let number = none.archived + suc below in
          ap (λ (a : RentalEntries). sum_at a.fares (suc below)) all ∙ ap (λ (sums : List ℤ). sum_at sums (suc below)) (all_fares es none refl)
          ∙ ap (λ (sums : List ℤ). sum_at (with_all owner fare_in sums es) (suc below)) fares
          ∙ count_of_items owner (λ e. is_fare e.kind) next es (suc below) (omega (arith, low, next_is))
          ∙ (λ i. pos (count (λ (e : Entry). at_place below e i && is_fare e.kind) es)) ∙ fares_counted number es
          ∙ ap (λ (xs : List Entry). pos (length (fares_of number xs))) (sym (entries_read t.entries))
          ∙ ap (λ (n : ℕ). fare_count t (n + suc below)) (sym held_archived);
      refunds = λ below low.
          let number = none.archived + suc below in
          ap (λ (a : RentalEntries). sum_at a.refunds (suc below)) all ∙ ap (λ (sums : List ℤ). sum_at sums (suc below)) (all_refunds es none refl)
          ∙ ap (λ (sums : List ℤ). sum_at (with_all owner refund_in sums es) (suc below)) refunds
          ∙ sum_of_entries owner refund_in next es (suc below) (omega (arith, low, next_is))
          ∙ (λ i. total (λ (e : Entry). cond (at_place below e i) (refund_in e) (pos 0)) es)
          ∙ ap (refunded_of number) (sym (entries_read t.entries)) ∙ ap (λ (n : ℕ). refund_sum t (n + suc below)) (sym held_archived);
    } where
      held_archived : (fold with_line none t.entries).archived ≡ none.archived
      held_archived = ap (λ (a : RentalEntries). a.archived) all ∙ all_archived es none

  -- ---- what is asked by them

  module _ (now : ℕ) (names : Names) (known : held_in names ≡ known_in t) (a : RentalEntries) (are : AreSums t a) where
    abbrev held : ℕ → Row → Bool
    held = held_test now names a

    abbrev rule : ℕ → Row → Bool
    rule = rental_test now t

    -- behind those that were archived stand so many and this one
    same_test : (n : ℕ) (r : Row) → n < length t.rentals → held n r ≡ rule n r
    same_test n r low =
        ap (λ (k : Known). passes k now (fares_held a) (refunds_held a) (a.archived + n) (rental_read r)) known ∙ go (rental_read r)
        ∙ ap (λ (m : ℕ). passes (known_in t) now (fare_count t) (refund_sum t) (m + n) (rental_read r)) are.archived_is
      where
        place : (e : ℕ × Rental × ℤ) → e.0 ≡ a.archived + n + 1 → e.0 - a.archived ≡ suc n
        place e is = omega (arith, is)

        number : (e : ℕ × Rental × ℤ) → e.0 ≡ a.archived + n + 1 → a.archived + suc n ≡ e.0
        number e is = omega (arith, is)

        by : (e : ℕ × Rental × ℤ) (next : Bool) → (next ≡ true → e.0 ≡ a.archived + n + 1)
            → (next && is_booked (fares_held a e.0) (refunds_held a e.0) e.1 e.2)
            ≡ (next && is_booked (fare_count t e.0) (refund_sum t e.0) e.1 e.2)
        by e false within = refl
        by e true within =
            let at = place e (within refl) in
            let own = number e (within refl) in
            ap₂ (λ (x y : ℤ). is_booked x y e.1 e.2)
            (ap (sum_at a.fares) at ∙ are.fares n (omega (arith, low)) ∙ ap (fare_count t) own)
            (ap (sum_at a.refunds) at ∙ are.refunds n (omega (arith, low)) ∙ ap (refund_sum t) own)

        go : (o : Option (ℕ × Rental × ℤ)) → passes (known_in t) now (fares_held a) (refunds_held a) (a.archived + n) o
            ≡ passes (known_in t) now (fare_count t) (refund_sum t) (a.archived + n) o
        go None = refl
        go (Some e) =
            ap (λ (books : Bool). names_test (known_in t) e && (ends_test (has_station t) now e && books))
            (by e (e.0 == a.archived + n + 1) (λ next. (Decides-eqb e.0 (a.archived + n + 1)).0 next))

    below : (key r : Row) → row_under t Rentals key ≡ Some r → rows_below t Rentals key < length t.rentals
    below key r is =
        let there = under_has 1 key t.rentals r is in
        subst (λ (n : ℕ). n < length t.rentals) (below_tied 1 (take 1 r) key there.1 t.rentals) (lesser_fewer 1 t.rentals r there.0)

    to : (key : Row) → Demands t Rentals held key → Demands t Rentals rule key
    to key = go (rows_below t Rentals key) (row_under t Rentals key) (below key) where
      go : (n : ℕ) (o : Option Row) → ((r : Row) → o ≡ Some r → n < length t.rentals) → OfRow held n o → OfRow rule n o
      go n None low h = tt
      go n (Some r) low h = sym (same_test n r (low r refl)) ∙ h

    back : (key : Row) → Demands t Rentals rule key → Demands t Rentals held key
    back key = go (rows_below t Rentals key) (row_under t Rentals key) (below key) where
      go : (n : ℕ) (o : Option Row) → ((r : Row) → o ≡ Some r → n < length t.rentals) → OfRow rule n o → OfRow held n o
      go n None low h = tt
      go n (Some r) low h = same_test n r (low r refl) ∙ h

    pub rule_fails : (v : Option Row) → IsFirstFailing t Rentals (Demands t Rentals held) v → IsFirstFailing t Rentals (Demands t Rentals rule) v
    rule_fails = failing_same t Rentals (Demands t Rentals held) (Demands t Rentals rule) to back

-- what fails first by what is held in memory fails the rule first
pub rentals_failing : (db : Database) (now : ℕ) (names : Names) → held_in names ≡ known_in (tables_of db)
    → (a : RentalEntries) → AreSums (tables_of db) a → (found : Option BadKey)
    → ((v : Option Row) → first_failing (held_test now names a) first_column 0 (tables_of db).rentals ≡ v → option_map key_row found ≡ v)
    → FindsFailing Rentals (rental_test now) db found
rentals_failing db now names known a are found says =
    let t = tables_of db in
    rule_fails t now names known a are (option_map key_row found)
    (rows_verdict t Rentals (stored_in_order db) (held_test now names a) first_column (λ row has. refl) (option_map key_row found)
    (sym (says (first_failing (held_test now names a) first_column 0 t.rentals) refl)))
