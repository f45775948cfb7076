-- What the pass over the lines of entries finds is the verdict on the table.
use Rattle.std.proofs.Common.{◌≡◌, inl, inr, ℕ, zero, suc, ℤ, pos, ◌+◌, ◌-◌, ◌<◌, ◌≤◌, ◌==◌, List, [], ◌∷◌}
use Rattle.std.proofs.Common.{◌++◌, length, map, take, Bool, true, Option, Some, None, refl, sym, ap, subst, ◌∙◌, arith, replicate}
use Rattle.std.specs.Prelude.{option_map}
use Rattle.std.specs.Bool.{Decides}
use Rattle.std.specs.List.{filter_map}
use Rattle.std.specs.Option.{IsSomeAnd}
use Rattle.std.specs.Ordering.{ordering_reverse}
use Rattle.std.specs.declared.cmp.Ordering.TheVariants.{Less, Equal}
use Rattle.std.proofs.lemmas.Bool.{and_parts, and_from}
use Rattle.std.proofs.lemmas.Bool.Decides.{Decides-eqb}
use Rattle.std.proofs.lemmas.List.{take_at}
use Rattle.std.proofs.lemmas.Option.{same_Some}
use Rattle.sqlite_value.specs.Order.{Row, row_cmp}
use Rattle.sqlite_value.proofs.OrderLemmas.{row_cmp_total}
use Rattle.sqlite_rules.specs.Lists.{Has}
use Rattle.sqlite.specs.Effect.{Database}
use Rattle.bike_ledger.specs.Entries.{Entry}
use Rattle.bike_ledger.specs.declared.entry.EntryKind.{EntryKind}
use Rattle.bike_ledger.specs.declared.entry.EntryKind.TheVariants.{TopUp, Fare, Refund, Withdrawal, Charge, Credit}
use Rattle.bike_operator.specs.declared.records.Rental.{Rental}
use Rattle.bike_operator.specs.declared.records.Closing.{Closing}
use Rattle.bike_operator.specs.Operator.{Operator, item_at, item_in, item_numbered}
use Rattle.bike_operator.specs.Counts.{open_rentals, count}
use Rattle.bike_operator.specs.Sound.{IsBooking, IsArchived, IsOfClosed, IsOfRental, is_fare}
use Rattle.bike_laws.proofs.SingleSteps.ItemLemmas.{number_of_place}
use Rattle.bike_sql.specs.View.{by_key}
use Rattle.bike_sql.proofs.OrderLemmas.{Rises, all_has}
use Rattle.bike_sql.proofs.TreeLemmas.{by_key_total}
use Rattle.bike_book.specs.Tables.{Tables, Riders, Rentals, Entries}
use Rattle.bike_schema.specs.Tables.{tables_of, IsOurs}
use Rattle.bike_readings.specs.Bounds.{IsSerial, IsStoredRentalOf, IsStoredAmount}
use Rattle.bike_readings.specs.Readings.{entry_read}
use Rattle.bike_readings.proofs.LedgerRows.{entry_reading}
use Rattle.bike_readings.specs.ReadOff.{operator_of}
use Rattle.bike_readings.specs.ReadOff.{archived_of as archived_in}
use Rattle.bike_readings.specs.Demands.{IsGoodEntry, IsOneFare, IsFirstFare}
use Rattle.bike_readings.specs.Rules.{AreInOrder, IsGoodKey, IsGoodAt, rows_below, row_under}
use Rattle.bike_readings.proofs.Places.{has_under, under_has, has_between, lesser_before}
use Rattle.bike_readings.proofs.RowRules.{some_with, some_and}
use Rattle.bike_readings.proofs.RulesLaws.{stored_in_order}
use Rattle.bike_judges.specs.declared.key.BadKey.{BadKey}
use Rattle.bike_judges.specs.Judging.{key_row}
use Rattle.bike_judges.specs.Lines.{part}
use Rattle.bike_judges.specs.Passes.{Demands}
use Rattle.bike_judges.specs.Verdicts.{EarlierGood, IsFirstFailing, IsTableVerdict}
use Rattle.bike_readings.proofs.RowRules.{below_tied}
use Rattle.bike_ledger_rules.specs.Sums.{sum_at}
use Rattle.bike_ledger_rules.specs.Entries.{entry_line, entry_test, with_fares, is_first, first_bad, IsRentalCount}
use Rattle.bike_ledger_rules.specs.Known.{has_rider, is_listed}
use Rattle.bike_ledger_rules.specs.declared.open_rentals.RentalCount.{RentalCount}
use Rattle.bike_ledger_rules.proofs.Earlier.{earlier_good}
use Rattle.bike_ledger_rules.proofs.EntryRules.{OfRental, OfAny, Booked, EntryGood, entry_decides, own}
use Rattle.bike_ledger_rules.proofs.FirstItems.{front_item, item_low, place_front, place_of, split, has_front, read_append, read_few, read_all}
use Rattle.bike_ledger_rules.proofs.FirstFares.{of_all, entries_pass, is_fare_of, fares_counted, IsFirst, first_finds, finds_first, kind_of_fare}
use Rattle.bike_ledger_rules.proofs.Folds.{entries_read, rentals_read, rental_of_row}
use Rattle.bike_ledger_rules.proofs.Once.{passing_counts, counted_passes}
use Rattle.bike_ledger_rules.proofs.RiderFolds.{AreWide}
use Rattle.bike_ledger_rules.proofs.Rows.{demanded, demands, lacking, lines_failing}
use Rattle.bike_ledger_rules.proofs.Widths.{rentals_wide, entries_wide}

-- ---- one entry

module _ (s : Operator) (e : Entry) where
  of_closed : (k : EntryKind) → OfRental s k e → IsOfClosed s e
  of_closed k it = record { row = it.row; closing = it.closing; found = it.found; closed = it.closed; rider_is = it.rider_is }

  archived_of : IsSerial e.rental → e.rental ≤ s.rentals.archived → IsArchived e.rental s.rentals
  archived_of serial high = record { low = serial.0; high = high }

  of_rental : (k : EntryKind) → IsSerial e.rental → OfAny s k e → IsOfRental s e
  of_rental k serial (inl high) = inl (archived_of serial high)
  of_rental k serial (inr it) = inr (of_closed k it)

  booking : (k : EntryKind) → IsStoredRentalOf k e.rental → IsStoredAmount k e.amount → Booked s k e → IsBooking s e k
  booking TopUp rental amount it = (rental, amount)
  booking Fare rental amount it = (of_rental Fare rental it, amount.0, amount.1)
  booking Refund rental amount it = (of_rental Refund rental it, amount)
  booking Withdrawal rental amount it = (rental, amount)
  booking Charge rental amount it = (rental, amount)
  booking Credit rental amount it = (rental, amount)

  -- it is the first fare, where it is one of a rental that is there
  abbrev IsFirstThere : EntryKind → Type 0
  IsFirstThere k = k ≡ Fare → OfRental s Fare e → IsFirstFare s e.number e.rental

  one_fare : (k : EntryKind) → IsStoredRentalOf k e.rental → Booked s k e → IsFirstThere k → IsOneFare s e k
  one_fare TopUp rental it first = tt
  one_fare Fare rental (inl high) first = inl (archived_of rental high)
  one_fare Fare rental (inr it) first =
      inr (record { row = it.row; closing = it.closing; found = it.found; closed = it.closed; fare_is = it.paid }, first refl it)
  one_fare Refund rental it first = tt
  one_fare Withdrawal rental it first = tt
  one_fare Charge rental it first = tt
  one_fare Credit rental it first = tt

  paid_of : IsOfRental s e → IsOneFare s e Fare → OfAny s Fare e
  paid_of (inl at) one = inl at.high
  paid_of (inr of) (inl at) = inl at.high
  paid_of (inr of) (inr one) =
      let at = one.0 in
      let row = same_Some at.row of.row (sym at.found ∙ of.found) in
      let closing = same_Some at.closing of.closing (sym at.closed ∙ ap (λ (r : Rental). r.closing) row ∙ of.closed) in
      inr (record {
        row = of.row;
        closing = of.closing;
        found = of.found;
        closed = of.closed;
        rider_is = of.rider_is;
        paid = at.fare_is ∙ ap (λ (c : Closing). c.fare) closing;
      })

  refunded_of : IsOfRental s e → OfAny s Refund e
  refunded_of (inl at) = inl at.high
  refunded_of (inr of) =
      inr (record { row = of.row; closing = of.closing; found = of.found; closed = of.closed; rider_is = of.rider_is; paid = tt })

  booked_of : (k : EntryKind) → IsBooking s e k → IsOneFare s e k → Booked s k e
  booked_of TopUp book one = tt
  booked_of Fare book one = paid_of book.0 one
  booked_of Refund book one = refunded_of book.0
  booked_of Withdrawal book one = tt
  booked_of Charge book one = tt
  booked_of Credit book one = tt

  -- a fare has its rental, and is the first of it, or that was archived
  first_of : (k : EntryKind) → IsOneFare s e k → k ≡ Fare → IsOneFare s e Fare
  first_of TopUp one is = absurd cc
  first_of Fare one is = one
  first_of Refund one is = absurd cc
  first_of Withdrawal one is = absurd cc
  first_of Charge one is = absurd cc
  first_of Credit one is = absurd cc

same_pos : (a b : ℕ) → pos a ≡ pos b → a ≡ b
same_pos a b e = cc

-- ---- the table

module _ (t : Tables) (up : AreInOrder t) (rentals : AreWide 10 t.rentals) (entries : AreWide 6 t.entries)
    (earlier : EarlierGood t Entries) where
  abbrev s : Operator
  s = operator_of t

  abbrev below : Row → ℕ
  below = rows_below t Entries

  abbrev under : Row → Option Row
  under = row_under t Entries

  -- ---- what is asked of each row

  -- places of rentals are numbered from 1
  abbrev rental_end : ℕ
  rental_end = length t.rentals + 1

  abbrev archived : ℕ
  archived = s.rentals.archived

  abbrev none : List ℤ
  none = replicate rental_end (pos 0)

  abbrev test : ℕ → Row → Bool
  test = entry_test s.now (open_rentals s) none t

  abbrev Asked : Row → Type 0
  Asked = Demands t Entries test

  -- how many fares each rental has before a key
  abbrev sums : Row → List ℤ
  sums key = with_fares archived none (take (below key) t.entries)

  -- how many entries stand before it, archived ones included
  abbrev before_of : Row → ℕ
  before_of key = s.entries.archived + below key

  abbrev AsksOf : Row → Entry → Type 0
  AsksOf key = EntryGood s (before_of key) (sums key)

  decides_at : (key r : Row) → Has t.entries r → Decides (test (below key) r) (IsSomeAnd (entry_read r) (AsksOf key))
  decides_at key r has =
      entry_decides t up (earlier_good t up Entries earlier Riders (omega arith)) (earlier_good t up Entries earlier Rentals (omega arith))
      rentals r (entries r has) (before_of key) (sums key)

  -- what holds of a row under a key of which it was asked
  asked_good : (key r : Row) → under key ≡ Some r → Has t.entries r → Asked key → IsSomeAnd (entry_read r) (AsksOf key)
  asked_good key r is has p = (decides_at key r has).0 (demanded t Entries test key r is p)

  -- a rental that is there has a place below the end
  record HasRental (n : ℕ) : Type 0 where
    place : ℕ
    number_is : n ≡ archived + suc place
    low : suc place < rental_end

  rental_there : (n : ℕ) (r : Rental) → item_numbered n s.rentals ≡ Some r → HasRental n
  rental_there n r found =
      let at = place_of archived n s.rentals.items r found in
      let low = at.low in
      let read : length s.rentals.items ≡ length (filter_map rental_of_row t.rentals) =
      ap (λ (rs : List Rental). length rs) (rentals_read t.rentals) in
      let rows = read_few rental_of_row t.rentals in
      record { place = at.below; number_is = at.number_is; low = omega (arith, low, read, rows) }

  -- ---- a row among those before and behind it

  module _ (key r : Row) (is : under key ≡ Some r) (before behind : List Row) (parts : t.entries ≡ before ++ r ∷ behind) where
    at : Has t.entries r × (row_cmp (take 1 r) key ≡ Equal)
    at = under_has 1 key t.entries r is

    rising : Rises (by_key_total 1) (before ++ r ∷ behind)
    rising = subst (Rises (by_key_total 1)) parts (up Entries)

    so_many : below key ≡ length before
    so_many =
        sym (below_tied 1 (take 1 r) key at.1 t.entries)
        ∙ ap (λ (rows : List Row). rows_below (record t { entries = rows }) Entries (take 1 r)) parts ∙ lesser_before 1 before r behind rising

    from_before : (xs : List Row) → Rises (by_key_total 1) (xs ++ r ∷ behind) → (x : Row) → Has xs x → by_key 1 x r ≡ Less
    from_before [] order x has = elim has [ ]
    from_before (z ∷ xs) order x (inl same) =
        ap (λ (y : Row). by_key 1 y r) same ∙ all_has (λ y. by_key 1 z y ≡ Less) (xs ++ r ∷ behind) r order.0 (has_between 1 xs r behind)
    from_before (z ∷ xs) order x (inr later) = from_before xs order.1 x later

    abbrev front : List Entry
    front = filter_map entry_read before

    abbrev back : List Entry
    back = filter_map entry_read (r ∷ behind)

    entries_are : s.entries.items ≡ front ++ back
    entries_are = entries_read t.entries ∙ ap (filter_map entry_read) parts ∙ read_append entry_read before (r ∷ behind)

    -- where all before it are asked, so many are read
    front_length : ((other : Row) → row_cmp other key ≡ Less → Asked other) → length front ≡ length before
    front_length all = read_all entry_read before each where
      low_key : (x : Row) → Has before x → row_cmp (take 1 x) key ≡ Less
      low_key x has =
          let turned = row_cmp_total.congr (take 1 r) key (take 1 x) at.1 in
          row_cmp_total.antisymm (take 1 x) key ∙ ap ordering_reverse (sym turned) ∙ sym (row_cmp_total.antisymm (take 1 x) (take 1 r))
          ∙ from_before before rising x has

      each : (x : Row) → Has before x → (e : Entry) × (entry_read x ≡ Some e)
      each x has =
          let there : Has t.entries x = subst (λ (rows : List Row). Has rows x) (sym parts) (has_front before (r ∷ behind) x has) in
          let good = asked_good (take 1 x) x (has_under 1 t.entries x (up Entries) there) there (all (take 1 x) (low_key x has)) in
          let it = some_with (AsksOf (take 1 x)) (entry_read x) good in
          (it.value, it.value_is)

    rows_before : take (below key) t.entries ≡ before
    rows_before = (λ i. take (so_many i) (parts i)) ∙ take_at before (r ∷ behind) (length before) refl

    sum_is : (place : ℕ) → suc place < rental_end → sum_at (sums key) (suc place) ≡ pos (count (is_fare_of (archived + suc place)) front)
    sum_is place low =
        ap (λ (rows : List Row). sum_at (with_fares archived none rows) (suc place)) rows_before ∙ fares_counted archived rental_end before place low

    -- with no fare of its rental before it it is the first, and the other way round
    module _ (e : Entry) (number : e.number ≡ before_of key + 1) (there : HasRental e.rental) where
      abbrev paid : Entry → Bool
      paid = is_fare_of (archived + suc there.place)

      place_is : e.rental - archived ≡ suc there.place
      place_is = let is = there.number_is in omega (arith, is)

      none_before : ((other : Row) → row_cmp other key ≡ Less → Asked other) → sum_at (sums key) (e.rental - archived) ≡ pos 0
          → IsFirstFare s e.number e.rental
      none_before all nothing other x less found fare same =
          let few = front_length all in
          let many = so_many in
          let found_here = sym (ap (item_in (other - s.entries.archived)) entries_are) ∙ found in
          let here = place_front (other - s.entries.archived) front back x found_here (omega (arith, less, number, many, few)) in
          let passes = and_from (x.rental == archived + suc there.place) (is_fare x.kind)
          ((Decides-eqb x.rental (archived + suc there.place)).1 (same ∙ there.number_is)) (ap is_fare fare) in
          let some = passing_counts paid front here.0 (record { item = x; found = here.1; passes = passes }) in
          let none = same_pos (count paid front) 0 (sym (sum_is there.place there.low) ∙ ap (sum_at (sums key)) (sym place_is) ∙ nothing) in
          omega (arith, some, none)

      before_none : IsFirstFare s e.number e.rental → sum_at (sums key) (e.rental - archived) ≡ pos 0
      before_none first = ap (sum_at (sums key)) place_is ∙ sum_is there.place there.low ∙ ap pos (go (count paid front) refl) where
        go : (n : ℕ) → count paid front ≡ n → n ≡ 0
        go zero so = refl
        go (suc n) so =
            let it = counted_passes paid front (omega (arith, so)) in
            let x = it.1.item in
            let tests = and_parts (x.rental == archived + suc there.place) (is_fare x.kind) it.1.passes in
            let place = item_low it.0 front x it.1.found in
            let few = read_few entry_read before in
            let many = so_many in
            let found = number_of_place it.0 s.entries x (ap (item_at it.0) entries_are ∙ front_item it.0 front back x it.1.found) in
            let same = (Decides-eqb x.rental (archived + suc there.place)).0 tests.0 in
            absurd (first (s.entries.archived + suc it.0) x (omega (arith, place, few, many, number)) found (kind_of_fare x.kind tests.1) (same ∙ sym there.number_is))

  -- ---- a key

  good_row : (key r : Row) → under key ≡ Some r → ((other : Row) → row_cmp other key ≡ Less → Asked other) → Asked key
      → IsSomeAnd (entry_read r) (IsGoodEntry s (below key))
  good_row key r is all p =
      let has = (under_has 1 key t.entries r is).0 in
      let parts = split t.entries r has in
      let it = some_with (AsksOf key) (entry_read r) (asked_good key r is has p) in
      let e = it.value in
      let number = it.fact.number in
      let stored = (entry_reading.sound r e it.value_is).1 in
      some_and (IsGoodEntry s (below key)) (entry_read r) e it.value_is (record {
        number_is = number.number_is;
        room = number.room;
        good = record {
          number_is = refl;
          rider_is = number.rider_is;
          booking = booking s e e.kind stored.rental stored.amount it.fact.booked;
          by_now = number.by_now;
        };
        fare = one_fare s e e.kind stored.rental it.fact.booked (λ kind of.
            let there = rental_there e.rental of.row of.found in
            none_before key r is parts.0 parts.1 parts.2 e number.number_is there all
            (nothing e there (first_finds archived e.rental e.kind _ it.fact.first kind)));
      })
    where
      nothing : (e : Entry) → HasRental e.rental → IsFirst archived e.rental (sum_at (sums key) (e.rental - archived))
          → sum_at (sums key) (e.rental - archived) ≡ pos 0
      nothing e there (inl high) = let is = there.number_is in absurd (omega (arith, is, high))
      nothing e there (inr none) = none

  good_key : (key : Row) → ((other : Row) → row_cmp other key ≡ Less → Asked other) → Asked key → IsGoodKey t Entries key
  good_key key all p = go (under key) refl where
    go : (o : Option Row) → under key ≡ o → IsGoodAt t s Entries key (below key) o
    go None is = tt
    go (Some r) is = good_row key r is all p

  row_good : (key r : Row) → under key ≡ Some r → IsSomeAnd (entry_read r) (IsGoodEntry s (below key)) → Asked key
  row_good key r is h =
      let has = (under_has 1 key t.entries r is).0 in
      let parts = split t.entries r has in
      let it = some_with (IsGoodEntry s (below key)) (entry_read r) h in
      let e = it.value in
      let first : is_first archived (sums key) e ≡ true =
      finds_first archived e.rental e.kind _ (λ kind. none key r is parts.0 parts.1 parts.2 e it.fact.number_is (first_of s e e.kind it.fact.fare kind)) in
      demands t Entries test key r is ((decides_at key r has).1 (some_and (AsksOf key) (entry_read r) e it.value_is (record {
        number = record { number_is = it.fact.number_is; room = it.fact.room; rider_is = it.fact.good.rider_is; by_now = it.fact.good.by_now };
        booked = booked_of s e e.kind it.fact.good.booking it.fact.fare;
        first = first;
      })))
    where
      none : (key r : Row) (is : under key ≡ Some r) (before behind : List Row) (parts : t.entries ≡ before ++ r ∷ behind) (e : Entry)
          → e.number ≡ before_of key + 1 → IsOneFare s e Fare → IsFirst archived e.rental (sum_at (sums key) (e.rental - archived))
      none key r is before behind parts e number (inl at) = inl at.high
      none key r is before behind parts e number (inr one) =
          inr (before_none key r is before behind parts e number (rental_there e.rental one.0.row one.0.found) one.1)

  key_good : (key : Row) → IsGoodKey t Entries key → Asked key
  key_good key good = go (under key) refl good where
    go : (o : Option Row) → under key ≡ o → IsGoodAt t s Entries key (below key) o → Asked key
    go None is h = lacking t Entries test key is
    go (Some r) is h = row_good key r is h

  pub entries_verdict : (v : Option Row) → IsFirstFailing t Entries Asked v → IsTableVerdict t Entries v
  entries_verdict None all = λ key. good_key key (λ other low. all other) (all key)
  entries_verdict (Some k) it = record {
    bad = λ good. it.bad (key_good k good);
    own = it.own;
    before = λ other low. good_key other (λ less under. it.before less (row_cmp_total.trans less other k under low)) (it.before other low);
  }

-- ---- the pass over the lines

line_begins : (t : Tables) (r : Row) → length r ≡ 6 → take 1 (entry_line t r) ≡ take 1 r
line_begins t [] wide = absurd cc
line_begins t (v ∷ r) wide = refl

module _ (db : Database) (ours : IsOurs db) (moment : ℕ) (now : moment ≡ (operator_of (tables_of db)).now)
    (rentals : RentalCount) (are : IsRentalCount (tables_of db) rentals) (fares : List ℤ) (nothing : fares ≡ replicate rentals.next (pos 0))
    (riders : List (Option (Unit {0}))) (riders_are : is_listed riders ≡ has_rider (tables_of db))
    (archived : ℕ × ℕ × ℕ) (told : archived ≡ archived_in (tables_of db).books) where
  abbrev t : Tables
  t = tables_of db

  abbrev lines : List Row
  lines = map (entry_line t) t.entries

  -- what the judge finds from what it knows
  abbrev found_by : (ℕ → Bool) → ℕ → ℕ → List ℤ → ℕ × ℕ × ℕ → Option Row
  found_by riders now riding fares archived = first_bad riders now riding archived.2 fares archived.1 lines

  abbrev stored : Operator
  stored = operator_of t

  abbrev nothing_paid : List ℤ
  nothing_paid = replicate (length t.rentals + 1) (pos 0)

  nothing_is : fares ≡ nothing_paid
  nothing_is = nothing ∙ ap (λ (n : ℕ). replicate n (pos 0)) are.next_is

  shows : (r : Row) → Has t.entries r → part 0 6 (entry_line t r) ≡ r
  shows r has = own t (rentals_wide db ours.has) r (entries_wide db ours.has r has)

  pub entries_judged : EarlierGood t Entries → (found : Option BadKey)
      → ((v : Option Row) → found_by (is_listed riders) moment rentals.riding fares archived ≡ v → option_map key_row found ≡ v)
      → IsTableVerdict t Entries (option_map key_row found)
  entries_judged earlier found says =
      entries_verdict t (stored_in_order db) (rentals_wide db ours.has) (entries_wide db ours.has) earlier (option_map key_row found)
      (lines_failing Entries entry_line (of_all (has_rider t) stored.now (open_rentals stored) stored.rentals.archived stored.entries.archived nothing_paid (entry_line t) t.entries) 6 line_begins
      db (entries_wide db ours.has) found (λ v is.
      says v ((λ i. found_by (riders_are i) (now i) (are.riding_is i) (nothing_is i) (told i))
      ∙ entries_pass (has_rider t) stored.now (open_rentals stored) stored.rentals.archived stored.entries.archived nothing_paid (entry_line t) t.entries shows ∙ is)))
