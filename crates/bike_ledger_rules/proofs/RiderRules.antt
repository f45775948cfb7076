-- A rider's row passes with the sums of all entries and the counts of all open rentals exactly where he is good.
use Rattle.std.proofs.Common.{◌≡◌, ℕ, zero, suc, ℤ, pos, ◌+◌, ◌-◌, ◌+ℤ◌, ◌<◌, ◌≤◌, ◌==◌, ◌&&◌, List, Bool, Option, Some, None, refl, sym, ap, subst, ◌∙◌, arith, replicate}
use Rattle.std.specs.Prelude.{nat_lt, int_le}
use Rattle.std.specs.Bool.{Decides}
use Rattle.std.specs.List.{fold}
use Rattle.std.specs.Option.{IsSomeAnd}
use Rattle.std.specs.Ordering.{int_eq}
use Rattle.std.proofs.lemmas.Bool.{and_parts, and_from}
use Rattle.std.proofs.lemmas.Bool.Decides.{Decides-int_eq, Decides-eqb, Decides-ltb, Decides-and, Decides-like}
use Rattle.std.proofs.lemmas.Int.{ints}
use Rattle.sqlite_value.specs.Order.{Row}
use Rattle.sqlite_rules.specs.Lists.{Has}
use Rattle.sqlite.specs.Effect.{Database}
use Rattle.bike_ledger.specs.Ledger.{credit, balance_of}
use Rattle.bike_operator.specs.declared.limits.TheConstants.{MOST_RIDERS}
use Rattle.bike_operator.specs.declared.records.Rental.{Rental}
use Rattle.bike_operator.specs.Operator.{Operator, Rider, item_in}
use Rattle.bike_operator.specs.Counts.{is_open, count}
use Rattle.bike_operator.specs.Sound.{IsSumOf, IsPlanOrNone}
use Rattle.bike_laws.proofs.SingleSteps.ItemLemmas.{number_of_place}
use Rattle.bike_book.specs.Tables.{Tables, Plans, Riders}
use Rattle.bike_book.specs.declared.columns.plans.TheConstants as plans
use Rattle.bike_book.specs.declared.columns.riders.TheConstants as riders
use Rattle.bike_schema.specs.Tables.{tables_of, IsOurs}
use Rattle.bike_readings.specs.Bounds.{IsNumbered}
use Rattle.bike_readings.specs.Readings.{rider_read}
use Rattle.bike_readings.proofs.LedgerRows.{rider_reading}
use Rattle.bike_readings.specs.ReadOff.{operator_of}
use Rattle.bike_readings.specs.Demands.{IsRiding, IsGoodRider}
use Rattle.bike_readings.specs.Rules.{AreInOrder, IsGoodRow}
use Rattle.bike_readings.proofs.RulesLaws.{stored_in_order}
use Rattle.bike_judges.specs.declared.key.BadKey.{BadKey}
use Rattle.bike_judges.specs.Passes.{Demands}
use Rattle.bike_judges.specs.Sums.{is_sum_of}
use Rattle.bike_judges.specs.Verdicts.{JudgesTable, IsFirstFailing, IsTableVerdict}
use Rattle.bike_judges.proofs.SumLaws.{sum_decides}
use Rattle.bike_ledger_rules.specs.Lines.{FindsFailing}
use Rattle.bike_ledger_rules.specs.Sums.{sum_at}
use Rattle.bike_ledger_rules.specs.Riders.{with_credit, with_ride, rider_line, has_own_plan, rider_holds, rider_test, AreBelow}
use Rattle.bike_ledger_rules.proofs.Earlier.{AreGood, earlier_good}
use Rattle.bike_ledger_rules.proofs.Once.{Passes, AreOnce, counted_once, once_counted}
use Rattle.bike_ledger_rules.proofs.RiderFolds.{AreWide}
use Rattle.bike_ledger_rules.proofs.RiderLines.{spelled, plan_decides}
use Rattle.bike_ledger_rules.proofs.Rows.{demanded, demands, lacking, verdict_of}
use Rattle.bike_ledger_rules.proofs.SumLemmas.{sum_of_entries, count_of_items}
use Rattle.bike_ledger_rules.proofs.Widths.{plans_wide, riders_wide}

-- ---- one open rental

-- an open rental of the rider
abbrev is_his : ℕ → Rental → Bool
is_his rider r = (r.rider == rider) && is_open r

module _ (s : Operator) (rider : ℕ) where
  abbrev RidesOnce : Type 0
  RidesOnce = (a b : ℕ) → IsRiding s rider a → IsRiding s rider b → a ≡ b

  riding_at : (a : ℕ) → Passes (is_his rider) s.rentals.items a → IsRiding s rider (s.rentals.archived + suc a)
  riding_at a it =
      let parts = and_parts (it.item.rider == rider) (is_open it.item) it.passes in
      record {
        row = it.item;
        found = number_of_place a s.rentals it.item it.found;
        not_closed = parts.1;
        rider_is = (Decides-eqb it.item.rider rider).0 parts.0;
      }

  -- the place of an open rental, from 0
  record IsPlaced (number : ℕ) : Type 0 where
    place : ℕ
    number_is : number - s.rentals.archived ≡ suc place
    passes : Passes (is_his rider) s.rentals.items place

  placed : (number : ℕ) → IsRiding s rider number → IsPlaced number
  placed number it = go (number - s.rentals.archived) refl it.found where
    go : (k : ℕ) → number - s.rentals.archived ≡ k → item_in k s.rentals.items ≡ Some it.row → IsPlaced number
    go zero e found = absurd cc
    go (suc k) e found = record {
      place = k;
      number_is = e;
      passes = record {
        item = it.row;
        found = found;
        passes = and_from (it.row.rider == rider) (is_open it.row) ((Decides-eqb it.row.rider rider).1 it.rider_is) it.not_closed;
      };
    }

  once_rides : AreOnce (is_his rider) s.rentals.items → RidesOnce
  once_rides once a b p q =
      let x = placed a p in
      let y = placed b q in
      let same = once x.place y.place x.passes y.passes in
      let first = x.number_is in
      let second = y.number_is in
      omega (arith, same, first, second)

  rides_once : RidesOnce → AreOnce (is_his rider) s.rentals.items
  rides_once once a b p q =
      let same = once (s.rentals.archived + suc a) (s.rentals.archived + suc b) (riding_at a p) (riding_at b q) in omega (arith, same)

-- a count is at most 1
few : (z : ℤ) (n : ℕ) → z ≡ pos n → Decides (int_le z (pos 1)) (n ≤ 1)
few z n is = (λ e. grind (arith, ints, is, e), λ h. grind (arith, ints, is, h))

-- ---- the row of a rider

-- The plans are good, rows are as wide as their tables, and the riders' numbers are below this.
pub record AreReady (t : Tables) (up : AreInOrder t) (end : ℕ) : Type 0 where
  pub good_plans : AreGood t up Plans
  pub wide_plans : AreWide plans.COLUMNS t.plans
  pub wide_riders : AreWide riders.COLUMNS t.riders
  pub below : AreBelow end t.riders

module _ (t : Tables) (up : AreInOrder t) (end : ℕ) (are : AreReady t up end) where
  abbrev s : Operator
  s = operator_of t

  abbrev archived : ℕ
  archived = s.entries.archived

  -- the sums and counts of riders with lesser numbers
  abbrev balances : List ℤ
  balances = fold with_credit (replicate end (pos 0)) s.entries.items

  abbrev rides : List ℤ
  rides = fold with_ride (replicate end (pos 0)) s.rentals.items

  abbrev test : ℕ → Row → Bool
  test n row = rider_test archived balances rides n (rider_line t row)

  -- a rider who was read
  module _ (n : ℕ) (row : Row) (has : Has t.riders row) (e : ℕ × Rider × ℤ) (is : rider_read row ≡ Some e) where
    low : e.0 < end
    low = are.below row e has is

    balance : sum_at balances e.0 ≡ balance_of e.0 s.entries.items
    balance = sum_of_entries (λ x. x.rider) (λ x. credit x.kind x.amount) end s.entries.items e.0 low

    count_is : sum_at rides e.0 ≡ pos (count (is_his e.0) s.rentals.items)
    count_is = count_of_items (λ r. r.rider) is_open end s.rentals.items e.0 low

    number : IsNumbered e.0
    number = (rider_reading.sound row e is).1.good_number

    abbrev room : Bool
    room = nat_lt n MOST_RIDERS

    abbrev plan : Bool
    plan = has_own_plan e.1.plan (rider_line t row)

    abbrev sum : Bool
    sum = is_sum_of archived e.1.before

    abbrev his_balance : Bool
    his_balance = int_eq e.2 (e.1.before +ℤ sum_at balances e.0)

    abbrev rides_one : Bool
    rides_one = int_le (sum_at rides e.0) (pos 1)

    abbrev Balanced : Type 0
    Balanced = IsSumOf archived e.1.before × (e.2 ≡ e.1.before +ℤ sum_at balances e.0)

    abbrev Asked : Type 0
    Asked = (n < MOST_RIDERS) × (IsPlanOrNone s e.1.plan × (Balanced × (count (is_his e.0) s.rentals.items ≤ 1)))

    good_of : Asked → IsGoodRider s n e
    good_of h = record {
      room = h.0;
      good = record { low = number.0; high = number.1; plan = h.1.0; before = h.1.1.0.0 };
      balance_is = h.1.1.0.1 ∙ ap (λ (z : ℤ). e.1.before +ℤ z) balance;
      riding_once = once_rides s e.0 (counted_once (is_his e.0) s.rentals.items h.1.1.1);
    }

    of_good : IsGoodRider s n e → Asked
    of_good g = (
      g.room,
      (
        g.good.plan,
        (
          (g.good.before, g.balance_is ∙ ap (λ (z : ℤ). e.1.before +ℤ z) (sym balance)),
          once_counted (is_his e.0) s.rentals.items (rides_once s e.0 g.riding_once),
        ),
      ),
    )

    reads_rider : Decides (rider_holds archived balances rides n (rider_line t row) (Some e)) (IsGoodRider s n e)
    reads_rider =
        Decides-like (room && (plan && ((sum && his_balance) && rides_one))) good_of of_good
        (Decides-and room (plan && ((sum && his_balance) && rides_one)) (Decides-ltb n MOST_RIDERS)
        (Decides-and plan ((sum && his_balance) && rides_one) (plan_decides t up are.good_plans are.wide_plans row (are.wide_riders row has) e is)
        (Decides-and (sum && his_balance) rides_one
        (Decides-and sum his_balance (sum_decides archived e.1.before) (Decides-int_eq e.2 (e.1.before +ℤ sum_at balances e.0)))
        (few (sum_at rides e.0) (count (is_his e.0) s.rentals.items) count_is))))

  rider_decides : (n : ℕ) (row : Row) → Has t.riders row → Decides (test n row) (IsGoodRow t s n Riders row)
  rider_decides n row has =
      subst (λ (o : Option (ℕ × Rider × ℤ)). Decides (rider_holds archived balances rides n (rider_line t row) o) (IsSomeAnd (rider_read row) (IsGoodRider s n)))
      (sym (spelled t are.wide_riders row has)) (go (rider_read row) refl)
    where
      go : (o : Option (ℕ × Rider × ℤ)) → rider_read row ≡ o
          → Decides (rider_holds archived balances rides n (rider_line t row) o) (IsSomeAnd o (IsGoodRider s n))
      go None is = (λ e. absurd cc, λ h. absurd h)
      go (Some e) is = reads_rider n row has e is

  pub riders_verdict : (v : Option Row) → IsFirstFailing t Riders (Demands t Riders test) v → IsTableVerdict t Riders v
  riders_verdict = verdict_of t Riders (λ key. tt) (Demands t Riders test) (record {
    good = λ key r is has h. (rider_decides _ r has).0 (demanded t Riders test key r is h);
    from = λ key r is has h. demands t Riders test key r is ((rider_decides _ r has).1 h);
    none = λ key is. lacking t Riders test key is;
  })

module _ (db : Database) (ours : IsOurs db) (end : ℕ) (below : AreBelow end (tables_of db).riders) where
  abbrev stored : Operator
  stored = operator_of (tables_of db)

  abbrev all_balances : List ℤ
  all_balances = fold with_credit (replicate end (pos 0)) stored.entries.items

  abbrev all_rides : List ℤ
  all_rides = fold with_ride (replicate end (pos 0)) stored.rentals.items

  abbrev Finds : ℕ → List ℤ → List ℤ → Option BadKey → Type 0
  Finds archived sums counts = FindsFailing Riders (λ t n row. rider_test archived sums counts n (rider_line t row)) db

  pub riders_judged : (archived : ℕ) → archived ≡ stored.entries.archived → (sums : List ℤ) → sums ≡ all_balances
      → (counts : List ℤ) → counts ≡ all_rides → (found : Option BadKey) → Finds archived sums counts found → JudgesTable Riders db found
  riders_judged archived archived_is sums sums_are counts counts_are found it earlier =
      riders_verdict (tables_of db) (stored_in_order db) end (record {
        good_plans = earlier_good (tables_of db) (stored_in_order db) Riders earlier Plans (omega arith);
        wide_plans = plans_wide db ours.has;
        wide_riders = riders_wide db ours.has;
        below = below;
      }) _
      (subst (λ (n : ℕ). Finds n all_balances all_rides found) archived_is
      (subst (λ (zs : List ℤ). Finds archived zs all_rides found) sums_are
      (subst (λ (zs : List ℤ). Finds archived sums zs found) counts_are it)))
