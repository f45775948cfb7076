-- What a pass over rentals finds is the verdict on the table.
use Rattle.std.proofs.Common.{◌≡◌, ℕ, ℤ, ◌+◌, ◌&&◌, Bool, Option, Some, None, refl, subst, arith}
use Rattle.std.specs.Prelude.{option_map}
use Rattle.std.specs.Bool.{Decides}
use Rattle.std.specs.Option.{IsSomeAnd}
use Rattle.std.proofs.lemmas.Bool.Decides.{Decides-and, Decides-like}
use Rattle.sqlite_value.specs.Order.{Row}
use Rattle.sqlite.specs.Effect.{Database}
use Rattle.bike_operator.specs.declared.records.Rental.{Rental}
use Rattle.bike_operator.specs.declared.records.Closing.{Closing}
use Rattle.bike_operator.specs.Operator.{Operator}
use Rattle.bike_operator.specs.Sound.{IsOpenOrClosed}
use Rattle.bike_book.specs.Tables.{Tables, Plans, Stations, Bikes, Riders, Rentals}
use Rattle.bike_schema.specs.Tables.{tables_of}
use Rattle.bike_readings.specs.Bounds.{IsOpenOrStored}
use Rattle.bike_readings.specs.Readings.{rental_read}
use Rattle.bike_readings.proofs.LedgerRows.{rental_reading}
use Rattle.bike_readings.specs.ReadOff.{operator_of}
use Rattle.bike_readings.specs.Demands.{IsGoodRental}
use Rattle.bike_readings.specs.Rules.{AreInOrder, rows_below}
use Rattle.bike_readings.proofs.RulesLaws.{stored_in_order}
use Rattle.bike_judges.specs.declared.key.BadKey.{BadKey}
use Rattle.bike_judges.specs.Judging.{key_row}
use Rattle.bike_judges.specs.Passes.{Demands}
use Rattle.bike_judges.specs.Verdicts.{EarlierGood, IsFirstFailing, IsTableVerdict}
use Rattle.bike_ledger_rules.specs.Known.{has_station, known_in}
use Rattle.bike_ledger_rules.specs.Lines.{FindsFailing}
use Rattle.bike_ledger_rules.specs.Rentals.{names_test, ends_test, books_test, passes, rental_test, fare_count, refund_sum}
use Rattle.bike_ledger_rules.proofs.Earlier.{earlier_good}
use Rattle.bike_ledger_rules.proofs.RentalRules.{OutIfOpen, NamesGood, EndedWell, EndsGood, BooksGood, AreNamed, names_decide, ends_decide, books_decide}
use Rattle.bike_ledger_rules.proofs.Rows.{demanded, demands, lacking, verdict_of}

-- ---- one rental

-- how it was closed, or that its bicycle is in it
closing_good : (s : Operator) (e : ℕ × Rental × ℤ) (o : Option Closing)
    → IsOpenOrStored o → OutIfOpen s e.0 e.1 o → EndedWell s e.1.start o → IsOpenOrClosed s e.0 e.1 o
closing_good s e None stored out ended = out
closing_good s e (Some c) stored out ended =
    record { stop = ended.2; after = ended.0; by_now = ended.1; low = stored.fare.0; high = stored.fare.1 }

closing_out : (s : Operator) (e : ℕ × Rental × ℤ) (o : Option Closing) → IsOpenOrClosed s e.0 e.1 o → OutIfOpen s e.0 e.1 o
closing_out s e None good = good
closing_out s e (Some c) good = tt

closing_ended : (s : Operator) (e : ℕ × Rental × ℤ) (o : Option Closing) → IsOpenOrClosed s e.0 e.1 o → EndedWell s e.1.start o
closing_ended s e None good = tt
closing_ended s e (Some c) good = (good.after, good.by_now, good.stop)

module _ (s : Operator) (n : ℕ) (e : ℕ × Rental × ℤ) where
  abbrev AllGood : Type 0
  AllGood = NamesGood s e × (EndsGood s e × BooksGood s (s.rentals.archived + n) e)

  good_of : IsOpenOrStored e.1.closing → AllGood → IsGoodRental s n e
  good_of stored all =
      let names = all.0 in
      let ends = all.1.0 in
      let books = all.1.1 in
      record {
        number_is = books.number_is;
        rider_is = names.rider_is;
        bike_is = names.bike_is;
        plan_is = names.plan_is;
        from_is = names.from_is;
        by_now = ends.by_now;
        closing = closing_good s e e.1.closing stored names.out ends.ended;
        booked = books.booked;
        refunded_is = books.refunded_is;
        refunded = books.refunded;
      }

  all_of : IsGoodRental s n e → AllGood
  all_of g =
      let out = closing_out s e e.1.closing g.closing in (
        record { rider_is = g.rider_is; plan_is = g.plan_is; from_is = g.from_is; bike_is = g.bike_is; out = out },
        (
          record { by_now = g.by_now; ended = closing_ended s e e.1.closing g.closing },
          record { number_is = g.number_is; booked = g.booked; refunded_is = g.refunded_is; refunded = g.refunded },
        ),
      )

-- ---- the table

module _ (t : Tables) (up : AreInOrder t) (are : AreNamed t up) where
  abbrev s : Operator
  s = operator_of t

  abbrev test : ℕ → Row → Bool
  test = rental_test s.now t

  rental_decides : (n : ℕ) (r : Row) → Decides (test n r) (IsSomeAnd (rental_read r) (IsGoodRental s n))
  rental_decides n r = go (rental_read r) refl where
    go : (o : Option (ℕ × Rental × ℤ)) → rental_read r ≡ o
        → Decides (passes (known_in t) s.now (fare_count t) (refund_sum t) (s.rentals.archived + n) o) (IsSomeAnd o (IsGoodRental s n))
    go None is = (λ e. absurd cc, λ h. absurd h)
    go (Some e) is =
        let names = names_test (known_in t) e in
        let ends = ends_test (has_station t) s.now e in
        let before = s.rentals.archived + n in
        let books = books_test (fare_count t) (refund_sum t) before e in
        Decides-like (names && (ends && books)) (good_of s n e (rental_reading.sound r e is).1.closing) (all_of s n e)
        (Decides-and names (ends && books) (names_decide t up are e)
        (Decides-and ends books (ends_decide t up are e) (books_decide t before e)))

  rentals_verdict : (v : Option Row) → IsFirstFailing t Rentals (Demands t Rentals test) v → IsTableVerdict t Rentals v
  rentals_verdict = verdict_of t Rentals (λ key. tt) (Demands t Rentals test) (record {
    good = λ key r is has p. (rental_decides (rows_below t Rentals key) r).0 (demanded t Rentals test key r is p);
    from = λ key r is has h. demands t Rentals test key r is ((rental_decides (rows_below t Rentals key) r).1 h);
    none = λ key is. lacking t Rentals test key is;
  })

-- ---- all of them

module _ (db : Database) (earlier : EarlierGood (tables_of db) Rentals) where
  abbrev stored : Tables
  stored = tables_of db

  abbrev up : AreInOrder stored
  up = stored_in_order db

  are_named : AreNamed stored up
  are_named = record {
    riders = earlier_good stored up Rentals earlier Riders (omega arith);
    plans = earlier_good stored up Rentals earlier Plans (omega arith);
    stations = earlier_good stored up Rentals earlier Stations (omega arith);
    bikes = earlier_good stored up Rentals earlier Bikes (omega arith);
  }

  pub rentals_judged : (moment : ℕ) → moment ≡ (operator_of stored).now → (found : Option BadKey)
      → FindsFailing Rentals (rental_test moment) db found → IsTableVerdict stored Rentals (option_map key_row found)
  rentals_judged moment now found failing =
      rentals_verdict stored up are_named (option_map key_row found)
      (subst (λ (n : ℕ). FindsFailing Rentals (rental_test n) db found) now failing)
