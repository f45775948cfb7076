-- The rows of riders, rentals and entries, and the row of what was archived, are read exactly.
use Rattle.std.proofs.Common.{◌≡◌, ℕ, ℤ, pos, negsuc, List, [], ◌∷◌, ◌++◌, length, Option, Some, None, refl, sym, ap, ◌∙◌, subst, arith}
use Rattle.std.specs.Prelude.{option_and_then}
use Rattle.std.proofs.lemmas.Int.{ints}
use Rattle.std.proofs.lemmas.Option.{option_and_then_some, same_Some}
use Rattle.sqlite_value.specs.declared.value.Value.TheVariants.{Int, Text}
use Rattle.sqlite_value.specs.Order.{Row, column}
use Rattle.sqlite.specs.Values.{or_null}
use Rattle.bike_ledger.specs.Entries.{greatest_amount}
use Rattle.bike_ledger.specs.declared.entry.EntryKind.{EntryKind}
use Rattle.bike_ledger.specs.declared.entry.EntryKind.TheVariants.{TopUp, Fare, Refund, Withdrawal, Charge, Credit}
use Rattle.bike_operator.specs.declared.records.Closing.{Closing}
use Rattle.bike_ledger.specs.Entries.{Entry}
use Rattle.bike_operator.specs.declared.records.Rental.{Rental}
use Rattle.bike_operator.specs.Operator.{Rider}
use Rattle.bike_operator.specs.Sound.{IsPayment}
use Rattle.bike_book.specs.Rows.{number_value, closing_columns, rider_row, rental_row, entry_row, books_row}
use Rattle.bike_schema.specs.Columns.{whole_in, moment_in}
use Rattle.bike_readings.specs.ColumnReaders.{closing_in, fare_in, rental_in, amount_in, signed_in}
use Rattle.bike_readings.specs.Bounds.{IsMoment, IsFare, IsStoredRider, IsStoredRental, IsStoredEntry, IsStoredBooks, IsIdentOrNone, IsOpenOrStored, IsStoredRentalOf, IsStoredAmount}
use Rattle.bike_readings.specs.BothWays.{RiderReading, RentalReading, EntryReading, BooksReading}
use Rattle.bike_readings.proofs.ColumnLaws.{IsColumn, IsBetween, whole_column, number_column, request_count_column, moment_column, signed_column, flag_column, kind_column, ident_column}
use Rattle.bike_readings.proofs.ColumnLaws.{ident_or_none_column}
use Rattle.bike_readings.proofs.ChainLaws.{HasColumns, wide, takes, ends, gives, gives_wide, given, pick_null}

-- ---- riders

pub rider_reading : RiderReading
rider_reading = record {
  sound = λ row x e.
      wide 5 row e (λ width e.
      takes _ (number_column 1 999999) e (λ number number_is number_good e.
      takes _ flag_column e (λ blocked blocked_is _ e.
      takes _ whole_column e (λ balance balance_is _ e.
      takes _ whole_column e (λ before before_is _ e.
      takes _ ident_or_none_column e (λ plan plan_is plan_good e.
      ends (λ (x : ℕ × Rider × ℤ). rider_row x.0 x.1 x.2) (λ x. IsStoredRider x.0 x.1) x e width (number_is, (blocked_is, (balance_is, (before_is, (plan_is, tt)))))
      (record { good_number = number_good; plan = plan_good })))))));
  full = λ x g.
      gives _ x.0 (number_column 1 999999) g.good_number (
      gives _ x.1.is_blocked flag_column tt (
      gives _ x.1.plan ident_or_none_column g.plan refl));
}

-- ---- what was archived

pub books_reading : BooksReading
books_reading = record {
  sound = λ row x e.
      wide 4 row e (λ width e.
      takes _ (number_column 1 1) e (λ one one_is one_good e.
      takes _ request_count_column e (λ requests requests_is _ e.
      takes _ (number_column 0 100000000) e (λ entries entries_is entries_good e.
      takes _ (number_column 0 100000000) e (λ rentals rentals_is rentals_good e.
      let one_one : one ≡ 1 = omega (arith, one_good.0, one_good.1) in
      ends (λ (x : ℕ × ℕ × ℕ). books_row x.0 x.1 x.2) (λ x. IsStoredBooks x.1 x.2) x e width (one_is ∙ ap (λ n. Int (pos n)) one_one, (requests_is, (entries_is, (rentals_is, tt))))
      (record { good_entries = entries_good.1; good_rentals = rentals_good.1 }))))));
  full = λ x g.
      gives _ x.1 (number_column 0 100000000) (omega arith, g.good_entries) (
      gives _ x.2 (number_column 0 100000000) (omega arith, g.good_rentals) refl);
}

-- ---- rentals

-- the closing stands in the columns behind the first six, and behind it what was refunded
abbrev Closed : Row → ℤ → Option Closing → Type 0
Closed row refunded o = HasColumns row 6 (closing_columns o ++ Int refunded ∷ []) × IsOpenOrStored o

closing_sound : (row : Row) (o : Option Closing) (refunded : ℤ) → closing_in (column row 6) (column row 7) (column row 8) ≡ Some o → column row 9 ≡ Int refunded → Closed row refunded o
closing_sound row o refunded e refunded_is =
    pick_null (column row 6 ∷ column row 7 ∷ column row 8 ∷ []) e (λ null e. subst (Closed row refunded) (same_Some None o e) ((null.0, (null.1.0, (null.1.1.0, (refunded_is, tt)))), tt)) (λ e.
    takes _ ident_or_none_column e (λ to to_is to_good e.
    takes _ moment_column e (λ finish finish_is finish_good e.
    takes _ (signed_column (pos 0) greatest_amount) e (λ fare fare_is fare_good e.
    subst (Closed row refunded) (same_Some (Some (record { to_station = to; finish = finish; fare = fare })) o e)
    ((to_is, (finish_is, (fare_is, (refunded_is, tt)))), record { to_station = to_good; finish = finish_good; fare = fare_good })))))

abbrev closed : Option (List ℕ) → ℕ → ℤ → Option Closing
closed to finish fare = Some (record { to_station = to; finish = finish; fare = fare })

-- the finish and the fare of a closed rental
paid : (to : Option (List ℕ)) (finish : ℕ) (fare : ℤ) → IsMoment finish → IsFare fare
    → option_and_then (λ at. option_and_then (λ amount. Some (closed to at amount)) (fare_in (Int fare))) (moment_in (number_value finish)) ≡ Some (closed to finish fare)
paid to finish fare finish_good fare_good = gives _ finish moment_column finish_good (gives _ fare (signed_column (pos 0) greatest_amount) fare_good refl)

closed_full : (to : Option (List ℕ)) (finish : ℕ) (fare : ℤ) → IsIdentOrNone to → IsMoment finish → IsFare fare
    → closing_in (or_null Text to) (number_value finish) (Int fare) ≡ Some (closed to finish fare)
closed_full None finish fare stop finish_good fare_good = paid None finish fare finish_good fare_good
closed_full (Some station) finish fare stop finish_good fare_good = rw (ident_or_none_column.full (Some station) stop) (paid (Some station) finish fare finish_good fare_good)

closing_full : (o : Option Closing) (refunded : ℤ) → IsOpenOrStored o
    → closing_in (column (closing_columns o ++ Int refunded ∷ []) 0) (column (closing_columns o ++ Int refunded ∷ []) 1) (column (closing_columns o ++ Int refunded ∷ []) 2) ≡ Some o
closing_full None refunded g = refl
closing_full (Some c) refunded g = closed_full c.to_station c.finish c.fare g.to_station g.finish g.fare

refunded_full : (o : Option Closing) (refunded : ℤ) → whole_in (column (closing_columns o ++ Int refunded ∷ []) 3) ≡ Some refunded
refunded_full None refunded = refl
refunded_full (Some c) refunded = refl

closing_width : (o : Option Closing) (refunded : ℤ) → length (closing_columns o ++ Int refunded ∷ []) ≡ 4
closing_width None refunded = refl
closing_width (Some c) refunded = refl

pub rental_reading : RentalReading
rental_reading = record {
  sound = λ row x e.
      wide 10 row e (λ width e.
      takes _ (number_column 1 100000000) e (λ number number_is number_good e.
      takes _ (number_column 1 999999) e (λ rider rider_is rider_good e.
      takes _ (number_column 1 999999) e (λ bike bike_is bike_good e.
      takes _ ident_column e (λ plan plan_is plan_good e.
      takes _ ident_column e (λ from from_is from_good e.
      takes _ moment_column e (λ start start_is start_good e.
      option_and_then_some _ (closing_in (column row 6) (column row 7) (column row 8)) x e (λ closing read e.
      takes _ whole_column e (λ refunded refunded_is _ e.
      let closed = closing_sound row closing refunded read refunded_is in
      let columns = closing_width closing refunded in
      ends (λ (x : ℕ × Rental × ℤ). rental_row x.0 x.1 x.2) (λ x. IsStoredRental x.0 x.1) x e (omega (arith, width, columns))
      (number_is, (rider_is, (bike_is, (plan_is, (from_is, (start_is, closed.0))))))
      (record { good_number = number_good; rider = rider_good; bike = bike_good; plan = plan_good; from_station = from_good; start = start_good; closing = closed.1 }))))))))));
  full = λ x g.
      let columns = closing_width x.1.closing x.2 in
      gives_wide 10 (rental_row x.0 x.1 x.2) (omega (arith, columns)) (
      gives _ x.0 (number_column 1 100000000) g.good_number (
      gives _ x.1.rider (number_column 1 999999) g.rider (
      gives _ x.1.bike (number_column 1 999999) g.bike (
      gives _ x.1.plan ident_column g.plan (
      gives _ x.1.from_station ident_column g.from_station (
      gives _ x.1.start moment_column g.start (
      given _ x.1.closing (closing_full x.1.closing x.2 g.closing) (
      given _ x.2 (refunded_full x.1.closing x.2) refl))))))));
}

-- ---- entries

rental_column : (kind : EntryKind) → IsColumn (rental_in kind) number_value (IsStoredRentalOf kind)
rental_column TopUp = record { sound = λ v n e. let s = (number_column 0 0).sound v n e in (s.0, omega (arith, s.1.1)); full = λ n g. (number_column 0 0).full n (omega arith, omega (arith, g)) }
rental_column Fare = number_column 1 100000000
rental_column Refund = number_column 1 100000000
rental_column Withdrawal = record { sound = λ v n e. let s = (number_column 0 0).sound v n e in (s.0, omega (arith, s.1.1)); full = λ n g. (number_column 0 0).full n (omega arith, omega (arith, g)) }
rental_column Charge = record { sound = λ v n e. let s = (number_column 0 0).sound v n e in (s.0, omega (arith, s.1.1)); full = λ n g. (number_column 0 0).full n (omega arith, omega (arith, g)) }
rental_column Credit = record { sound = λ v n e. let s = (number_column 0 0).sound v n e in (s.0, omega (arith, s.1.1)); full = λ n g. (number_column 0 0).full n (omega arith, omega (arith, g)) }

payment_of : (z : ℤ) → IsBetween (pos 1) (pos 1000000) z → IsPayment z
payment_of (pos n) g = record { hundredths = n; is = refl; low = omega (arith, ints, g.0); high = omega (arith, ints, g.1) }
payment_of (negsuc n) g = absurd (omega (arith, ints, g.0))

payment_between : (z : ℤ) → IsPayment z → IsBetween (pos 1) (pos 1000000) z
payment_between z p = subst (IsBetween (pos 1) (pos 1000000)) (sym p.is) (omega (arith, ints, p.low), omega (arith, ints, p.high))

payment_column : IsColumn (signed_in (pos 1) (pos 1000000)) Int IsPayment
payment_column =
    record { sound = λ v z e. let s = (signed_column (pos 1) (pos 1000000)).sound v z e in (s.0, payment_of z s.1); full = λ z p. (signed_column (pos 1) (pos 1000000)).full z (payment_between z p) }

amount_column : (kind : EntryKind) → IsColumn (amount_in kind) Int (IsStoredAmount kind)
amount_column TopUp = payment_column
amount_column Fare = signed_column (pos 0) greatest_amount
amount_column Refund = payment_column
amount_column Withdrawal = payment_column
amount_column Charge = payment_column
amount_column Credit = payment_column

pub entry_reading : EntryReading
entry_reading = record {
  sound = λ row x e.
      wide 6 row e (λ width e.
      takes _ (number_column 1 100000000) e (λ number number_is number_good e.
      takes _ kind_column e (λ kind kind_is _ e.
      takes _ (number_column 1 999999) e (λ rider rider_is rider_good e.
      takes _ (rental_column kind) e (λ rental rental_is rental_good e.
      takes _ (amount_column kind) e (λ amount amount_is amount_good e.
      takes _ moment_column e (λ at at_is at_good e.
      ends (λ (e : Entry). entry_row e.number e) IsStoredEntry x e width (number_is, (kind_is, (rider_is, (rental_is, (amount_is, (at_is, tt))))))
      (record { number = number_good; rider = rider_good; rental = rental_good; amount = amount_good; at = at_good }))))))));
  full = λ x g.
      gives _ x.number (number_column 1 100000000) g.number (
      gives _ x.kind kind_column tt (
      gives _ x.rider (number_column 1 999999) g.rider (
      gives _ x.rental (rental_column x.kind) g.rental (
      gives _ x.amount (amount_column x.kind) g.amount (
      gives _ x.at moment_column g.at refl)))));
}
