-- The lines of an entry pass exactly where what they are asked holds of the entry.
use Rattle.std.proofs.Common.{◌≡◌, ◌⊎◌, ℕ, ℤ, ◌+◌, ◌<◌, ◌≤◌, ◌==◌, ◌&&◌, List, [], ◌∷◌, length, take, Bool, true, false, Option, Some, None, refl, sym, ap, subst, ◌∙◌, arith}
use Rattle.std.specs.Prelude.{option_map, option_and_then, nat_lt, nat_le}
use Rattle.std.specs.Bool.{Decides}
use Rattle.std.specs.FinMap as fin
use Rattle.std.specs.List.{fold, filter_map}
use Rattle.std.specs.Option.{IsSomeAnd}
use Rattle.std.proofs.lemmas.Bool.{and_right}
use Rattle.std.proofs.lemmas.Bool.Decides.{Decides-eqb, Decides-int_eq, Decides-ltb, Decides-and, Decides-or, Decides-like}
use Rattle.std.proofs.lemmas.Option.{same_Some}
use Rattle.sqlite_value.specs.Order.{Row, column}
use Rattle.bike_sql.specs.View.{partner, row_with}
use Rattle.bike_ledger.specs.Entries.{Entry}
use Rattle.bike_ledger.specs.declared.entry.EntryKind.{EntryKind}
use Rattle.bike_ledger.specs.declared.entry.EntryKind.TheVariants.{TopUp, Fare, Refund, Withdrawal, Charge, Credit}
use Rattle.bike_operator.specs.declared.limits.TheConstants.{MOST_ENTRIES}
use Rattle.bike_operator.specs.declared.records.Rental.{Rental}
use Rattle.bike_operator.specs.declared.records.Closing.{Closing}
use Rattle.bike_operator.specs.Operator.{Operator, item_numbered}
use Rattle.bike_operator.specs.Counts.{count, is_open, open_rentals}
use Rattle.bike_laws.proofs.SingleSteps.CountLemmas.{weight}
use Rattle.bike_book.specs.Tables.{Tables, Riders, Rentals}
use Rattle.bike_book.specs.Rows.{rental_row}
use Rattle.bike_book.specs.Stored.{stored_rental}
use Rattle.bike_book.proofs.Keys.{number_key}
use Rattle.bike_readings.specs.Readings.{rental_read, entry_read}
use Rattle.bike_readings.proofs.LedgerRows.{rental_reading, entry_reading}
use Rattle.bike_readings.specs.ReadOff.{operator_of, rental_in}
use Rattle.bike_readings.specs.Demands.{IsGoodRental}
use Rattle.bike_readings.specs.Rules.{AreInOrder, rows_below}
use Rattle.bike_readings.proofs.ByNumber.{at_number}
use Rattle.bike_readings.proofs.ReadRows.{stored_part, AreRowsOfList, read_list}
use Rattle.bike_readings.proofs.RowRules.{some_with}
use Rattle.bike_judges.specs.Lines.{part, or_nulls}
use Rattle.bike_ledger_rules.specs.declared.open_rentals.RentalCount.{RentalCount}
use Rattle.bike_ledger_rules.specs.Entries.{one_open, one_rental_more, IsRentalCount, is_paid, is_closed_for, is_of, is_of_rental}
use Rattle.bike_ledger_rules.specs.Entries.{is_booked, line_rental, is_next, is_first, passes, entry_holds, entry_line}
use Rattle.bike_ledger_rules.specs.Known.{has_rider}
use Rattle.bike_ledger_rules.proofs.Tests.{at_most, is_true}
use Rattle.bike_ledger_rules.proofs.Earlier.{AreGood, rider_under}
use Rattle.bike_ledger_rules.proofs.Folds.{rental_of_row, rentals_read}
use Rattle.bike_ledger_rules.proofs.Parts.{partner_wide, own_of_one, partner_of_one}
use Rattle.bike_ledger_rules.proofs.RiderFolds.{AreWide, count_option}

-- ---- how many rentals there are

rows_fold : (rows : List Row) (a : RentalCount) → (fold one_rental_more a rows).next ≡ a.next + length rows
rows_fold [] a = omega arith
rows_fold (r ∷ rows) a = let rest = rows_fold rows (one_rental_more a r) in rest ∙ (omega arith)

open_fold : (rows : List Row) (a : RentalCount)
    → (fold one_rental_more a rows).riding ≡ a.riding + count is_open (filter_map rental_of_row rows)
open_fold [] a = omega arith
open_fold (r ∷ rows) a =
    let rest = open_fold rows (one_rental_more a r) in
    let c = count_option is_open (rental_of_row r) (filter_map rental_of_row rows) in
    let here = same (rental_read r) in
    rest ∙ (omega (arith, c, here))
  where
    same : (o : Option (ℕ × Rental × ℤ)) → one_open o ≡ weight is_open (option_map (λ (e : ℕ × Rental × ℤ). e.1) o)
    same None = refl
    same (Some e) = refl

pub rentals_counted : (t : Tables) → IsRentalCount t (fold one_rental_more (record { next = 1; riding = 0 }) t.rentals)
rentals_counted t = record {
  next_is = rows_fold t.rentals (record { next = 1; riding = 0 }) ∙ (omega arith);
  riding_is = open_fold t.rentals (record { next = 1; riding = 0 }) ∙ (omega arith) ∙ ap (count is_open) (sym (rentals_read t.rentals));
}

-- ---- the rental of an entry

abbrev pub Paid : EntryKind → ℤ → Closing → Type 0
Paid TopUp amount c = Unit {0}
Paid Fare amount c = amount ≡ c.fare
Paid Refund amount c = Unit {0}
Paid Withdrawal amount c = Unit {0}
Paid Charge amount c = Unit {0}
Paid Credit amount c = Unit {0}

paid_decides : (k : EntryKind) (amount : ℤ) (c : Closing) → Decides (is_paid k amount c) (Paid k amount c)
paid_decides TopUp amount c = (λ e. tt, λ h. refl)
paid_decides Fare amount c = Decides-int_eq amount c.fare
paid_decides Refund amount c = (λ e. tt, λ h. refl)
paid_decides Withdrawal amount c = (λ e. tt, λ h. refl)
paid_decides Charge amount c = (λ e. tt, λ h. refl)
paid_decides Credit amount c = (λ e. tt, λ h. refl)

-- a closed rental of the entry's rider, at the amount of a fare
pub record OfRental (s : Operator) (k : EntryKind) (e : Entry) : Type 0 where
  pub row : Rental
  pub closing : Closing
  pub found : item_numbered e.rental s.rentals ≡ Some row
  pub closed : row.closing ≡ Some closing
  pub rider_is : row.rider ≡ e.rider
  pub paid : Paid k e.amount closing

of_decides : (s : Operator) (k : EntryKind) (e : Entry) → Decides (is_of k e (item_numbered e.rental s.rentals)) (OfRental s k e)
of_decides s k e = go (item_numbered e.rental s.rentals) refl where
  closes : (r : Rental) → item_numbered e.rental s.rentals ≡ Some r → (o : Option Closing) → r.closing ≡ o
      → Decides ((r.rider == e.rider) && is_closed_for k e.amount o) (OfRental s k e)
  closes r is None still = (
    λ h. absurd (let f = and_right (r.rider == e.rider) false refl in let g = sym h ∙ f in cc),
    λ h. absurd (let same = same_Some r h.row (sym is ∙ h.found) in let c = sym still ∙ ap (λ (x : Rental). x.closing) same ∙ h.closed in cc),
  )
  closes r is (Some c) closed =
      Decides-like ((r.rider == e.rider) && is_paid k e.amount c)
      (λ h. record { row = r; closing = c; found = is; closed = closed; rider_is = h.0; paid = h.1 })
      (λ (h : OfRental s k e).
      let same = same_Some r h.row (sym is ∙ h.found) in
      let closing = same_Some h.closing c (sym h.closed ∙ ap (λ (x : Rental). x.closing) (sym same) ∙ closed) in
      (ap (λ (x : Rental). x.rider) same ∙ h.rider_is, subst (Paid k e.amount) closing h.paid))
      (Decides-and (r.rider == e.rider) (is_paid k e.amount c) (Decides-eqb r.rider e.rider) (paid_decides k e.amount c))

  go : (o : Option Rental) → item_numbered e.rental s.rentals ≡ o → Decides (is_of k e o) (OfRental s k e)
  go None is = (λ h. absurd cc, λ h. absurd (let f = sym is ∙ h.found in cc))
  go (Some r) is = closes r is r.closing refl

-- .. or an archived one
abbrev pub OfAny : Operator → EntryKind → Entry → Type 0
OfAny s k e = (e.rental ≤ s.rentals.archived) ⊎ OfRental s k e

any_decides : (s : Operator) (k : EntryKind) (e : Entry)
    → Decides (is_of_rental s.rentals.archived k e (item_numbered e.rental s.rentals)) (OfAny s k e)
any_decides s k e =
    Decides-or (nat_le e.rental s.rentals.archived) (is_of k e (item_numbered e.rental s.rentals)) (at_most e.rental s.rentals.archived)
    (of_decides s k e)

abbrev pub Booked : Operator → EntryKind → Entry → Type 0
Booked s TopUp e = Unit {0}
Booked s Fare e = OfAny s Fare e
Booked s Refund e = OfAny s Refund e
Booked s Withdrawal e = Unit {0}
Booked s Charge e = Unit {0}
Booked s Credit e = Unit {0}

booked_decides : (s : Operator) (k : EntryKind) (e : Entry)
    → Decides (is_booked s.rentals.archived k e (item_numbered e.rental s.rentals)) (Booked s k e)
booked_decides s TopUp e = (λ h. tt, λ h. refl)
booked_decides s Fare e = any_decides s Fare e
booked_decides s Refund e = any_decides s Refund e
booked_decides s Withdrawal e = (λ h. tt, λ h. refl)
booked_decides s Charge e = (λ h. tt, λ h. refl)
booked_decides s Credit e = (λ h. tt, λ h. refl)

-- ---- what an entry is asked by itself

pub record NumberGood (s : Operator) (before : ℕ) (e : Entry) : Type 0 where
  pub number_is : e.number ≡ before + 1
  pub room : before + open_rentals s < MOST_ENTRIES
  pub rider_is : fin.contains_key s.riders e.rider ≡ true
  pub by_now : e.at ≤ s.now

-- all that an entry is asked, where the entries before it have these fares
pub record EntryGood (s : Operator) (before : ℕ) (fares : List ℤ) (e : Entry) : Type 0 where
  pub number : NumberGood s before e
  pub booked : Booked s e.kind e
  pub first : is_first s.rentals.archived fares e ≡ true

-- a line holds its entry in front
pub own : (t : Tables) → AreWide 10 t.rentals → (r : Row) → length r ≡ 6 → part 0 6 (entry_line t r) ≡ r
own t rentals r wide =
    own_of_one r 6 10 (partner 1 (column r 3 ∷ []) t.rentals) wide (partner_wide 10 1 (column r 3 ∷ []) t.rentals rentals)

module _ (t : Tables) (up : AreInOrder t) (good : AreGood t up Riders) (good_rentals : AreGood t up Rentals) (rentals : AreWide 10 t.rentals) where
  abbrev s : Operator
  s = operator_of t

  next_decides : (n : ℕ) (e : Entry) → Decides (is_next (has_rider t) s.now (open_rentals s) n e) (NumberGood s n e)
  next_decides n e =
      let next = e.number == n + 1 in
      let room = nat_lt (n + open_rentals s) MOST_ENTRIES in
      let rider = has_rider t e.rider in
      let by_now = nat_le e.at s.now in
      Decides-like (next && (room && (rider && by_now)))
      (λ h. record { number_is = h.0; room = h.1.0; rider_is = h.1.1.0; by_now = h.1.1.1 })
      (λ (g : NumberGood s n e). (g.number_is, (g.room, (g.rider_is, g.by_now))))
      (Decides-and next (room && (rider && by_now)) (Decides-eqb e.number (n + 1))
      (Decides-and room (rider && by_now) (Decides-ltb (n + open_rentals s) MOST_ENTRIES)
      (Decides-and rider by_now (is_true rider (fin.contains_key s.riders e.rider) (rider_under t up good e.rider)) (at_most e.at s.now))))

  -- ---- with its rental

  abbrev below : Row → ℕ
  below r = rows_below t Rentals (take 1 r)

  rentals_are : AreRowsOfList (stored_rental s.entries.items) rental_in t.rentals s.rentals
  rentals_are =
      read_list (stored_rental s.entries.items) rental_in t.rentals s.rentals.archived (up Rentals)
      (λ r has. stored_part rental_reading (λ e. (e.0, e.1)) (stored_rental s.entries.items) (IsGoodRental s (below r)) r (good_rentals r has)
      (λ a is fact. ap (λ (z : ℤ). rental_row a.0 a.1 z) fact.refunded_is))
      (λ r has.
      let it = some_with (IsGoodRental s (below r)) (rental_read r) (good_rentals r has) in
      let parts = ap (option_map (λ (e : ℕ × Rental × ℤ). (e.0, e.1))) it.value_is in
      (it.value.1, parts ∙ ap (λ (n : ℕ). Some (n, it.value.1)) it.fact.number_is))

  -- the rental that a row spells, or NULLs
  abbrev rental_of : Option Row → Option Rental
  rental_of o = rental_of_row (or_nulls 10 o)

  -- the rental under a number is that of its place
  rental_partner : (k : ℕ) → rental_of (row_with 1 (number_key k) t.rentals) ≡ item_numbered k s.rentals
  rental_partner k =
      read (row_with 1 (number_key k) t.rentals)
      ∙ at_number (stored_rental s.entries.items) (λ e. refl) rental_in t.rentals s.rentals rentals_are.rows_are rentals_are.back k
    where
      parts : (o : Option (ℕ × Rental × ℤ))
          → option_map (λ (e : ℕ × Rental × ℤ). e.1) o ≡ option_map (λ (e : ℕ × Rental). e.1) (option_map (λ (e : ℕ × Rental × ℤ). (e.0, e.1)) o)
      parts None = refl
      parts (Some e) = refl

      read : (o : Option Row) → rental_of o ≡ option_map (λ (e : ℕ × Rental). e.1) (option_and_then rental_in o)
      read None = refl
      read (Some r) = parts (rental_read r)

  module _ (r : Row) (wide : length r ≡ 6) where
    abbrev rental_of_it : Option Row
    rental_of_it = partner 1 (column r 3 ∷ []) t.rentals

    rental_wide : length (or_nulls 10 rental_of_it) ≡ 10
    rental_wide = partner_wide 10 1 (column r 3 ∷ []) t.rentals rentals

    rental_there : (e : Entry) → entry_read r ≡ Some e → line_rental (entry_line t r) ≡ item_numbered e.rental s.rentals
    rental_there e is =
        ap rental_of_row (partner_of_one r 6 10 rental_of_it wide rental_wide)
        ∙ ap (λ (x : Row). rental_of (partner 1 (column x 3 ∷ []) t.rentals)) (entry_reading.sound r e is).0 ∙ rental_partner e.rental

    -- ---- all of it

    module _ (n : ℕ) (fares : List ℤ) where
      abbrev passing : Option Entry → Bool
      passing = passes (has_rider t) s.now (open_rentals s) s.rentals.archived fares n (entry_line t r)

      passing_decides : (o : Option Entry) → entry_read r ≡ o → Decides (passing o) (IsSomeAnd o (EntryGood s n fares))
      passing_decides None is = (λ e. absurd cc, λ h. absurd h)
      passing_decides (Some e) is =
          let next = is_next (has_rider t) s.now (open_rentals s) n e in
          let booked = is_booked s.rentals.archived e.kind e (line_rental (entry_line t r)) in
          let first = is_first s.rentals.archived fares e in
          Decides-like (next && (booked && first))
          (λ h. record { number = h.0; booked = h.1.0; first = h.1.1 })
          (λ (g : EntryGood s n fares e). (g.number, (g.booked, g.first)))
          (Decides-and next (booked && first) (next_decides n e)
          (Decides-and booked first
          (subst (λ (o : Option Rental). Decides (is_booked s.rentals.archived e.kind e o) (Booked s e.kind e)) (sym (rental_there e is)) (booked_decides s e.kind e))
          (is_true first first refl)))

      pub entry_decides : Decides (entry_holds (has_rider t) s.now (open_rentals s) s.rentals.archived fares n (entry_line t r)) (IsSomeAnd (entry_read r) (EntryGood s n fares))
      entry_decides =
          subst (λ (x : Row). Decides (passing (entry_read x)) (IsSomeAnd (entry_read r) (EntryGood s n fares))) (sym (own t rentals r wide))
          (passing_decides (entry_read r) refl)
