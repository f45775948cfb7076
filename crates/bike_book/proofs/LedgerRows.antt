-- An entry as rows: its own, its rider's and its rental's; and the row of `meta`.
use Rattle.std.proofs.Common.{◌≡◌, ◌≢◌, ℕ, ℤ, pos, ◌+◌, ◌+ℤ◌, List, [], ◌∷◌, ◌++◌, length, Bool, true, false, cond, Option, Some, None, refl, sym, ap, ◌∙◌, arith}
use Rattle.std.specs.Prelude.{map, ◌==◌}
use Rattle.std.specs.Ordering.{nat_cmp, eq_by_cmp}
use Rattle.std.specs.Cmp.{eq_by_cmp_equiv, unsigned_tied}
use Rattle.std.specs.FinMap as fin
use Rattle.std.specs.FinMap.{FinMap}
use Rattle.std.proofs.lemmas.Int.{ints}
use Rattle.sqlite_value.specs.declared.value.Value.TheVariants.{Int}
use Rattle.bike_sql.specs.View.{row_with, put_row_by, rows_after_update, with_values}
use Rattle.bike_ledger.specs.Entries.{Entry}
use Rattle.bike_ledger.specs.Ledger.{credit, given_back, given_back_of, balance_of, refunded_of}
use Rattle.bike_ledger.proofs.SumLemmas.{total-append, balance_of-own, balance_of-other}
use Rattle.bike_operator.specs.declared.records.Rental.{Rental}
use Rattle.bike_operator.specs.declared.records.Closing.{Closing}
use Rattle.bike_operator.specs.Operator.{Rider, Numbered, last_number, with_item}
use Rattle.bike_operator.specs.View.{before_of}
use Rattle.bike_laws.proofs.SingleSteps.MapLemmas.{number_order}
use Rattle.bike_book.specs.Rows.{meta_row, rider_row, entry_row, rental_row}
use Rattle.bike_book.specs.Stored.{with_numbers, stored_rider, stored_entry, stored_rental}
use Rattle.bike_book.proofs.MapRows.{same_rows, kept_entries}
use Rattle.bike_book.proofs.Keys.{numbers, number_key}
use Rattle.bike_book.proofs.NumberRows.{put_number, kept_number}
use Rattle.bike_book.proofs.CatalogueBooks.{one_key}

own_number : (a : ℕ) → (a == a) ≡ true
own_number a = sym (unsigned_tied a a) ∙ (eq_by_cmp_equiv number_order.total).refl a

other_number : (a b : ℕ) → eq_by_cmp nat_cmp a b ≡ false → (a == b) ≡ false
other_number a b apart = sym (unsigned_tied a b) ∙ apart

not_same : (a b : ℕ) → eq_by_cmp nat_cmp a b ≡ false → a ≢ b
not_same a b apart same =
    let tie : eq_by_cmp nat_cmp a b ≡ true = ap (eq_by_cmp nat_cmp a) (sym same) ∙ (eq_by_cmp_equiv number_order.total).refl a in
    absurd cc

-- ---- the entry

pub entry_put : (es : Numbered Entry) (e : Entry) → e.number ≡ last_number es + 1 → put_row_by 1 (entry_row e.number e) (map stored_entry (with_numbers es)) ≡ map stored_entry (with_numbers (with_item e es))
entry_put es e is = put_number stored_entry stored_entry (λ x. refl) (λ x. refl) es e.number e is (λ x apart. refl)

-- ---- its rider

pub balance_set : (riders : FinMap nat_cmp Rider) (es : List Entry) (e : Entry) (balance : ℤ) → balance ≡ (before_of (fin.get riders e.rider) +ℤ balance_of e.rider es) +ℤ credit e.kind e.amount
    → rows_after_update 1 (number_key e.rider) (with_values ((2, Int balance) ∷ [])) (map (stored_rider es) (fin.entries riders)) ≡ map (stored_rider (es ++ e ∷ [])) (fin.entries riders)
balance_set riders es e balance is =
    kept_entries numbers (stored_rider es) (stored_rider (es ++ e ∷ [])) (λ x. refl) (λ x. refl) riders e.rider tt _
    (λ r found. ap (rider_row e.rider r) (own r found))
    (λ q r found. (tt, λ apart. ap (λ (z : ℤ). rider_row q r (r.before +ℤ z)) (sym (balance_of-other es e q (not_same e.rider q apart)))))
  where
    own : (r : Rider) → fin.get riders e.rider ≡ Some r → balance ≡ r.before +ℤ balance_of e.rider (es ++ e ∷ [])
    own r found =
        let all : balance_of e.rider (es ++ e ∷ []) ≡ balance_of e.rider es +ℤ credit e.kind e.amount = balance_of-own es e in
        let had : before_of (fin.get riders e.rider) ≡ r.before = ap before_of found in
        omega (arith, ints, is, all, had)

-- ---- its rental

either_none : (b : Bool) (z : ℤ) → z ≡ pos 0 → cond b z (pos 0) ≡ pos 0
either_none true z e = e
either_none false z e = refl

-- what gives nothing back to a rental leaves its refunds
refunds_stay : (es : List Entry) (e : Entry) (rental : ℕ) → given_back_of rental e ≡ pos 0 → refunded_of rental es ≡ refunded_of rental (es ++ e ∷ [])
refunds_stay es e rental none = let all = total-append (given_back_of rental) es e in omega (arith, ints, all, none)

refund_counted : (es : List Entry) (e : Entry) → refunded_of e.rental (es ++ e ∷ []) ≡ refunded_of e.rental es +ℤ given_back e.kind e.amount
refund_counted es e =
    let own : given_back_of e.rental e ≡ given_back e.kind e.amount = ap (λ (b : Bool). cond b (given_back e.kind e.amount) (pos 0)) (own_number e.rental) in
    total-append (given_back_of e.rental) es e ∙ ap (λ z. refunded_of e.rental es +ℤ z) own

pub rentals_same : (rentals : Numbered Rental) (es : List Entry) (e : Entry) → given_back e.kind e.amount ≡ pos 0
    → map (stored_rental es) (with_numbers rentals) ≡ map (stored_rental (es ++ e ∷ [])) (with_numbers rentals)
rentals_same rentals es e none =
    same_rows numbers (stored_rental es) (stored_rental (es ++ e ∷ [])) (with_numbers rentals)
    (λ x has. ap (rental_row x.0 x.1) (refunds_stay es e x.0 (either_none (e.rental == x.0) (given_back e.kind e.amount) none)))

-- what is set in the row of a rental for a refund
refunded_row : (rental : ℕ) (r : Rental) (old refunded : ℤ) (c : Option Closing)
    → with_values ((9, Int refunded) ∷ []) (rental_row rental (record r { closing = c }) old) ≡ rental_row rental (record r { closing = c }) refunded
refunded_row rental r old refunded None = refl
refunded_row rental r old refunded (Some c) = refl

pub refunded_set : (rentals : Numbered Rental) (es : List Entry) (e : Entry) (refunded : ℤ) → refunded ≡ refunded_of e.rental es +ℤ given_back e.kind e.amount
    → rows_after_update 1 (number_key e.rental) (with_values ((9, Int refunded) ∷ [])) (map (stored_rental es) (with_numbers rentals)) ≡ map (stored_rental (es ++ e ∷ [])) (with_numbers rentals)
refunded_set rentals es e refunded is =
    kept_number (stored_rental es) (stored_rental (es ++ e ∷ [])) (λ x. refl) (λ x. refl) rentals e.rental _
    (λ r found. refunded_row e.rental r (refunded_of e.rental es) refunded r.closing ∙ ap (rental_row e.rental r) (is ∙ sym (refund_counted es e)))
    (λ x apart. ap (rental_row x.0 x.1) (refunds_stay es e x.0 (ap (λ (b : Bool). cond b (given_back e.kind e.amount) (pos 0)) (other_number e.rental x.0 apart))))

-- ---- meta

pub meta_found : (version since : ℕ) (cash revenue : ℤ) → row_with 1 (number_key 1) (meta_row version since cash revenue ∷ []) ≡ Some (meta_row version since cash revenue)
meta_found version since cash revenue = rw one_key refl
