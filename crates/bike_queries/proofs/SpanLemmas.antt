-- What is found and read of entries and rentals in a span.
use Rattle.std.proofs.Common.{◌≡◌, ◌+◌, ◌≤◌, inl, inr, ℕ, ℤ, suc, List, [], ◌∷◌, filter, map, min, slice_get, ◌&&◌, Option, Some, None, refl, sym, ap, ◌∙◌, arith}
use Rattle.std.specs.Prelude.{nat_lt, option_map}
use Rattle.std.proofs.lemmas.Option.{same_Some}
use Rattle.sqlite_value.specs.Order.{Row}
use Rattle.sqlite_rules.specs.Lists.{Has}
use Rattle.bike_ledger.specs.Entries.{Entry}
use Rattle.bike_ledger.specs.Ledger.{refunded_of}
use Rattle.bike_operator.specs.declared.limits.TheConstants.{MOST_ENTRIES}
use Rattle.bike_operator.specs.declared.records.Rental.{Rental}
use Rattle.bike_operator.specs.declared.records.Closing.{Closing}
use Rattle.bike_operator.specs.Operator.{Operator, Numbered, item_at, item_numbered}
use Rattle.bike_operator.specs.Sound.{IsSound}
use Rattle.bike_laws.proofs.SingleSteps.ItemLemmas.{number_of_place, number_within}
use Rattle.bike_book.specs.Rows.{entry_row, rental_row}
use Rattle.bike_book.specs.Stored.{numbers_from, with_numbers, stored_entry, stored_rental}
use Rattle.bike_operator.specs.declared.rental_info.RentalInfo.{RentalInfo}
use Rattle.bike_queries.specs.Spans.{lies_in, ends_in, entry_after, ended_after, ended_info}
use Rattle.bike_queries.proofs.AfterLaw.{first_passed}
use Rattle.bike_queries.proofs.SpanLaw.{is_spanned, spanned_within, never_spanned}

-- ---- members of numbered lists

-- a member of a list has a number
has_number : {A : Type 0} (l : Numbered A) (x : A) → Has l.items x → (n : ℕ) × (item_numbered n l ≡ Some x)
has_number l x has = let it = at l.items has in (l.archived + suc it.0, number_of_place it.0 l x it.1)
  where
    at : (ys : List _) → Has ys x → (i : ℕ) × (item_at i ys ≡ Some x)
    at [] has = elim has [ ]
    at (y ∷ ys) (inl is) = (0, ap Some (sym is))
    at (y ∷ ys) (inr later) = let it = at ys later in (suc it.0, it.1)

-- and one of a list with numbers has its own
own_number : {A : Type 0} (l : Numbered A) (e : ℕ × A) → Has (with_numbers l) e → item_numbered e.0 l ≡ Some e.1
own_number {A} l e has =
    let it = at (suc l.archived) l.items has in
    let is : e.0 ≡ l.archived + suc it.0 = omega (arith, it.1) in
    ap (λ n. item_numbered n l) is ∙ number_of_place it.0 l e.1 it.2
  where
    at : (n : ℕ) (ys : List A) → Has (numbers_from n ys) e → (i : ℕ) × (e.0 ≡ n + i) × (item_at i ys ≡ Some e.1)
    at n [] has = elim has [ ]
    at n (y ∷ ys) (inl is) = (0, ap (λ (x : ℕ × A). x.0) is ∙ omega arith, ap (λ (x : ℕ × A). Some x.1) (sym is))
    at n (y ∷ ys) (inr later) = let it = at (suc n) ys later in (suc it.0, omega (arith, it.1), it.2)

-- ---- entries

-- an entry's row under its own number
abbrev pub own_row : Entry → Row
own_row e = entry_row e.number e

-- entries that are numbered from a number on
own_rows : (n : ℕ) (es : List Entry) → ((i : ℕ) (e : Entry) → item_at i es ≡ Some e → e.number ≡ n + i) → map stored_entry (numbers_from n es) ≡ map own_row es
own_rows n [] named = refl
own_rows n (e ∷ es) named =
    let first : n ≡ e.number = let is = named 0 e refl in omega (arith, is) in
    (λ i. entry_row (first i) e ∷ own_rows (suc n) es (λ k x at. let is = named (suc k) x at in omega (arith, is)) i)

-- the row that is found is that of the first entry in the span
pub entry_found : (s : Operator) → IsSound s → (number begin end start : ℕ) → start ≡ min number MOST_ENTRIES
    → slice_get (filter (is_spanned 5 start begin end) (map stored_entry (with_numbers s.entries))) 0 ≡ option_map own_row (entry_after s number begin end)
entry_found s sound number begin end start is =
    ap (λ n. slice_get (filter (is_spanned 5 n begin end) (map stored_entry (with_numbers s.entries))) 0) is
    ∙ ap (λ rows. slice_get (filter (is_spanned 5 (min number MOST_ENTRIES) begin end) rows) 0) (own_rows (suc s.entries.archived) s.entries.items named)
    ∙ first_passed own_row (is_spanned 5 (min number MOST_ENTRIES) begin end) (λ e. nat_lt number e.number && lies_in begin end e.at) s.entries.items
    (λ e has. spanned_within 5 number MOST_ENTRIES begin end e.number e.at (own_row e) (within e has) refl refl)
  where
    named : (i : ℕ) (e : Entry) → item_at i s.entries.items ≡ Some e → e.number ≡ suc s.entries.archived + i
    named i e at = (sound.ledger.entries (s.entries.archived + suc i) e (number_of_place i s.entries e at)).number_is ∙ omega arith

    within : (e : Entry) → Has s.entries.items e → e.number ≤ MOST_ENTRIES
    within e has =
        let it = has_number s.entries e has in
        omega (arith, (sound.ledger.entries it.0 e it.1).number_is, number_within it.0 s.entries e it.1, sound.ledger.few_entries)

-- ---- rentals

-- a rental's row passes just where the rental ended in the span
ended_is : (number begin end n : ℕ) (r : Rental) (refunded : ℤ) (closing : Option Closing) → n ≤ MOST_ENTRIES
    → is_spanned 7 (min number MOST_ENTRIES) begin end (rental_row n (record r { closing = closing }) refunded) ≡ (nat_lt number n && ends_in begin end closing)
ended_is number begin end n r refunded None within = never_spanned 7 number MOST_ENTRIES begin end n (rental_row n (record r { closing = None }) refunded) within refl refl
ended_is number begin end n r refunded (Some c) within = spanned_within 7 number MOST_ENTRIES begin end n c.finish (rental_row n (record r { closing = Some c }) refunded) within refl refl

-- the row that is found is that of the first rental that ended in the span
pub ended_found : (s : Operator) → IsSound s → (number begin end start : ℕ) → start ≡ min number MOST_ENTRIES
    → slice_get (filter (is_spanned 7 start begin end) (map (stored_rental s.entries.items) (with_numbers s.rentals))) 0 ≡ option_map (stored_rental s.entries.items) (ended_after s number begin end)
ended_found s sound number begin end start is =
    ap (λ n. slice_get (filter (is_spanned 7 n begin end) (map (stored_rental s.entries.items) (with_numbers s.rentals))) 0) is
    ∙ first_passed (stored_rental s.entries.items) (is_spanned 7 (min number MOST_ENTRIES) begin end) (λ e. nat_lt number e.0 && ends_in begin end e.1.closing) (with_numbers s.rentals)
    (λ e has. ended_is number begin end e.0 e.1 (refunded_of e.0 s.entries.items) e.1.closing (within e has))
  where
    within : (e : ℕ × Rental) → Has (with_numbers s.rentals) e → e.0 ≤ MOST_ENTRIES
    within e has = omega (arith, number_within e.0 s.rentals e.1 (own_number s.rentals e has), sound.rentals.few_rentals, sound.ledger.few_entries)

-- what is read of that row
pub ended_shown : (entries : List Entry) (o : Option (ℕ × Rental)) {row : Row} {x : ℕ × RentalInfo} → ((e : ℕ × Rental) → row ≡ stored_rental entries e → x ≡ ended_info entries e)
    → Some row ≡ option_map (stored_rental entries) o
    → Some x ≡ option_map (ended_info entries) o
ended_shown entries None read is = absurd cc
ended_shown entries (Some e) {row} read is = ap Some (read e (same_Some row (stored_rental entries e) is))

-- nothing is made of what isn't there
pub none_mapped : {A B C : Type 0} (f : A → B) (g : A → C) (o : Option A) → None ≡ option_map f o → None ≡ option_map g o
none_mapped f g None is = refl
none_mapped f g (Some x) is = absurd cc
