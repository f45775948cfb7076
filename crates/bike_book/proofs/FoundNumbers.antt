-- How many records there are, as the last row or the number of rows says.
use Rattle.std.proofs.Common.{◌≡◌, ℕ, suc, ◌+◌, List, [], ◌∷◌, length, filter, Bool, true, false, cond, Option, Some, None, is_none, refl, sym, ap, ◌∙◌, arith}
use Rattle.std.specs.Prelude.{map, slice_get}
use Rattle.std.specs.List.{list_all}
use Rattle.std.specs.declared.cmp.Ordering.{Ordering}
use Rattle.std.specs.FinMap as fin
use Rattle.std.specs.FinMap.{FinMap}
use Rattle.sqlite_value.specs.Order.{Row, column}
use Rattle.sqlite_sql.specs.Ops.{is_null}
use Rattle.bike_sql.specs.View.{last_of}
use Rattle.bike_ledger.specs.Entries.{Entry}
use Rattle.bike_operator.specs.declared.records.Rental.{Rental}
use Rattle.bike_operator.specs.declared.records.Closing.{Closing}
use Rattle.bike_operator.specs.Operator.{AcceptedRequest, Numbered, last_number}
use Rattle.bike_operator.specs.Counts.{count, is_open}
use Rattle.bike_laws.specs.History.{last_moment_of}
use Rattle.bike_book.specs.Rows.{number_value}
use Rattle.bike_book.specs.Stored.{numbers_from, with_numbers, stored_plan, stored_type, stored_region, stored_station, stored_bike, stored_truck, stored_rider, stored_rental, stored_order}
use Rattle.bike_book.specs.Stored.{stored_entry, stored_request}
use Rattle.bike_book.specs.Found.{WhereListed, FoundNumbers, IsLast, IsLastMoment, rows_open}

-- ---- the last number

module _ {A : Type 0} (row : ℕ × A → Row) (keyed : (e : ℕ × A) → column (row e) 0 ≡ number_value e.0) where
  last_from : (none n : ℕ) (x : A) (xs : List A) → IsLast none (n + length xs) (slice_get (last_of (map row (numbers_from n (x ∷ xs)))) 0)
  last_from none n x [] = keyed (n, x) ∙ ap number_value (omega arith)
  last_from none n x (y ∷ xs) = rw (shifted n (length xs)) (last_from none (suc n) y xs) where
    shifted : (a b : ℕ) → a + suc b ≡ suc a + b
    shifted a b = omega arith

  last_behind : (a : ℕ) (xs : List A) → IsLast a (a + length xs) (slice_get (last_of (map row (numbers_from (suc a) xs))) 0)
  last_behind a [] = omega arith
  last_behind a (x ∷ xs) = rw (one_more (length xs)) (last_from a (suc a) x xs) where
    one_more : (b : ℕ) → a + suc b ≡ suc a + b
    one_more b = omega arith

  last_is : (l : Numbered A) → IsLast l.archived (last_number l) (slice_get (last_of (map row (with_numbers l))) 0)
  last_is l = last_behind l.archived l.items

-- ---- the last moment

moment_from : (n now : ℕ) (a : AcceptedRequest) (history : List AcceptedRequest)
    → IsLastMoment (last_moment_of now (a ∷ history)) (slice_get (last_of (map stored_request (numbers_from n (a ∷ history)))) 0)
moment_from n now a [] = refl
moment_from n now a (b ∷ history) = moment_from (suc n) a.moment b history

moment_behind : (n : ℕ) (history : List AcceptedRequest) → IsLastMoment (last_moment_of 0 history) (slice_get (last_of (map stored_request (numbers_from n history))) 0)
moment_behind n [] = refl
moment_behind n (a ∷ history) = moment_from n 0 a history

moment_is : (history : Numbered AcceptedRequest) → IsLastMoment (last_moment_of 0 history.items) (slice_get (last_of (map stored_request (with_numbers history))) 0)
moment_is history = moment_behind (suc history.archived) history.items

-- ---- so many rows

pub same_length : {A : Type 0} (row : A → Row) (xs : List A) → length (map row xs) ≡ length xs
same_length row [] = refl
same_length row (x ∷ xs) = ap suc (same_length row xs)

same_len : {K X : Type 0} {R : K → K → Ordering} (row : K × X → Row) (m : FinMap R X) → length (map row (fin.entries m)) ≡ fin.len m
same_len row m = same_length row (fin.entries m) ∙ sym (fin.len-entries m)

numbered_length : {A : Type 0} (row : ℕ × A → Row) (n : ℕ) (xs : List A) → length (map row (numbers_from n xs)) ≡ length xs
numbered_length row n [] = refl
numbered_length row n (x ∷ xs) = ap suc (numbered_length row (suc n) xs)

-- ---- open rentals

-- the finish of an open rental is NULL, and that of a closed one isn't
pub finish_null : (es : List Entry) (number : ℕ) (r : Rental) (c : Option Closing) → list_all is_null (map (column (stored_rental es (number, record r { closing = c }))) (7 ∷ [])) ≡ is_none c
finish_null es number r None = refl
finish_null es number r (Some c) = refl

open_length : (es : List Entry) (n : ℕ) (rs : List Rental) → length (rows_open (map (stored_rental es) (numbers_from n rs))) ≡ count is_open rs
open_length es n [] = refl
open_length es n (r ∷ rs) = rw (finish_null es n r r.closing) (go (is_open r) (open_length es (suc n) rs)) where
  rest : List Row
  rest = rows_open (map (stored_rental es) (numbers_from (suc n) rs))

  go : (b : Bool) → length rest ≡ count is_open rs → length (cond b (stored_rental es (n, r) ∷ rest) rest) ≡ length (cond b (r ∷ filter is_open rs) (filter is_open rs))
  go true same = ap suc same
  go false same = same

pub found_numbers : WhereListed FoundNumbers
found_numbers s m sound listing = record {
  last_rental = last_is (stored_rental s.entries.items) (λ e. refl) s.rentals;
  last_order = last_is stored_order (λ e. refl) s.orders;
  last_entry = last_is stored_entry (λ e. refl) s.entries;
  last_request = last_is stored_request (λ e. refl) s.history;
  last_moment = moment_is s.history;
  plans = same_len stored_plan s.plans;
  types = same_len stored_type s.types;
  regions = same_len stored_region s.regions;
  stations = same_len (stored_station s) s.stations;
  bikes = same_len stored_bike s.bikes;
  trucks = same_len stored_truck s.trucks;
  riders = same_len (stored_rider s.entries.items) s.riders;
  rentals = numbered_length (stored_rental s.entries.items) (suc s.rentals.archived) s.rentals.items;
  orders = numbered_length stored_order (suc s.orders.archived) s.orders.items;
  entries = numbered_length stored_entry (suc s.entries.archived) s.entries.items;
  requests = numbered_length stored_request (suc s.history.archived) s.history.items;
  open_rentals_are = open_length s.entries.items (suc s.rentals.archived) s.rentals.items;
}
