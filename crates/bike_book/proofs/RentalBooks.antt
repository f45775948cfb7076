-- The row changes that book a rental or an order added, a rental closed, and an order set.
use Rattle.std.proofs.Common.{◌≡◌, ℕ, ℤ, List, true, Option, Some, None, refl, sym, ap, ◌∙◌}
use Rattle.std.specs.Prelude.{map}
use Rattle.bike_sql.specs.View.{put_row_by, with_values}
use Rattle.bike_ledger.specs.Ledger.{refunded_of}
use Rattle.bike_operator.specs.declared.records.Rental.{Rental}
use Rattle.bike_operator.specs.declared.records.Closing.{Closing}
use Rattle.bike_operator.specs.declared.records.Order.{Order}
use Rattle.bike_operator.specs.Changes.{text_in}
use Rattle.bike_laws.proofs.SingleSteps.CatalogueLemmas.{same_docks}
use Rattle.bike_accepted.specs.declared.change.Change.TheVariants as change
use Rattle.bike_accepted.specs.Effects.{after_change}
use Rattle.bike_book.specs.Rows.{closing_columns, rental_row}
use Rattle.bike_book.specs.Stored.{with_numbers, stored_rental, stored_order}
use Rattle.bike_book.specs.Writes.{columns_from}
use Rattle.bike_book.specs.Between.{tables_between}
use Rattle.bike_book.specs.ChangeLaws.{Everywhere, AddRentalLaw, CloseRentalLaw, AddOrderLaw, SetOrderLaw}
use Rattle.bike_book.proofs.NumberRows.{put_number, changed_number}
use Rattle.bike_book.proofs.ListingLemmas.{listing_same}

-- ---- rentals

-- what is set in the row of a rental to close it
closed_row : (rental finish : ℕ) (to_station : Option (List ℕ)) (fare refunded : ℤ) (r : Rental) (c : Option Closing)
    → with_values (columns_from 6 (closing_columns (Some (record { to_station = to_station; finish = finish; fare = fare })))) (rental_row rental (record r { closing = c }) refunded)
    ≡ rental_row rental (record r { closing = Some (record { to_station = to_station; finish = finish; fare = fare }) }) refunded
closed_row rental finish to_station fare refunded r None = refl
closed_row rental finish to_station fare refunded r (Some c) = refl

pub add_rental : Everywhere AddRentalLaw
add_rental s m listing rental rider bike plan from_station start is none =
    let n = after_change (change.AddRental rental rider bike plan from_station start) s in
    let r : Rental = record { rider = rider; bike = bike; plan = plan.now; from_station = from_station.now; start = start; closing = None } in
    let rentals =
    ap (λ (z : ℤ). put_row_by 1 (rental_row rental r z) (map (stored_rental s.entries.items) (with_numbers s.rentals))) (sym none)
    ∙ put_number (stored_rental s.entries.items) (stored_rental s.entries.items) (λ e. refl) (λ e. refl) s.rentals rental r is (λ e apart. refl) in
    record { leads = λ i. record (tables_between s m) { rentals = rentals i }; listing = listing_same s n m (same_docks s n refl) refl refl refl listing }

pub close_rental : Everywhere CloseRentalLaw
close_rental s m listing rental to_station finish fare =
    let n = after_change (change.CloseRental rental to_station finish fare) s in
    let f = λ (r : Rental). record r { closing = Some (record { to_station = text_in to_station; finish = finish; fare = fare }) } in
    let rentals = changed_number (stored_rental s.entries.items) (stored_rental s.entries.items) (λ e. refl) (λ e. refl) s.rentals rental _ f (λ r found. closed_row rental finish (text_in to_station) fare (refunded_of rental s.entries.items) r r.closing) (λ e apart. refl) in
    record { leads = λ i. record (tables_between s m) { rentals = rentals i }; listing = listing_same s n m (same_docks s n refl) refl refl refl listing }

-- ---- orders

pub add_order : Everywhere AddOrderLaw
add_order s m listing order truck from_end to_end type_id many is =
    let n = after_change (change.AddOrder order truck from_end to_end type_id many) s in
    let o : Order = record { truck = truck; from_end = from_end.now; to_end = to_end.now; type_id = type_id.now; count = many; delivered = 0; is_open = true } in
    let orders = put_number stored_order stored_order (λ e. refl) (λ e. refl) s.orders order o is (λ e apart. refl) in
    record { leads = λ i. record (tables_between s m) { orders = orders i }; listing = listing_same s n m (same_docks s n refl) refl refl refl listing }

pub set_order : Everywhere SetOrderLaw
set_order s m listing order delivered is_open =
    let n = after_change (change.SetOrder order delivered is_open) s in
    let f = λ (o : Order). record o { delivered = delivered; is_open = is_open } in
    let orders = changed_number stored_order stored_order (λ e. refl) (λ e. refl) s.orders order _ f (λ o found. refl) (λ e apart. refl) in
    record { leads = λ i. record (tables_between s m) { orders = orders i }; listing = listing_same s n m (same_docks s n refl) refl refl refl listing }
