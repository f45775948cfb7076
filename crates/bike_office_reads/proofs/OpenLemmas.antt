-- The rider's open rental, by the row that holds it.
use Rattle.std.proofs.Common.{◌≡◌, ℕ, Option, Some, None, is_some, refl, sym, ap, ◌∙◌}
use Rattle.std.specs.Prelude.{option_map}
use Rattle.std.proofs.lemmas.Option.{same_Some}
use Rattle.sqlite_value.specs.Order.{Row, column}
use Rattle.bike_operator.specs.declared.records.Rental.{Rental}
use Rattle.bike_operator.specs.Operator.{Operator}
use Rattle.bike_operator.specs.Sound.{IsSound}
use Rattle.bike_operator.specs.Counts.{is_riding}
use Rattle.bike_book.specs.Rows.{number_value}
use Rattle.bike_book.specs.Stored.{Listed, IsListing, stored_rental}
use Rattle.bike_book.specs.Found.{open_rental, open_row}
use Rattle.bike_book.proofs.FoundColumns.{found_by_columns}
use Rattle.bike_office_reads.specs.Newest.{open_number, HoldsRental}

-- the number in the row of the open rental
pub open_found : (s : Operator) (m : Listed) → IsSound s → IsListing s m → (rider : ℕ) (row : Option Row) (rental : Option ℕ) → row ≡ open_row s m rider → HoldsRental row rental
    → rental ≡ open_number s rider
open_found s m sound listing rider row rental is held = by (open_rental s rider) row rental (is ∙ (found_by_columns s m sound listing).open_rental_is rider) held
  where
    by : (o : Option (ℕ × Rental)) (row : Option Row) (rental : Option ℕ) → row ≡ option_map (stored_rental s.entries.items) o → HoldsRental row rental → rental ≡ option_map (λ e. e.0) o
    by None None None is held = refl
    by None None (Some n) is held = absurd held
    by None (Some row) rental is held = absurd cc
    by (Some e) None rental is held = absurd cc
    by (Some e) (Some row) None is held = absurd held
    by (Some e) (Some row) (Some n) is held =
        let first : column row 0 ≡ number_value e.0 = ap (λ r. column r 0) (same_Some row (stored_rental s.entries.items e) is) in
        let same : number_value n ≡ number_value e.0 = sym held ∙ first in
        cc

-- who has an open rental rides
pub rides_where_open : (s : Operator) (m : Listed) → IsSound s → IsListing s m → (rider : ℕ) → is_some (open_number s rider) ≡ is_riding s rider
rides_where_open s m sound listing rider =
    let found = found_by_columns s m sound listing in
    by (open_rental s rider) ∙ sym (ap is_some (found.open_rental_is rider)) ∙ found.riding rider
  where
    by : (o : Option (ℕ × Rental)) → is_some (option_map (λ e. e.0) o) ≡ is_some (option_map (stored_rental s.entries.items) o)
    by None = refl
    by (Some e) = refl
