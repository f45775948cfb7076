-- What the rows of a table spell.
use Rattle.std.proofs.Common.{◌≡◌, ℕ, ℤ, List, [], ◌∷◌, ◌++◌, map, Option, Some, None, refl, ap}
use Rattle.std.specs.Prelude.{option_map}
use Rattle.std.specs.List.{fold, filter_map, cons_option}
use Rattle.sqlite_value.specs.Order.{Row}
use Rattle.bike_ledger.specs.Entries.{Entry}
use Rattle.bike_operator.specs.declared.records.Rental.{Rental}
use Rattle.bike_readings.specs.Readings.{rental_read, entry_read}
use Rattle.bike_readings.specs.ReadOff.{rental_in, entry_in}

pub fold_append : {A B : Type 0} (f : B → A → B) (b : B) (xs ys : List A) → fold f b (xs ++ ys) ≡ fold f (fold f b xs) ys
fold_append f b [] ys = refl
fold_append f b (x ∷ xs) ys = fold_append f (f b x) xs ys

-- the rental of a row, without what is stored beside it
abbrev pub rental_of_row : Row → Option Rental
rental_of_row row = option_map (λ e. e.1) (rental_read row)

pub rentals_read : (rows : List Row) → map (λ e. e.1) (filter_map rental_in rows) ≡ filter_map rental_of_row rows
rentals_read [] = refl
rentals_read (r ∷ rows) = go (rental_read r) (rentals_read rows) where
  go : (o : Option (ℕ × Rental × ℤ)) → map (λ e. e.1) (filter_map rental_in rows) ≡ filter_map rental_of_row rows
      → map (λ e. e.1) (cons_option (option_map (λ (e : ℕ × Rental × ℤ). (e.0, e.1)) o) (filter_map rental_in rows))
      ≡ cons_option (option_map (λ (e : ℕ × Rental × ℤ). e.1) o) (filter_map rental_of_row rows)
  go None rest = rest
  go (Some e) rest = ap (λ (rs : List Rental). e.1 ∷ rs) rest

pub entries_read : (rows : List Row) → map (λ e. e.1) (filter_map entry_in rows) ≡ filter_map entry_read rows
entries_read [] = refl
entries_read (r ∷ rows) = go (entry_read r) (entries_read rows) where
  go : (o : Option Entry) → map (λ e. e.1) (filter_map entry_in rows) ≡ filter_map entry_read rows
      → map (λ e. e.1) (cons_option (option_map (λ (e : Entry). (e.number, e)) o) (filter_map entry_in rows)) ≡ cons_option o (filter_map entry_read rows)
  go None rest = rest
  go (Some e) rest = ap (λ (es : List Entry). e ∷ es) rest
