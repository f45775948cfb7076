-- The statements on rentals.
use Rattle.std.proofs.Common.{List, ℕ, ℤ, pos, Option, None, [], ◌∷◌, codes, refl}
use Rattle.std.specs.Borrow.{Bor}
use Rattle.sqlite_value.specs.declared.value.Value.TheVariants.{Int, Text}
use Rattle.sqlite.specs.Values.{or_null}
use Rattle.bike_sql.proofs.ParamLemmas.{text_suits}
use Rattle.bike_operator.specs.Changes.{text_in}
use Rattle.bike_book.specs.Tables.{Rentals}
use Rattle.bike_book.specs.Rows.{number_value, rental_row}
use Rattle.bike_writes.proofs.TextLemmas.{Makes}
use Rattle.sqlite_tied.specs.Compute.{everything}
use Rattle.bike_sql.proofs.WriteLaws.{row_put, row_updated}
use Rattle.bike_accepted.specs.declared.change.Change.TheVariants as change
use Rattle.bike_book.specs.declared.row_change.RowChange.TheVariants as row
use Rattle.bike_book.specs.Writes.{record_write, write_of}
use Rattle.bike_schema.proofs.InsertTexts.{insert_text}
use Rattle.bike_schema.proofs.KeyLemmas.{unique_key}
use Rattle.bike_schema.proofs.MakesLemmas.{adds_row, sets_columns}

pub adds_rental : (rental rider bike : ℕ) (plan from_station : Bor (List ℕ)) (start : ℕ)
    → Makes (insert_text Rentals) (rental_row rental (record { rider = rider; bike = bike; plan = plan.now; from_station = from_station.now; start = start; closing = None }) (pos 0))
    (record_write (change.AddRental rental rider bike plan from_station start))
unfolding everything
adds_rental rental rider bike plan from_station start = adds_row Rentals (row_put (unique_key Rentals) (λ s tree. (refl, refl, refl, λ base. refl)) refl refl (λ rows. refl))

pub closes_rental : (rental : ℕ) (to_station : Option (Bor (List ℕ))) (finish : ℕ) (fare : ℤ)
    → Makes (codes "UPDATE rentals SET to_station = ?2, finish = ?3, fare = ?4 WHERE rental = ?1") (number_value rental ∷ or_null Text (text_in to_station) ∷ number_value finish ∷ Int fare ∷ [])
    (record_write (change.CloseRental rental to_station finish fare))
unfolding everything
closes_rental rental to_station finish fare =
    sets_columns Rentals _ _ (row_updated (unique_key Rentals) 0 ((6, 1) ∷ (7, 2) ∷ (8, 3) ∷ []) _ (λ tree. (refl, refl, refl), refl) refl refl (rw (text_suits (text_in to_station))) (λ r. refl)
    (λ r. refl))

pub sets_refunded : (rental : ℕ) (refunded : ℤ) → Makes (codes "UPDATE rentals SET refunded = ?2 WHERE rental = ?1") (number_value rental ∷ Int refunded ∷ [])
    (write_of (row.SetRefunded rental refunded))
unfolding everything
sets_refunded rental refunded = sets_columns Rentals _ _ (row_updated (unique_key Rentals) 0 ((9, 1) ∷ []) _ (λ tree. (refl, refl, refl), refl) refl refl refl (λ r. refl) (λ r. refl))
