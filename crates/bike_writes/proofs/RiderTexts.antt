-- The statements on riders.
use Rattle.std.proofs.Common.{ℕ, ℤ, pos, Bool, [], ◌∷◌, codes, refl}
use Rattle.sqlite_value.specs.declared.value.Value.TheVariants.{Int}
use Rattle.bike_operator.specs.Steps.{new_rider}
use Rattle.bike_book.specs.Tables.{Riders}
use Rattle.bike_book.specs.Rows.{truth, number_value, rider_row}
use Rattle.bike_writes.proofs.TextLemmas.{Makes}
use Rattle.sqlite_tied.specs.Compute.{everything}
use Rattle.bike_sql.proofs.WriteLaws.{row_put, row_updated}
use Rattle.bike_accepted.specs.declared.change.Change.TheVariants as change
use Rattle.bike_book.specs.declared.row_change.RowChange.TheVariants as row
use Rattle.bike_book.specs.Writes.{record_write, write_of}
use Rattle.bike_schema.proofs.InsertTexts.{insert_text}
use Rattle.bike_schema.proofs.KeyLemmas.{unique_key}
use Rattle.bike_schema.proofs.MakesLemmas.{adds_row, sets_columns}

pub adds_rider : (rider : ℕ) → Makes (insert_text Riders) (rider_row rider new_rider (pos 0)) (record_write (change.AddRider rider))
unfolding everything
adds_rider rider = adds_row Riders (row_put (unique_key Riders) (λ s tree. (refl, refl, refl, λ base. refl)) refl refl (λ rows. refl))

pub sets_rider : (rider : ℕ) (blocked : Bool) → Makes (codes "UPDATE riders_4 SET blocked = ?2 WHERE rider = ?1") (number_value rider ∷ Int (truth blocked) ∷ [])
    (record_write (change.SetRider rider blocked))
unfolding everything
sets_rider rider blocked = sets_columns Riders _ _ (row_updated (unique_key Riders) 0 ((1, 1) ∷ []) _ (λ tree. (refl, refl, refl), refl) refl refl refl (λ r. refl) (λ r. refl))

pub sets_balance : (rider : ℕ) (balance : ℤ) → Makes (codes "UPDATE riders_4 SET balance = ?2 WHERE rider = ?1") (number_value rider ∷ Int balance ∷ []) (write_of (row.SetBalance rider balance))
unfolding everything
sets_balance rider balance = sets_columns Riders _ _ (row_updated (unique_key Riders) 0 ((2, 1) ∷ []) _ (λ tree. (refl, refl, refl), refl) refl refl refl (λ r. refl) (λ r. refl))
