-- The statements on orders.
use Rattle.std.proofs.Common.{List, ℕ, Bool, true, [], ◌∷◌, codes, refl}
use Rattle.std.specs.Borrow.{Bor}
use Rattle.sqlite_value.specs.declared.value.Value.TheVariants.{Int}
use Rattle.bike_texts.specs.declared.ends.OrderEnd.{OrderEnd}
use Rattle.bike_book.specs.Tables.{Orders}
use Rattle.bike_book.specs.Rows.{truth, number_value, order_row}
use Rattle.bike_writes.proofs.TextLemmas.{Makes}
use Rattle.sqlite_tied.specs.Compute.{everything}
use Rattle.bike_sql.proofs.WriteLaws.{row_put, row_updated}
use Rattle.bike_accepted.specs.declared.change.Change.TheVariants as change
use Rattle.bike_book.specs.Writes.{record_write}
use Rattle.bike_schema.proofs.InsertTexts.{insert_text}
use Rattle.bike_schema.proofs.KeyLemmas.{unique_key}
use Rattle.bike_schema.proofs.MakesLemmas.{adds_row, sets_columns}

pub adds_order : (order truck : ℕ) (from_end to_end : Bor OrderEnd) (type_id : Bor (List ℕ)) (count : ℕ)
    → Makes (insert_text Orders) (order_row order (record { truck = truck; from_end = from_end.now; to_end = to_end.now; type_id = type_id.now; count = count; delivered = 0; is_open = true }))
    (record_write (change.AddOrder order truck from_end to_end type_id count))
unfolding everything
adds_order order truck from_end to_end type_id count = adds_row Orders (row_put (unique_key Orders) (λ s tree. (refl, refl, refl, λ base. refl)) refl refl (λ rows. refl))

pub sets_order : (order delivered : ℕ) (is_open : Bool) → Makes (codes "UPDATE orders SET delivered = ?2, is_open = ?3 WHERE ord = ?1")
    (number_value order ∷ number_value delivered ∷ Int (truth is_open) ∷ []) (record_write (change.SetOrder order delivered is_open))
unfolding everything
sets_order order delivered is_open = sets_columns Orders _ _ (row_updated (unique_key Orders) 0 ((6, 1) ∷ (7, 2) ∷ []) _ (λ tree. (refl, refl, refl), refl) refl refl refl (λ r. refl) (λ r. refl))
