-- The statements on entries and history.
use Rattle.std.proofs.Common.{List, ℕ, refl}
use Rattle.std.specs.Borrow.{Bor}
use Rattle.bike_ledger.specs.Entries.{Entry}
use Rattle.bike_book.specs.Tables.{Entries, History}
use Rattle.bike_book.specs.Rows.{entry_row, history_row}
use Rattle.bike_writes.proofs.TextLemmas.{Makes}
use Rattle.sqlite_tied.specs.Compute.{everything}
use Rattle.bike_sql.proofs.WriteLaws.{row_put}
use Rattle.bike_book.specs.declared.row_change.RowChange.TheVariants as row
use Rattle.bike_book.specs.Writes.{write_of}
use Rattle.bike_schema.proofs.InsertTexts.{insert_text}
use Rattle.bike_schema.proofs.KeyLemmas.{unique_key}
use Rattle.bike_schema.proofs.MakesLemmas.{adds_row}

pub adds_entry : (e : Bor Entry) → Makes (insert_text Entries) (entry_row e.now.number e.now) (write_of (row.AddEntry e))
unfolding everything
adds_entry e = adds_row Entries (row_put (unique_key Entries) (λ s tree. (refl, refl, refl, λ base. refl)) refl refl (λ rows. refl))

pub adds_request : (number moment : ℕ) (caller key command reply : Bor (List ℕ)) → Makes (insert_text History) (history_row number moment caller.now key.now command.now reply.now)
    (write_of (row.AddRequest number moment caller key command reply))
unfolding everything
adds_request number moment caller key command reply = adds_row History (row_put (unique_key History) (λ s tree. (refl, refl, refl, λ base. refl)) refl refl (λ rows. refl))
