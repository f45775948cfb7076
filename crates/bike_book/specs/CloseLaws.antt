-- The row changes that book the close of a request: its entry, and its row of the history.
use Rattle.std.specs.Prelude.{◌≡◌, ◌≤◌, ◌+◌, ◌+ℤ◌, ℕ, ℤ, pos, List, [], ◌∷◌, Some}
use Rattle.std.specs.Borrow.{Bor}
use Rattle.bike_fields.specs.Caller.{caller_text}
use Rattle.bike_ledger.specs.Entries.{Entry}
use Rattle.bike_ledger.specs.Ledger.{credit, given_back, refunded_of}
use Rattle.bike_commands.specs.declared.reply.Reply.{Reply}
use Rattle.bike_commands.specs.declared.request.Request.{Request}
use Rattle.bike_commands.specs.Commands.{text_of}
use Rattle.bike_commands.specs.Replies.{reply_text}
use Rattle.bike_operator.specs.Operator.{Operator, last_number, with_item}
use Rattle.bike_operator.specs.View.{rider_balance}
use Rattle.bike_operator.specs.Changes.{entry_added}
use Rattle.bike_book.specs.declared.row_change.RowChange.TheVariants as row
use Rattle.bike_book.specs.Stored.{Listed, IsListing}
use Rattle.bike_book.specs.Between.{Books}

-- an operator at the moment of a request, which stands at the end of its history
abbrev pub after_close : ℕ → Request → Reply → Operator → Operator
after_close now q reply s =
    record s { now = now; history = with_item (record { moment = now; request = q; reply = reply }) s.history }

-- the texts are those of the request and of its reply
pub record AreTextsOf (q : Request) (r : Reply) (caller key command reply : List ℕ) : Type 0 where
  pub caller_is : caller ≡ caller_text q.caller
  pub key_is : key ≡ q.key
  pub command_is : command ≡ text_of q.command
  pub reply_is : reply ≡ reply_text r

-- The entry is the next, and the balance is its rider's after it.
pub record AreNumbersWith (s : Operator) (e : Entry) (balance : ℤ) : Type 0 where
  pub number_is : e.number ≡ last_number s.entries + 1
  pub balance_is : balance ≡ rider_balance s e.rider +ℤ credit e.kind e.amount

module _ (s : Operator) (m : Listed) (now : ℕ) (q : Request) (r : Reply) (number : ℕ)
    (caller key command reply : Bor (List ℕ)) where
  -- no money moves
  abbrev pub QuietCloseLaw : Type 0
  QuietCloseLaw = Books (row.AddRequest number now caller key command reply ∷ []) s m (after_close now q r s) m

  -- an entry that gives nothing back, as a top-up or a fare
  abbrev pub EntryCloseLaw : Type 0
  EntryCloseLaw =
      (e : Bor Entry) (balance : ℤ) → AreNumbersWith s e.now balance
      → given_back e.now.kind e.now.amount ≡ pos 0
      → Books (row.AddEntry e ∷ row.SetBalance e.now.rider balance
      ∷ row.AddRequest number now caller key command reply ∷ []) s m
      (after_close now q r (entry_added (Some e.now) s)) m

  -- a refund
  abbrev pub RefundCloseLaw : Type 0
  RefundCloseLaw =
      (e : Bor Entry) (balance refunded : ℤ) → AreNumbersWith s e.now balance
      → refunded ≡ refunded_of e.now.rental s.entries.items +ℤ given_back e.now.kind e.now.amount
      → Books (row.AddEntry e ∷ row.SetBalance e.now.rider balance ∷ row.SetRefunded e.now.rental refunded
      ∷ row.AddRequest number now caller key command reply ∷ []) s m
      (after_close now q r (entry_added (Some e.now) s)) m

-- The law holds of each operator whose rows are listed right, for each request that comes no earlier than its moment
-- and each reply, their texts, and the number of the next request.
abbrev pub AtEachClose : (Operator → Listed → ℕ → Request → Reply → ℕ → Bor (List ℕ) → Bor (List ℕ) → Bor (List ℕ)
    → Bor (List ℕ) → Type 0) → Type 0
AtEachClose Law =
    (s : Operator) (m : Listed) (now : ℕ) (q : Request) (r : Reply) (number : ℕ)
    (caller key command reply : Bor (List ℕ)) → IsListing s m → s.now ≤ now → number ≡ last_number s.history + 1
    → AreTextsOf q r caller.now key.now command.now reply.now → Law s m now q r number caller key command reply
