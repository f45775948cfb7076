-- The row changes that book the close of a request: its entry, and its row of the history.
use Rattle.std.proofs.Common.{◌≡◌, ℕ, ◌+◌, List, [], ◌∷◌, ◌++◌, length, Some, refl, ◌∙◌}
use Rattle.std.specs.Prelude.{map}
use Rattle.bike_sql.specs.View.{put_row_by}
use Rattle.bike_commands.specs.declared.reply.Reply.{Reply}
use Rattle.bike_commands.specs.declared.request.Request.{Request}
use Rattle.bike_operator.specs.Operator.{AcceptedRequest, Numbered, last_number, with_item}
use Rattle.bike_operator.specs.Changes.{entry_added}
use Rattle.bike_laws.proofs.SingleSteps.CatalogueLemmas.{same_docks}
use Rattle.bike_book.specs.Rows.{history_row}
use Rattle.bike_book.specs.Stored.{with_numbers, stored_request}
use Rattle.bike_book.specs.Between.{tables_between}
use Rattle.bike_book.specs.CloseLaws.{after_close, AreTextsOf, QuietCloseLaw, EntryCloseLaw, RefundCloseLaw, AtEachClose}
use Rattle.bike_book.proofs.NumberRows.{put_number}
use Rattle.bike_book.proofs.ListingLemmas.{listing_closed}
use Rattle.bike_book.proofs.LedgerRows.{entry_put, balance_set, rentals_same, refunded_set}

-- ---- the request

request_put : (h : Numbered AcceptedRequest) (now : ℕ) (q : Request) (r : Reply) (number : ℕ) (caller key command reply : List ℕ) → number ≡ last_number h + 1 → AreTextsOf q r caller key command reply
    → put_row_by 1 (history_row number now caller key command reply) (map stored_request (with_numbers h))
    ≡ map stored_request (with_numbers (with_item (record { moment = now; request = q; reply = r }) h))
request_put h now q r number caller key command reply is texts =
    (λ i. put_row_by 1 (history_row number now (texts.caller_is i) (texts.key_is i) (texts.command_is i) (texts.reply_is i)) (map stored_request (with_numbers h)))
    ∙ put_number stored_request stored_request (λ e. refl) (λ e. refl) h number (record { moment = now; request = q; reply = r }) is (λ e apart. refl)

-- ---- the close

pub close_quiet : AtEachClose QuietCloseLaw
close_quiet s m now q r number caller key command reply listing later is texts =
    let n = after_close now q r s in
    let history = request_put s.history now q r number caller.now key.now command.now reply.now is texts in
    record {
      leads = λ i. record (tables_between s m) { history = history i };
      listing = listing_closed s n m (record { moment = now; request = q; reply = r }) (same_docks s n refl) refl refl refl later listing;
    }

pub close_entry : AtEachClose EntryCloseLaw
close_entry s m now q r number caller key command reply listing later is texts e balance with none =
    let n = after_close now q r (entry_added (Some e.now) s) in
    let history = request_put s.history now q r number caller.now key.now command.now reply.now is texts in
    let entries = entry_put s.entries e.now with.number_is in
    let riders = balance_set s.riders s.entries.items e.now balance with.balance_is in
    let rentals = rentals_same s.rentals s.entries.items e.now none in
    record {
      leads = λ i. record (tables_between s m) { history = history i; entries = entries i; riders = riders i; rentals = rentals i };
      listing = listing_closed s n m (record { moment = now; request = q; reply = r }) (same_docks s n refl) refl refl refl later listing;
    }

pub close_refund : AtEachClose RefundCloseLaw
close_refund s m now q r number caller key command reply listing later is texts e balance refunded with refunded_is =
    let n = after_close now q r (entry_added (Some e.now) s) in
    let history = request_put s.history now q r number caller.now key.now command.now reply.now is texts in
    let entries = entry_put s.entries e.now with.number_is in
    let riders = balance_set s.riders s.entries.items e.now balance with.balance_is in
    let rentals = refunded_set s.rentals s.entries.items e.now refunded refunded_is in
    record {
      leads = λ i. record (tables_between s m) { history = history i; entries = entries i; riders = riders i; rentals = rentals i };
      listing = listing_closed s n m (record { moment = now; request = q; reply = r }) (same_docks s n refl) refl refl refl later listing;
    }
