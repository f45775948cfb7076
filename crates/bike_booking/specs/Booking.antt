-- The law of an accepted request: its row changes lead to the tables of the operator after it.
use Rattle.std.specs.Prelude.{◌≡◌, ◌≤◌, ◌+◌, ℕ, List, Ok}
use Rattle.bike_fields.specs.Caller.{caller_text}
use Rattle.bike_commands.specs.declared.request.Request.{Request}
use Rattle.bike_commands.specs.Commands.{text_of}
use Rattle.bike_commands.specs.Replies.{reply_text}
use Rattle.bike_operator.specs.Operator.{Operator, last_number}
use Rattle.bike_operator.specs.Steps.{reply_of}
use Rattle.bike_operator.specs.Runs.{after_acceptance}
use Rattle.bike_operator.specs.Sound.{IsSound}
use Rattle.bike_book.specs.declared.row_change.RowChange.{RowChange}
use Rattle.bike_book.specs.Stored.{Listed, IsListing}
use Rattle.bike_book.specs.Leads.{LeadsTo}
use Rattle.bike_book.specs.Writes.{writes_of}
use Rattle.bike_accepted.specs.declared.accepted.Accepted.{Accepted}
use Rattle.bike_accepted.specs.Effects.{Decides}
use Rattle.bike_accepted.specs.Found.{AreFound}
use Rattle.bike_booking.specs.Stored.{IsStored}
use Rattle.bike_booking.specs.Writes.{writes_of_accepted}
use Rattle.bike_booking.specs.declared.stored.Stored.{Stored}
use Rattle.bike_booking.specs.declared.texts.KeptTexts.{KeptTexts}

-- the texts are those of the request and of its reply
pub record AreTexts (s : Operator) (now : ℕ) (q : Request) (texts : KeptTexts) : Type 0 where
  pub caller : texts.caller.now ≡ caller_text q.caller
  pub key : texts.key.now ≡ q.key
  pub command : texts.command.now ≡ text_of q.command
  pub reply : texts.reply.now ≡ reply_text (reply_of s now q.command)

-- What is known of an acceptance: the request comes no earlier than the operator's moment, the operator decides so, the
-- records before are its own, what is stored was read, and the number is that of the next request.
pub record IsAccepted (s : Operator) (m : Listed) (now : ℕ) (q : Request) (a : Accepted) (n : Stored)
    (number : ℕ) (texts : KeptTexts) : Type 0 where
  pub sound : IsSound s
  pub listing : IsListing s m
  pub later : s.now ≤ now
  pub decides : Decides s now q.command (Ok a)
  pub found : AreFound now s a
  pub stored : IsStored s m a n
  pub number_is : number ≡ last_number s.history + 1
  pub texts_are : AreTexts s now q texts
  pub sound_after : IsSound (after_acceptance s now q)

-- The row changes lead from the operator's tables to those of the operator that accepted the request.
pub record Books (changes : List RowChange) (s : Operator) (m : Listed) (now : ℕ) (q : Request) : Type 0 where
  pub listed : Listed
  pub leads : LeadsTo changes s m (after_acceptance s now q) listed

abbrev pub BooksAccepted : Type 0
BooksAccepted =
    (s : Operator) (m : Listed) (now : ℕ) (q : Request) (a : Accepted) (n : Stored) (number : ℕ) (texts : KeptTexts)
    (rows : List RowChange)
    → IsAccepted s m now q a n number texts → writes_of rows ≡ writes_of_accepted now n number texts a
    → Books rows s m now q
