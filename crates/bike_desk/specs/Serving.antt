-- What serving one request rests on.
use Rattle.std.specs.Prelude.{◌≡◌, ◌≤◌, ◌+◌, ℕ, max, List, Option, None, Ok}
use Rattle.std.specs.FinMap as map
use Rattle.sqlite.specs.Effect.{Database}
use Rattle.sqlite.specs.State.{State}
use Rattle.bike_fixed.specs.Whole.{last_moment}
use Rattle.bike_fields.specs.Caller.{caller_text}
use Rattle.bike_commands.specs.declared.command.Command.{Command}
use Rattle.bike_commands.specs.declared.reply.Reply.{Reply}
use Rattle.bike_commands.specs.declared.request.Request.{Request}
use Rattle.bike_commands.specs.Commands.{text_of}
use Rattle.bike_operator.specs.Operator.{Operator, key_in, kept_under, last_number}
use Rattle.bike_operator.specs.View.{view_of}
use Rattle.bike_operator.specs.Runs.{after_acceptance}
use Rattle.bike_operator.specs.Sound.{IsSound}
use Rattle.bike_accepted.specs.declared.accepted.Accepted.{Accepted}
use Rattle.bike_accepted.specs.Effects.{Decides}
use Rattle.bike_accepted.specs.Found.{AreFound}
use Rattle.bike_book.specs.declared.row_change.RowChange.{RowChange}
use Rattle.bike_book.specs.Stored.{Listed}
use Rattle.bike_book.specs.Leads.{LeadsTo}
use Rattle.bike_schema.specs.Stands.{Stores, Keeps}
use Rattle.bike_booking.specs.declared.texts.KeptTexts.{KeptTexts}
use Rattle.bike_booking.specs.declared.figures.Figures.{Figures}
use Rattle.bike_booking.specs.declared.stored.Stored.{Stored}
use Rattle.bike_booking.specs.Booking.{AreTexts, IsAccepted}
use Rattle.bike_booking.specs.Figures.{figures_of}
use Rattle.bike_views.specs.ViewAndDocks.{IsFoundFor, docks_for, told_of}
use Rattle.bike_views.specs.declared.view_and_docks.StationDocks.{StationDocks}
use Rattle.bike_views.specs.declared.view_and_docks.ViewAndDocks.{ViewAndDocks}
use Rattle.bike_desk.specs.declared.serve.RequestTexts.{RequestTexts}
use Rattle.bike_desk.specs.declared.serve.Outcome.{Outcome}
use Rattle.bike_desk.specs.Desk.{AreFigures}

-- the texts are those of the request's caller and command
pub record IsAsked (asked : RequestTexts) : Type 0 where
  pub caller : asked.caller.now ≡ caller_text asked.request.now.caller
  pub text : asked.text.now ≡ text_of asked.request.now.command

-- The connection keeps the operator, and the row changes lead from its tables to
-- those of the next one, which is sound.
pub record IsNextBy (c : State) (changes : List RowChange) (s next : Operator) : Type 0 where
  pub keeps : Keeps c s
  pub stores : Stores c.now s
  pub listed : Listed
  pub leads : LeadsTo changes s stores.listed next listed
  pub sound : IsSound next

-- what was read for the command of the operator whose tables the database has
abbrev pub IsFoundIn : Database → Operator → Command → ViewAndDocks → Type 0
IsFoundIn db s c x = (h : Stores db s) → IsFoundFor s h.listed c x

-- and the docks that came with it
abbrev pub AreDocksIn : Database → Operator → Command → Option StationDocks → Type 0
AreDocksIn db s c docks = (h : Stores db s) → told_of docks ≡ docks_for s h.listed c

-- What was read for a request that comes at a moment: its key isn't kept, the
-- figures and the view are the operator's, and `now` is the later of both moments.
pub record IsReadFor (db : Database) (s : Operator) (moment now : ℕ) (q : Request) (figures : Figures)
    (x : ViewAndDocks) : Type 0 where
  pub in_time : moment ≤ last_moment
  pub later : now ≡ max moment s.now
  pub anew : kept_under (key_in q) s.history.items ≡ None
  pub figures_are : figures ≡ figures_of s
  pub view_is : x.view ≡ view_of s q.command
  pub found_for : IsFoundIn db s q.command x

-- The operator accepts the request so, which comes no earlier than its moment, and then is sound; the records before
-- are its own, the figures after it have one request more, and the texts are those of both.
pub record Accepts (s : Operator) (now : ℕ) (q : Request) (a : Accepted) (after : Figures)
    (texts : KeptTexts) : Type 0 where
  pub later : s.now ≤ now
  pub decides : Decides s now q.command (Ok a)
  pub found : AreFound now s a
  pub number_is : after.requests ≡ last_number s.history + 1
  pub sound_after : IsSound (after_acceptance s now q)
  pub texts_are : AreTexts s now q texts

-- the operator whose tables the database has accepts the request so, and this is stored of what that touches
abbrev pub IsAcceptedIn : Database → Operator → ℕ → Request → Accepted → Stored → ℕ → KeptTexts → Type 0
IsAcceptedIn db s now q a n number texts = (h : Stores db s) → IsAccepted s h.listed now q a n number texts

-- What is told is the step's reply; the connection keeps the operator after it, whose figures these are.
pub record Serves (c : State) (next : Reply × Operator) (served : Outcome) : Type 0 where
  pub reply : served.reply ≡ next.0
  pub keeps : Keeps c next.1
  pub figures : AreFigures served.figures next.1
