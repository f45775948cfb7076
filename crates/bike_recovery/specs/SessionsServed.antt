-- What sessions over one store answer and leave.
use Rattle.std.specs.Prelude.{◌≡◌, List, map}
use Rattle.sqlite_trees.specs.declared.store.Store.{Ghosts}
use Rattle.bike_commands.specs.declared.reply.Reply.{Reply}
use Rattle.bike_operator.specs.Operator.{Operator}
use Rattle.bike_operator.specs.Runs.{Call}
use Rattle.bike_desk.specs.Desk.{DeskValue, IsAt}
use Rattle.bike_laws.specs.Sessions.{Session, AreSessions, after_sessions, answers_given, AcceptsOnce, AnswersAgain}
use Rattle.bike_laws.specs.Sessions.{RefusesOthers, LeavesRetriesOut}

-- THE LAWS OF RETRIES, OF WHAT WAS ANSWERED: the lists were served as sessions, each by the operator which those before
-- it left, and what was told is what they answer. So no caller and key is accepted twice, and a request that comes
-- again is answered as before, or refused.
pub record ServesSessions {S : Type 0} (g : Ghosts S) (d : DeskValue S) (s : Operator) (lists : List (List Call))
    (told : List (List Reply)) : Type 0 where
  pub served : List Session
  pub are : AreSessions served
  pub calls : map (λ x. x.calls) served ≡ lists
  pub answers : told ≡ answers_given s served
  pub at : IsAt g d (after_sessions s served)
  pub once : AcceptsOnce s served
  pub again : AnswersAgain s served
  pub reused : RefusesOthers s served
  pub without : LeavesRetriesOut s served
