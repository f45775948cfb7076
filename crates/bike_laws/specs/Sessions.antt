-- Sessions: what is served from a start of the program to its next stop.
use Rattle.std.specs.Prelude.{◌≡◌, ℕ, ◌+◌, ◌≤◌, List, [], ◌∷◌, ◌++◌, length, take, true, false}
use Rattle.bike_commands.specs.declared.reply.Reply.{Reply}
use Rattle.bike_commands.specs.declared.reply.Reply.TheVariants.{Refused}
use Rattle.bike_commands.specs.declared.refusal.Refusal.TheVariants.{KeyReused}
use Rattle.bike_operator.specs.Operator.{Operator, Key, key_in}
use Rattle.bike_operator.specs.Runs.{Call, is_same, step, after, replies}
use Rattle.bike_operator.specs.Sound.{AreCalls}
use Rattle.bike_laws.specs.Retries.{is_accepted, times_accepted, without_retries}

pub record Session : Type 0 where
  -- the requests that come, each at its moment
  pub calls : List Call
  -- so many of them are answered, the first ones
  pub answered : ℕ
  -- so many of them act, the first ones
  pub acting : ℕ

-- The answered requests act, and at most one more: the stop may come between a commit and its answer.
pub record IsSession (x : Session) : Type 0 where
  pub answers : x.answered ≤ x.acting
  pub one_more : x.acting ≤ x.answered + 1
  pub few : x.acting ≤ length x.calls

abbrev pub AreSessions : List Session → Type 0
AreSessions [] = Unit {0}
AreSessions (x ∷ xs) = IsSession x × AreSessions xs

-- the requests of each session are requests of the program at moments of the program
abbrev pub AreCallsOf : List Session → Type 0
AreCallsOf [] = Unit {0}
AreCallsOf (x ∷ xs) = AreCalls x.calls × AreCallsOf xs

-- the requests that act, session after session
abbrev pub all_calls : List Session → List Call
all_calls [] = []
all_calls (x ∷ xs) = take x.acting x.calls ++ all_calls xs

-- the operator after the sessions
abbrev pub after_sessions : Operator → List Session → Operator
after_sessions s xs = after s (all_calls xs)

-- what was answered, session by session: each is served by the operator which those before it leave
abbrev pub answers_given : Operator → List Session → List (List Reply)
answers_given s [] = []
answers_given s (x ∷ xs) = take x.answered (replies s x.calls) ∷ answers_given (after s (take x.acting x.calls)) xs

-- of all requests with one caller and key, in whichever sessions they come, at most one is accepted
abbrev pub AcceptsOnce : Operator → List Session → Type 0
AcceptsOnce s xs = (key : Key) → times_accepted s key (all_calls xs) ≤ 1

-- once a request was accepted, one with its caller and key and
-- an equal command is answered as it was, and changes nothing
abbrev pub AnswersAgain : Operator → List Session → Type 0
AnswersAgain s xs = (before between later : List Call) (c d : Call)
    → all_calls xs ≡ before ++ (c ∷ between) ++ later → is_accepted (after s before) c.1 ≡ true → key_in d.1 ≡ key_in c.1
    → is_same c.1.command d.1.command ≡ true
    → step (after s (before ++ c ∷ between)) d.0 d.1
    ≡ ((step (after s before) c.0 c.1).0, after s (before ++ c ∷ between))

-- and one with its caller and key and another command is refused, and changes nothing
abbrev pub RefusesOthers : Operator → List Session → Type 0
RefusesOthers s xs = (before between later : List Call) (c d : Call)
    → all_calls xs ≡ before ++ (c ∷ between) ++ later → is_accepted (after s before) c.1 ≡ true → key_in d.1 ≡ key_in c.1
    → is_same c.1.command d.1.command ≡ false
    → step (after s (before ++ c ∷ between)) d.0 d.1 ≡ (Refused KeyReused, after s (before ++ c ∷ between))

-- requests whose caller and key are kept when they come can be left out of all sessions
abbrev pub LeavesRetriesOut : Operator → List Session → Type 0
LeavesRetriesOut s xs = after s (without_retries s (all_calls xs)) ≡ after_sessions s xs
