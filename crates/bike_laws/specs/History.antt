-- What a list of requests adds to the history of an operator, and how a history is served again.
use Rattle.std.specs.Prelude.{◌≡◌, ℕ, ◌≤◌, length, drop, List, [], ◌∷◌, ◌++◌, map, if◌then◌else◌}
use Rattle.bike_commands.specs.declared.reply.Reply.{Reply}
use Rattle.bike_operator.specs.Operator.{Operator, AcceptedRequest, no_operator}
use Rattle.bike_operator.specs.Runs.{Call, step, after, replies}
use Rattle.bike_laws.specs.Retries.{is_accepted, acceptance}

-- what a list of requests adds to the history: those that are accepted. One that is refused adds nothing, and so does
-- one that was accepted before.
abbrev pub accepted_of : Operator → List Call → List AcceptedRequest
accepted_of s [] = []
accepted_of s (c ∷ cs) =
    (if is_accepted s c.1 then acceptance s c.0 c.1 ∷ [] else []) ++ accepted_of (step s c.0 c.1).1 cs

-- a history as requests, each at the moment that it has there
abbrev pub calls_of : List AcceptedRequest → List Call
calls_of history = map (λ a. (a.moment, a.request)) history

abbrev pub replies_of : List AcceptedRequest → List Reply
replies_of history = map (λ a. a.reply) history

-- the moment of the last, or this one where there is none
abbrev pub last_moment_of : ℕ → List AcceptedRequest → ℕ
last_moment_of now [] = now
last_moment_of now (a ∷ history) = last_moment_of a.moment history

-- no moment lies before one that stands earlier, nor before this one
abbrev pub IsInOrder : ℕ → List AcceptedRequest → Type 0
IsInOrder now [] = Unit {0}
IsInOrder now (a ∷ history) = (now ≤ a.moment) × IsInOrder a.moment history

-- THE HISTORY IS THE CITY: what a list adds to the history are the requests that are accepted. Served at their moments
-- they lead to the same operator, and are answered as they were.
pub record IsServedAgain (s : Operator) (cs : List Call) : Type 0 where
  pub added : (after s cs).history.items ≡ s.history.items ++ accepted_of s cs
  pub none_archived : (after s cs).history.archived ≡ s.history.archived
  pub behind : drop (length s.history.items) (after s cs).history.items ≡ accepted_of s cs
  pub operator : after s (calls_of (accepted_of s cs)) ≡ after s cs
  pub answers : replies s (calls_of (accepted_of s cs)) ≡ replies_of (accepted_of s cs)

-- the whole history of an operator makes it again from the operator of which nothing was asked
pub record IsMadeAgain (s : Operator) : Type 0 where
  pub operator : after no_operator (calls_of s.history.items) ≡ s
  pub answers : replies no_operator (calls_of s.history.items) ≡ replies_of s.history.items
