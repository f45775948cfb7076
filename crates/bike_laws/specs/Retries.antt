-- Requests that come again: the caller and key of an accepted request are kept.
use Rattle.std.specs.Prelude.{◌≡◌, ℕ, ◌+◌, max, List, [], ◌∷◌, Bool, is_none, is_some, ◌&&◌, Some, if◌then◌else◌}
use Rattle.std.specs.Ordering.{eq_by_cmp}
use Rattle.bike_commands.specs.declared.request.Request.{Request}
use Rattle.bike_operator.specs.Operator.{Operator, AcceptedRequest, Key, key_in, kept_under, texts_cmp}
use Rattle.bike_operator.specs.Steps.{refusal_of}
use Rattle.bike_operator.specs.Runs.{Call, step}

-- a request with this caller and key was accepted
abbrev pub is_kept : Operator → Request → Bool
is_kept s q = is_some (kept_under (key_in q) s.history.items)

-- the request is accepted: its caller and key are new, and no test refuses the command
abbrev pub is_accepted : Operator → Request → Bool
is_accepted s q = is_none (kept_under (key_in q) s.history.items) && is_none (refusal_of s q.command)

-- a request as it is accepted: at the greater of its moment and the operator's
abbrev pub acceptance : Operator → ℕ → Request → AcceptedRequest
acceptance s t q = record { moment = max t s.now; request = q; reply = (step s t q).0 }

-- the history keeps this accepted request under its caller and key
abbrev pub Keeps : Operator → AcceptedRequest → Type 0
Keeps s a = kept_under (key_in a.request) s.history.items ≡ Some a

-- the request has this caller and key, and is accepted
abbrev pub accepts : Operator → Key → Request → Bool
accepts s key q = eq_by_cmp texts_cmp key (key_in q) && is_accepted s q

-- how many requests with this caller and key are accepted
abbrev pub times_accepted : Operator → Key → List Call → ℕ
times_accepted s key [] = 0
times_accepted s key (c ∷ cs) = (if accepts s key c.1 then 1 else 0) + times_accepted (step s c.0 c.1).1 key cs

-- the list without the requests whose caller and key are kept when they come
abbrev pub without_retries : Operator → List Call → List Call
without_retries s [] = []
without_retries s (c ∷ cs) = if is_kept s c.1 then without_retries s cs else c ∷ without_retries (step s c.0 c.1).1 cs
