-- One step of the operator, and a list of steps.
use Rattle.std.specs.Prelude.{ℕ, max, List, [], ◌∷◌, Bool, Option, Some, None, if◌then◌else◌}
use Rattle.std.specs.Str.{bytes_eq}
use Rattle.bike_commands.specs.declared.command.Command.{Command}
use Rattle.bike_commands.specs.declared.reply.Reply.{Reply}
use Rattle.bike_commands.specs.declared.reply.Reply.TheVariants.{Refused}
use Rattle.bike_commands.specs.declared.refusal.Refusal.{Refusal}
use Rattle.bike_commands.specs.declared.refusal.Refusal.TheVariants as refusal
use Rattle.bike_commands.specs.declared.request.Request.{Request}
use Rattle.bike_commands.specs.Commands.{text_of}
use Rattle.bike_operator.specs.Operator.{Operator, AcceptedRequest, key_in, kept_under, with_item}
use Rattle.bike_operator.specs.Steps.{refusal_of, effect, reply_of}

-- two commands are equal exactly where their texts are
abbrev pub is_same : Command → Command → Bool
is_same c d = bytes_eq (text_of c) (text_of d)

-- the acceptance rule: after an accepted request at a moment,
-- now it is that moment, and the history ends with it and its reply
abbrev pub after_acceptance : Operator → ℕ → Request → Operator
after_acceptance s now q =
    record (effect s now q.command) {
      now = now;
      history = with_item (record { moment = now; request = q; reply = reply_of s now q.command }) s.history;
    }

-- the refusal rule: a refused request changes nothing
abbrev pub outcome : Operator → ℕ → Request → Option Refusal → Reply × Operator
outcome s now q (Some r) = (Refused r, s)
outcome s now q None = (reply_of s now q.command, after_acceptance s now q)

-- The kept-key rule: a kept key answers an equal command as before and refuses another, and nothing changes.
-- The now rule: else the moment is the greater of the request's and the operator's.
abbrev pub outcome_with_kept : Operator → ℕ → Request → Option AcceptedRequest → Reply × Operator
outcome_with_kept s t q (Some a) =
    (if is_same a.request.command q.command then a.reply else Refused refusal.KeyReused, s)
outcome_with_kept s t q None = outcome s (max t s.now) q (refusal_of s q.command)

-- One step: a request that comes at a moment.
abbrev pub step : Operator → ℕ → Request → Reply × Operator
step s t q = outcome_with_kept s t q (kept_under (key_in q) s.history.items)

-- a request and the moment at which it comes
abbrev pub Call : Type 0
Call = ℕ × Request

-- the operator after a list of requests
abbrev pub after : Operator → List Call → Operator
after s [] = s
after s (c ∷ cs) = after (step s c.0 c.1).1 cs

-- the replies to them
abbrev pub replies : Operator → List Call → List Reply
replies s [] = []
replies s (c ∷ cs) = (step s c.0 c.1).0 ∷ replies (step s c.0 c.1).1 cs
