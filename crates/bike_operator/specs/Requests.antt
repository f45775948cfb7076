-- Accepted requests as texts.
use Rattle.std.specs.Prelude.{ℕ, List, ◌∷◌, ◌++◌, decimal}
use Rattle.bike_fields.specs.Caller.{caller_text}
use Rattle.bike_commands.specs.Commands.{text_of}
use Rattle.bike_commands.specs.Replies.{reply_text}
use Rattle.bike_operator.specs.Operator.{AcceptedRequest}

-- an accepted request with its number: the moment in seconds, and the texts of its parts
pub record RequestTexts : Type 0 where
  pub number : ℕ
  pub moment : ℕ
  pub caller : List ℕ
  pub key : List ℕ
  pub command : List ℕ
  pub reply : List ℕ

abbrev pub request_texts : ℕ × AcceptedRequest → RequestTexts
request_texts e = record {
  number = e.0;
  moment = e.1.moment;
  caller = caller_text e.1.request.caller;
  key = e.1.request.key;
  command = text_of e.1.request.command;
  reply = reply_text e.1.reply;
}

-- The line that sends it again, at its own moment: moment, caller, key and command with a TAB between them, as request
-- lines are spelled.
abbrev pub line_again : RequestTexts → List ℕ
line_again x = decimal x.moment ++ 9 ∷ (x.caller ++ 9 ∷ (x.key ++ 9 ∷ x.command))
