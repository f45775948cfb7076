-- Replies to accepted requests.
use Rattle.std.specs.Prelude.{◌≡◌, false}
use Rattle.bike_commands.specs.declared.reply.Reply.{Reply}
use Rattle.bike_commands.specs.Replies.{IsReply}
use Rattle.bike_operator.specs.Sound.{is_refused}

-- a reply of the program that isn't a refusal
abbrev pub IsAcceptance : Reply → Type 0
IsAcceptance reply = IsReply reply × (is_refused reply ≡ false)
