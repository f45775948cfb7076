-- The fields of a request, and their bounds.
use Rattle.std.specs.Prelude.{◌≡◌, ℕ, List, true}
use Rattle.bike_fields.specs.Bytes.{is_key}
use Rattle.bike_fields.specs.Caller.{IsCaller}
use Rattle.bike_fields.specs.declared.caller.Caller.{Caller}
use Rattle.bike_commands.specs.declared.command.Command.{Command}
use Rattle.bike_commands.specs.Commands.{IsCommand}

-- who sends it, the sender's own name for it, and what it asks for
pub record RequestFields : Type 0 where
  pub caller : Caller
  pub key : List ℕ
  pub command : Command

-- caller, key and command keep their bounds, as those of every request of the program do
pub record IsRequest (q : RequestFields) : Type 0 where
  pub caller : IsCaller q.caller
  pub key : is_key q.key ≡ true
  pub command : IsCommand q.command
