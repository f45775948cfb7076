-- Texts that spell something.
use Rattle.std.specs.Prelude.{ℕ, ◌≤◌, List}
use Rattle.bike_fixed.specs.Whole.{last_moment}
use Rattle.bike_commands.specs.declared.command.Command.{Command}
use Rattle.bike_commands.specs.declared.request.Request.{Request}
use Rattle.bike_commands.specs.Commands.{IsSpelling, IsCommand}
use Rattle.bike_commands.specs.Requests.{IsRequest, IsLine}

-- The text spells a command.
pub record SpellsCommand (text : List ℕ) : Type 0 where
  pub command : Command
  pub spelled : IsSpelling text command
  pub good : IsCommand command

-- The line spells a request, with the moment at which it comes.
pub record SpellsRequest (line : List ℕ) : Type 0 where
  pub moment : ℕ
  pub request : Request
  pub spelled : IsLine line moment request
  pub good : IsRequest request
  pub moment_good : moment ≤ last_moment
