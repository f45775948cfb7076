-- How a request line is spelled.
use Rattle.std.specs.Prelude.{◌≡◌, ℕ, ◌≤◌, List, ◌∷◌, ◌++◌, length, decimal}
use Rattle.std.specs.Str.{IsUtf8}
use Rattle.bike_fields.specs.Caller.{caller_text}
use Rattle.bike_commands.specs.declared.request.Request.{Request}
use Rattle.bike_commands.specs.declared.request.TheConstants.{LINE_LENGTH}
use Rattle.bike_commands.specs.Commands.{IsSpelling}
pub use Rattle.bike_commands.specs.RequestFields.{IsRequest}

-- the greatest length of a line in bytes, its LF not counted
abbrev pub line_length : ℕ
line_length = LINE_LENGTH

-- The line is short and UTF-8. It is the moment in seconds, the caller,
-- the key and a text that spells the command, with a TAB between them.
pub record IsLine (line : List ℕ) (moment : ℕ) (q : Request) : Type 0 where
  pub short : length line ≤ line_length
  pub utf8 : IsUtf8 line
  pub command : List ℕ
  pub spelled : IsSpelling command q.command
  pub joined : line ≡ decimal moment ++ 9 ∷ (caller_text q.caller ++ 9 ∷ (q.key ++ 9 ∷ command))
