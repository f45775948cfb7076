-- What stays true of a sound operator when a command is accepted.
use Rattle.std.specs.Prelude.{◌≡◌, ◌≤◌, ℕ, List, None}
use Rattle.bike_commands.specs.declared.command.Command.{Command}
use Rattle.bike_commands.specs.Commands.{IsCommand}
use Rattle.bike_operator.specs.Operator.{Operator, AcceptedRequest, Numbered}
use Rattle.bike_operator.specs.Steps.{refusal_of, effect}
use Rattle.bike_operator.specs.Sound.{IsSound}

-- The fact holds after each command that isn't refused, at a moment not before now, whatever the history is.
abbrev pub AcceptedKeeps : (Operator → Type 0) → Type 0
AcceptedKeeps Fact =
    (s : Operator) (now : ℕ) (c : Command) (history : Numbered AcceptedRequest) → IsSound s → IsCommand c
    → refusal_of s c ≡ None → s.now ≤ now → Fact (record (effect s now c) { now = now; history = history })
