use Rattle.std.proofs.Common.{codes}
use Rattle.bike_command_line.specs.Program.{on_file, value_rule}
use Rattle.bike_command_line.proofs.program.history_word.Goals as goal

pub returns-clause-app : goal.returns-clause-app
returns-clause-app c =
    c.with_arg.ensures.app (on_file (codes "history")) (value_rule (codes "after")) c.value.ensures.rule c.value.ensures.local c.on_file.ensures.app

pub returns-clause-local : goal.returns-clause-local
returns-clause-local c = c.with_arg.ensures.local c.value.ensures.local c.on_file.ensures.local
