use Rattle.std.proofs.Common.{codes}
use Rattle.bike_command_line.specs.Program.{on_file, value_rule}
use Rattle.bike_command_line.proofs.program.day_word.Goals as goal

pub returns-clause-app : goal.returns-clause-app
returns-clause-app c =
    let which = c.with_arg-word.ensures.app (on_file (codes "day")) (value_rule (codes "which")) c.value.ensures.rule c.value.ensures.local c.on_file.ensures.app in
    let date = c.with_arg-word-2.ensures.app _ (value_rule (codes "date")) c.value-2.ensures.rule c.value-2.ensures.local which in
    c.with_arg.ensures.app _ (value_rule (codes "zone")) c.value-3.ensures.rule c.value-3.ensures.local date

pub returns-clause-local : goal.returns-clause-local
returns-clause-local c =
    let which = c.with_arg-word.ensures.local c.value.ensures.local c.on_file.ensures.local in
    let date = c.with_arg-word-2.ensures.local c.value-2.ensures.local which in
    c.with_arg.ensures.local c.value-3.ensures.local date
