use Rattle.std.proofs.Common.{codes}
use Rattle.bike_command_line.specs.Program.{on_file, option_rule}
use Rattle.bike_command_line.proofs.program.serve_word.Goals as goal

pub returns-clause-app : goal.returns-clause-app
returns-clause-app c =
    let port = c.with_arg-word.ensures.app (on_file (codes "serve")) (option_rule (codes "port")) c.option.ensures.rule c.option.ensures.local c.on_file.ensures.app in
    c.with_arg.ensures.app _ (option_rule (codes "count")) c.option-2.ensures.rule c.option-2.ensures.local port

pub returns-clause-local : goal.returns-clause-local
returns-clause-local c = c.with_arg.ensures.local c.option-2.ensures.local (c.with_arg-word.ensures.local c.option.ensures.local c.on_file.ensures.local)
