use Rattle.std.proofs.Common.{codes}
use Rattle.bike_command_line.specs.Program.{on_file, option_rule, value_rule}
use Rattle.bike_command_line.proofs.program.named_word.Goals as goal

pub returns-clause-app : goal.returns-clause-app
returns-clause-app c =
    let named = c.with_arg-word.ensures.app (on_file c.args.name.now) (value_rule (codes "name")) c.value.ensures.rule c.value.ensures.local c.on_file.ensures.app in
    c.with_arg.ensures.app _ (option_rule (codes "at")) c.option.ensures.rule c.option.ensures.local named

pub returns-clause-local : goal.returns-clause-local
returns-clause-local c = c.with_arg.ensures.local c.option.ensures.local (c.with_arg-word.ensures.local c.value.ensures.local c.on_file.ensures.local)
