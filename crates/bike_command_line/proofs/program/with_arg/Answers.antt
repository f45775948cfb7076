use Rattle.std.proofs.lemmas.Result.{IfOk-weaker}
use Rattle.bike_command_line.proofs.Building.{arg_added, stays_local}
use Rattle.bike_command_line.proofs.program.with_arg.Goals as goal

pub returns-clause-app : goal.returns-clause-app
returns-clause-app c = λ shape rule is own word_is.
    IfOk-weaker c.arg.result _ _ (λ made added. arg_added shape rule is own (rw c.in_ok-word.was at word_is) added) c.arg.ensures

pub returns-clause-local : goal.returns-clause-local
returns-clause-local c = λ own local.
    IfOk-weaker c.arg.result _ _ (λ made added. stays_local own (rw c.in_ok-word.was at local) added) c.arg.ensures
