use Rattle.std.proofs.lemmas.Result.{IfOk-weaker}
use Rattle.bike_command_line.proofs.Building.{word_added}
use Rattle.bike_command_line.proofs.program.with_word.Goals as goal

pub returns : goal.returns
returns c = λ app shape is word_is local.
    IfOk-weaker c.subcommand.result _ _ (λ made added.
    word_added app shape (rw c.in_ok-program.was at is) (rw c.in_ok-word.was at word_is) (rw c.in_ok-word.was at local) added)
    c.subcommand.ensures
