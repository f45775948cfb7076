use Rattle.clap.specs.Words.{found_of}
use Rattle.bike_command_line.proofs.Parse.{value_found}
use Rattle.bike_command_line.proofs.task.value_in.Goals as goal

pub returns-in-Some : goal.returns-in-Some
returns-in-Some c =
    let rows = rw c.in-Some.is at c.subcommand.ensures.rows in
    rw (c.get_str.ensures) (value_found _ (found_of c.in-Some.found.now) c.args.id.now rows)
