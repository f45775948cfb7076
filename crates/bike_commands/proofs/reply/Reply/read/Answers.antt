use Rattle.std.proofs.Common.{ap, ◌∙◌}
use Rattle.bike_commands.specs.ReplyReaders.{reply_at}
use Rattle.bike_commands.proofs.ReplyLaws.{read_found, read_only}
use Rattle.bike_commands.proofs.reply.Reply.read.Goals as goal

pub returns-clause-found : goal.returns-clause-found
returns-clause-found c = read_found c.args.text.now c.read_reply.result (c.read_reply.ensures ∙ ap reply_at c.of.ensures)

pub returns-clause-only : goal.returns-clause-only
returns-clause-only c = read_only c.args.text.now c.read_reply.result (c.read_reply.ensures ∙ ap reply_at c.of.ensures)
