use Rattle.std.proofs.Common.{sym, ap, ◌∙◌}
use Rattle.bike_commands.specs.Refusals.{refusal_of}
use Rattle.bike_commands.proofs.ReplyLaws.{refusal_found}
use Rattle.bike_commands.proofs.reply.refusal_with.Goals as goal

pub returns : goal.returns
returns c = sym (refusal_found c.get.result c.from_number.result c.from_number.ensures.found c.from_number.ensures.only) ∙ ap refusal_of c.get.ensures.value
