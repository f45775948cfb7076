use Rattle.bike_laws.proofs.ReplyLemmas.{reply_good}
use Rattle.bike_laws.proofs.views.reply_law.Goals as goal

pub returns : goal.returns
returns c = λ s now command order good none later. reply_good s now command order good none later
