use Rattle.bike_schema.proofs.MakesLemmas.{writes_told}
use Rattle.bike_writes.proofs.TextLemmas.{bindings}
use Rattle.bike_writes.proofs.RiderTexts.{sets_balance}
use Rattle.bike_writes.proofs.riders.set_balance.Goals as goal

pub returns : goal.returns
returns g c = writes_told (sets_balance c.args.rider c.args.balance) c.run.ensures (search bindings)
