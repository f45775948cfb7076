use Rattle.bike_schema.proofs.MakesLemmas.{writes_told}
use Rattle.bike_writes.proofs.TextLemmas.{bindings}
use Rattle.bike_writes.proofs.RiderTexts.{sets_rider}
use Rattle.bike_writes.proofs.riders.set_rider.Goals as goal

pub returns : goal.returns
returns g c = writes_told (sets_rider c.args.rider c.args.is_blocked) c.run.ensures (search bindings)
