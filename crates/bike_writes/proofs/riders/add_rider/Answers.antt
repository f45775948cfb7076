use Rattle.bike_schema.proofs.MakesLemmas.{writes_told}
use Rattle.bike_writes.proofs.TextLemmas.{bindings}
use Rattle.bike_writes.proofs.RiderTexts.{adds_rider}
use Rattle.bike_writes.proofs.riders.add_rider.Goals as goal

pub returns : goal.returns
returns g c = writes_told (adds_rider c.args.rider) c.run.ensures (search bindings)
