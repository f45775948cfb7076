use Rattle.bike_schema.proofs.MakesLemmas.{writes_told}
use Rattle.bike_writes.proofs.TextLemmas.{bindings}
use Rattle.bike_writes.proofs.FleetTexts.{adds_truck}
use Rattle.bike_writes.proofs.fleet.add_truck.Goals as goal

pub returns : goal.returns
returns g c = writes_told (adds_truck c.args.truck c.args.capacity) c.run.ensures (search bindings)
