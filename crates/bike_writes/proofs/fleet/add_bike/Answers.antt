use Rattle.bike_schema.proofs.MakesLemmas.{writes_told}
use Rattle.bike_writes.proofs.TextLemmas.{bindings}
use Rattle.bike_writes.proofs.FleetTexts.{adds_bike}
use Rattle.bike_writes.proofs.fleet.add_bike.Goals as goal

pub returns : goal.returns
returns g c = writes_told (adds_bike c.args.bike c.args.type_id) c.run.ensures (search bindings)
