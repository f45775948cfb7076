use Rattle.bike_schema.proofs.MakesLemmas.{writes_told}
use Rattle.bike_writes.proofs.TextLemmas.{bindings}
use Rattle.bike_writes.proofs.FleetTexts.{sets_bike}
use Rattle.bike_writes.proofs.fleet.set_bike.Goals as goal

pub returns : goal.returns
returns g c = writes_told (sets_bike c.args.bike c.args.state c.args.place.now c.columns_of-columns.result c.columns_of-columns.ensures) c.run.ensures (search bindings)
