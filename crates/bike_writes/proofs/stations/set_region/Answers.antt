use Rattle.bike_schema.proofs.MakesLemmas.{writes_told}
use Rattle.bike_writes.proofs.TextLemmas.{bindings}
use Rattle.bike_writes.proofs.StationTexts.{sets_region}
use Rattle.bike_writes.proofs.stations.set_region.Goals as goal

pub returns : goal.returns
returns g c = writes_told (sets_region c.args.station c.args.region) c.run.ensures (search bindings)
