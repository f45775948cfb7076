use Rattle.bike_schema.proofs.MakesLemmas.{writes_told}
use Rattle.bike_writes.proofs.TextLemmas.{bindings}
use Rattle.bike_writes.proofs.StationTexts.{adds_station}
use Rattle.bike_writes.proofs.stations.add_station.Goals as goal

pub returns : goal.returns
returns g c = writes_told (adds_station c.args.station c.args.reported) c.run.ensures (search bindings)
