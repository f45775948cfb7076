use Rattle.bike_schema.proofs.MakesLemmas.{writes_told}
use Rattle.bike_writes.proofs.TextLemmas.{bindings}
use Rattle.bike_writes.proofs.StationTexts.{moves_station}
use Rattle.bike_writes.proofs.stations.move_station.Goals as goal

pub returns : goal.returns
returns g c = writes_told (moves_station c.args.station c.args.position) c.run.ensures (search bindings)
