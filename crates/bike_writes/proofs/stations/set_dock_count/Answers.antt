use Rattle.bike_schema.proofs.MakesLemmas.{writes_told}
use Rattle.bike_writes.proofs.TextLemmas.{bindings}
use Rattle.bike_writes.proofs.StationTexts.{sets_dock_count}
use Rattle.bike_writes.proofs.stations.set_dock_count.Goals as goal

pub returns : goal.returns
returns g c = writes_told (sets_dock_count c.args.station c.args.docks c.args.free) c.run.ensures (search bindings)
