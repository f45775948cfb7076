use Rattle.bike_schema.proofs.MakesLemmas.{writes_told}
use Rattle.bike_writes.proofs.TextLemmas.{bindings}
use Rattle.bike_writes.proofs.StationTexts.{adds_dock}
use Rattle.bike_writes.proofs.stations.add_dock.Goals as goal

pub returns : goal.returns
returns g c = writes_told (adds_dock c.args.station c.args.dock c.args.is_broken) c.run.ensures (search bindings)
