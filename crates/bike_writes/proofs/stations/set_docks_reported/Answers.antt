use Rattle.bike_schema.proofs.MakesLemmas.{writes_told}
use Rattle.bike_writes.proofs.TextLemmas.{bindings}
use Rattle.bike_writes.proofs.StationTexts.{sets_docks_reported}
use Rattle.bike_writes.proofs.stations.set_docks_reported.Goals as goal

pub returns : goal.returns
returns g c = writes_told (sets_docks_reported c.args.station c.args.free c.args.broken c.args.reported) c.run.ensures (search bindings)
