use Rattle.bike_schema.proofs.MakesLemmas.{writes_told}
use Rattle.bike_writes.proofs.TextLemmas.{bindings}
use Rattle.bike_writes.proofs.StationTexts.{sets_station}
use Rattle.bike_writes.proofs.stations.set_station.Goals as goal

pub returns : goal.returns
returns g c = writes_told (sets_station c.args.station c.args.is_installed c.args.is_renting c.args.is_returning c.args.reported) c.run.ensures (search bindings)
