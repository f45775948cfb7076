use Rattle.bike_schema.proofs.MakesLemmas.{writes_told}
use Rattle.bike_writes.proofs.TextLemmas.{bindings}
use Rattle.bike_writes.proofs.StationTexts.{sets_bikes_reported}
use Rattle.bike_writes.proofs.stations.set_bikes_reported.Goals as goal

pub returns : goal.returns
returns g c =
    writes_told (sets_bikes_reported c.args.station.now c.args.free c.args.broken c.args.by_type.now c.args.reported) c.run.ensures (search bindings)
