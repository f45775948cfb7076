use Rattle.bike_schema.proofs.AnswerLemmas.{answers_made}
use Rattle.bike_fleet_reads.proofs.FoundLemmas.{station_found}
use Rattle.bike_fleet_reads.proofs.stations.find_station.Goals as goal

pub returns : goal.returns
returns g c = answers_made c.in_ok-row.ensures c.station_of.ensures (λ db x is held s h. station_found s h.listed h.sound h.listing c.args.station.now _ x (is s h) held)
