use Rattle.bike_schema.proofs.AnswerLemmas.{answers_made}
use Rattle.bike_fleet_reads.proofs.FoundLemmas.{docked_found}
use Rattle.bike_fleet_reads.proofs.bikes.find_docked.Goals as goal

pub returns : goal.returns
returns g c = answers_made c.in_ok-row.ensures c.numbered_bike_of.ensures (λ db x is held s h. docked_found s h.listed h.sound h.listing c.args.station.now c.args.dock _ x (is s h) held)
