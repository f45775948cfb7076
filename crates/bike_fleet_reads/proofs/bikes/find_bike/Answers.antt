use Rattle.bike_schema.proofs.AnswerLemmas.{answers_made}
use Rattle.bike_fleet_reads.proofs.FoundLemmas.{bike_found}
use Rattle.bike_fleet_reads.proofs.bikes.find_bike.Goals as goal

pub returns : goal.returns
returns g c = answers_made c.in_ok-row.ensures c.bike_of.ensures (λ db x is held s h. bike_found s h.listed h.sound h.listing c.args.bike _ x (is s h) held)
