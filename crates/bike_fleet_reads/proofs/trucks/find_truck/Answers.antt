use Rattle.bike_schema.proofs.AnswerLemmas.{answers_made}
use Rattle.bike_fleet_reads.proofs.FoundLemmas.{truck_found}
use Rattle.bike_fleet_reads.proofs.trucks.find_truck.Goals as goal

pub returns : goal.returns
returns g c = answers_made c.in_ok-row.ensures c.truck_of.ensures (λ db x is held s h. truck_found s h.listed h.sound h.listing c.args.truck _ x (is s h) held)
