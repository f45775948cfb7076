use Rattle.bike_schema.proofs.AnswerLemmas.{answers_made}
use Rattle.bike_fleet_reads.proofs.FoundLemmas.{mark_found}
use Rattle.bike_fleet_reads.proofs.docks.find_mark.Goals as goal

pub returns : goal.returns
returns g c = answers_made c.in_ok-row.ensures c.mark_of.ensures (λ db x is held s h. mark_found s h.listed h.sound h.listing c.args.station.now c.args.dock _ x (is s h) held)
