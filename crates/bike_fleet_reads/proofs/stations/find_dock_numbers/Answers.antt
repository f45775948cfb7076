use Rattle.bike_schema.proofs.AnswerLemmas.{answers_made}
use Rattle.bike_fleet_reads.proofs.FoundLemmas.{numbers_found}
use Rattle.bike_fleet_reads.proofs.stations.find_dock_numbers.Goals as goal

pub returns : goal.returns
returns g c =
    answers_made c.in_ok-row.ensures c.numbers_of.ensures (λ db x is held s h. numbers_found s h.listed h.sound h.listing c.counts_by_type.ensures.idents c.args.station.now _ x (is s h) held)
