use Rattle.bike_schema.proofs.AnswerLemmas.{answers_made}
use Rattle.bike_fleet_reads.proofs.FoundLemmas.{numbers_found, station_found}
use Rattle.bike_fleet_reads.proofs.stations.find_station_row.Goals as goal

pub returns : goal.returns
returns g c = answers_made c.in_ok-row.ensures c.station_row_of.ensures (λ db x is held s h. record {
  station_is = station_found s h.listed h.sound h.listing c.args.station.now _ x.station (is s h) held.0;
  numbers_are = numbers_found s h.listed h.sound h.listing c.counts_by_type.ensures.idents c.args.station.now _ x.numbers (is s h) held.1;
})
