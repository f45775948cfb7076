use Rattle.bike_office_reads.proofs.RowLemmas.{made_if}
use Rattle.bike_queries.proofs.NextLemmas.{station_read}
use Rattle.bike_queries.proofs.stations.read_station.Goals as goal

pub returns : goal.returns
returns c =
    made_if _ c.ok_or.result _ _ c.ok_or.ensures.value c.from_fields.ensures.value
    (λ y holds. station_read _ c.args.row.now y c.in_ok-station_id.ensures.ok c.in_ok-name.ensures.ok c.in_ok-lat.ensures c.in_ok-lon.ensures c.in_ok-docks.ensures holds)
