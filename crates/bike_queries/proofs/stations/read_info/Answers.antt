use Rattle.bike_queries.proofs.NextLemmas.{info_read}
use Rattle.bike_queries.proofs.stations.read_info.Goals as goal

pub returns : goal.returns
returns c =
    λ y holds. info_read _ c.args.row.now y
    (c.in_ok-station.ensures y holds) c.in_ok-is_installed.ensures c.in_ok-is_renting.ensures c.in_ok-is_returning.ensures c.in_ok-reported.ensures c.in_ok-region.ensures.ok holds
