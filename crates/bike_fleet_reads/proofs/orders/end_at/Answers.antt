use Rattle.bike_fleet_reads.proofs.ColumnLemmas.{holds_ident}
use Rattle.bike_fleet_reads.proofs.orders.end_at.Goals as goal

pub returns : goal.returns
returns c = let held = holds_ident _ _ c.in_ok-station.ensures.ok in record { is = held.0; good = held.1 }
