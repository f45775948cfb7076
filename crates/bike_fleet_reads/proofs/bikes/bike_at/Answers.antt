use Rattle.bike_fleet_reads.proofs.ColumnLemmas.{holds_ident, holds_state}
use Rattle.bike_fleet_reads.proofs.bikes.bike_at.Goals as goal

pub returns : goal.returns
returns c = record {
  type_id = (holds_ident _ _ c.in_ok-type_id.ensures.ok).0;
  state = holds_state _ _ c.in_ok-state.ensures;
  place = c.in_ok-place.ensures;
}
