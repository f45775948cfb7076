use Rattle.bike_fleet_reads.proofs.ColumnLemmas.{holds_ident}
use Rattle.bike_fleet_reads.proofs.orders.order_at.Goals as goal

pub returns : goal.returns
returns c =
    let numbers = c.in_ok-numbers.ensures in
    record {
      truck = numbers.truck;
      from_end = c.in_ok-from_end.ensures;
      to_end = c.in_ok-to_end.ensures;
      type_id = (holds_ident _ _ c.in_ok-type_id.ensures.ok).0;
      count = numbers.count;
      delivered = numbers.delivered;
      is_open = numbers.is_open;
    }
