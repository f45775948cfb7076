use Rattle.std.proofs.Common.{ap}
use Rattle.sqlite_value.specs.Order.{Row, column}
use Rattle.bike_schema.proofs.ReadLemmas.{flag_read, whole_read}
use Rattle.bike_queries.proofs.riders.read_rider.Goals as goal

pub returns : goal.returns
returns c = λ rider r balance is.
    let blocked = flag_read r.is_blocked c.in_ok-is_blocked.ensures (ap (λ (row : Row). column row 1) is) in
    let sum = whole_read c.in_ok-balance.ensures (ap (λ (row : Row). column row 2) is) in
    λ i. (blocked i, sum i)
