use Rattle.bike_sql.proofs.ParamLemmas.{bindings}
use Rattle.bike_office_reads.proofs.RowLemmas.{rider_read}
use Rattle.bike_office_reads.proofs.riders.read_rider.Goals as goal

pub returns : goal.returns
returns c = λ rider before y is. rider_read rider before y c.in_ok-is_blocked.ensures c.in_ok-plan.ensures.ok c.in_ok-balance.ensures (search bindings) is
