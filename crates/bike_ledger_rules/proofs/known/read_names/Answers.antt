use Rattle.bike_sql.proofs.ChainLaws.{reads_both, reads_failed}
use Rattle.bike_ledger_rules.proofs.ReadLaws.{reads_ours_as}
use Rattle.bike_ledger_rules.proofs.known.read_names.Goals as goal

pub returns-in_err-bikes : goal.returns-in_err-bikes
returns-in_err-bikes g c = reads_failed (reads_both c.in_ok-riders.ensures c.in_err-bikes.ensures) c.from_residual-in_err-bikes.ensures.0

pub returns-in_err-plans : goal.returns-in_err-plans
returns-in_err-plans g c =
    reads_failed (reads_both c.in_ok-riders.ensures (reads_both c.in_ok-bikes.ensures c.in_err-plans.ensures))
    c.from_residual-in_err-plans.ensures.0

pub returns-in_err-stations : goal.returns-in_err-stations
returns-in_err-stations g c =
    reads_failed (reads_both c.in_ok-riders.ensures (reads_both c.in_ok-bikes.ensures (reads_both c.in_ok-plans.ensures c.in_err-stations.ensures)))
    c.from_residual-in_err-stations.ensures.0

pub returns : goal.returns
returns g c =
    reads_ours_as (reads_both c.in_ok-riders.ensures
    (reads_both c.in_ok-bikes.ensures (reads_both c.in_ok-plans.ensures c.in_ok-stations.ensures)))
    (λ db ours it. λ i. record { riders = it.0 i; bikes = it.1.0 i; plans = it.1.1.0 i; stations = it.1.1.1 i })
