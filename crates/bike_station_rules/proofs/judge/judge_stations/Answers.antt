use Rattle.std.proofs.Common.{rules}
use Rattle.bike_sql.proofs.ChainLaws.{reads_as, reads_both, reads_failed}
use Rattle.bike_judges.proofs.ReadsLaw.{reads_told}
use Rattle.bike_station_rules.proofs.Judged.{AreFound, stations_judged}
use Rattle.bike_station_rules.proofs.judge.judge_stations.Goals as goal

pub returns-in_err-by_number : goal.returns-in_err-by_number
returns-in_err-by_number g c = reads_failed (reads_both c.in_ok-now.ensures (reads_both c.in_ok-by_row.ensures c.in_err-by_number.ensures)) (search rules)

pub returns : goal.returns
returns g c = reads_as
    (reads_told {told = AreFound c.in_ok-now.now c.in_ok-by_row.by_row} (reads_both c.in_ok-now.ensures (reads_both c.in_ok-by_row.ensures c.in_ok-by_number.ensures))
    (λ db ours found it. record { ours = ours; now_is = it.0; by_row = it.1.0; by_number = it.1.1 }))
    (λ db it. stations_judged db c.in_ok-now.now c.in_ok-by_row.by_row c.in_ok-by_number.by_number c.least.result c.least.ensures it)
