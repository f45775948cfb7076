use Rattle.std.proofs.Common.{rules}
use Rattle.bike_sql.proofs.ChainLaws.{reads_as, reads_both, reads_failed}
use Rattle.bike_migrate.specs.Raised.{HasOldTables}
use Rattle.bike_migrate.proofs.ReadLemmas.{reads_under}
use Rattle.bike_migrate.proofs.stations.read_old.Goals as goal

pub returns-in_err-stations : goal.returns-in_err-stations
returns-in_err-stations g c = reads_failed (reads_under {Q = HasOldTables c.args.earlier} (λ db has. has.0) c.in_err-stations.ensures) (search rules)

pub returns-in_err-riders : goal.returns-in_err-riders
returns-in_err-riders g c =
    reads_failed (reads_both (reads_under {Q = HasOldTables c.args.earlier} (λ db has. has.0) c.in_ok-stations.ensures) (reads_under (λ db has. has.1) c.in_err-riders.ensures)) (search rules)

pub returns-in_err-kept : goal.returns-in_err-kept
returns-in_err-kept g c =
    reads_failed
    (reads_both (reads_both (reads_under {Q = HasOldTables c.args.earlier} (λ db has. has.0) c.in_ok-stations.ensures) (reads_under (λ db has. has.1) c.in_ok-riders.ensures))
    (reads_under (λ db has. has.3) c.in_err-kept.ensures)) (search rules)

pub returns : goal.returns
returns g c =
    reads_as
    (reads_both (reads_both (reads_under {Q = HasOldTables c.args.earlier} (λ db has. has.0) c.in_ok-stations.ensures) (reads_under (λ db has. has.1) c.in_ok-riders.ensures))
    (reads_under (λ db has. has.3) c.in_ok-kept.ensures)) (λ db all. (all.0.0, all.0.1, all.1))
