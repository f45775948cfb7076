use Rattle.std.proofs.Common.{rules, arith, subst}
use Rattle.std.proofs.lemmas.List.{take_all}
use Rattle.bike_migrate.specs.Raised.{station_names, first_writes, WritesBeside}
use Rattle.bike_migrate.proofs.StepLemmas.{does_weaker, does_under, does_both, does_then, does_failed}
use Rattle.bike_migrate.proofs.FillLemmas.{version_first, still_beside, more_only}
use Rattle.bike_migrate.proofs.copy.fill_stations.Goals as goal

pub loop-row-init : goal.loop-row-init
loop-row-init g c = does_weaker (does_under (λ db has. has.0) c.in_ok-set_version.ensures) (λ a b x has makes. version_first a b makes)

pub loop-row-preserved : goal.loop-row-preserved
loop-row-preserved g c = does_then c.loop-row.invariant (λ a b has only. still_beside station_names _ a b has only) c.in_ok-copy_station.ensures
    (λ a b d x has first second. more_only c.args.rows.now c.loop-row.row-index c.row-item.result c.loop-row-test.true c.row-item.is a b d has first second)

pub returns : goal.returns
returns g c =
    does_weaker c.loop-row.invariant (λ a b x has makes. subst (λ rows. WritesBeside station_names (λ counts. first_writes counts rows) a b)
    (take_all c.loop-row.row-index c.args.rows.now (let past = c.loop-row-test.false in omega (arith, past))) makes)

pub returns-in_err-copy_station : goal.returns-in_err-copy_station
returns-in_err-copy_station g c = does_failed (does_both c.loop-row.invariant (λ a b has only. still_beside station_names _ a b has only) c.in_err-copy_station.ensures) (search rules)
