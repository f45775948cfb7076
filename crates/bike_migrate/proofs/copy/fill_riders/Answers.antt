use Rattle.std.proofs.Common.{rules, arith, subst}
use Rattle.std.proofs.lemmas.List.{take_all}
use Rattle.bike_schema.specs.Tables.{IsOurs}
use Rattle.bike_schema.proofs.MakesLemmas.{makes_ours}
use Rattle.bike_recognition.proofs.LookLemmas.{reads_known}
use Rattle.bike_migrate.specs.Raised.{rider_names, rider_writes, WritesOnly}
use Rattle.bike_migrate.proofs.StepLemmas.{does_weaker, does_both, does_then, does_failed, reads_does}
use Rattle.bike_migrate.proofs.FillLemmas.{no_writes, more_riders}
use Rattle.bike_migrate.proofs.copy.fill_riders.Goals as goal

pub loop-row-init : goal.loop-row-init
loop-row-init g c = does_weaker (reads_does (reads_known {P = IsOurs} c.in_ok-check_open.ensures)) (λ a b x ours same. no_writes rider_names a b same.0 ours)

pub loop-row-preserved : goal.loop-row-preserved
loop-row-preserved g c = does_then c.loop-row.invariant (λ a b ours only. makes_ours only.makes) c.in_ok-copy_rider.ensures
    (λ a b d x ours first second. more_riders c.args.rows.now c.loop-row.row-index c.row-item.result c.loop-row-test.true c.row-item.is a b d first second)

pub returns : goal.returns
returns g c =
    does_weaker c.loop-row.invariant (λ a b x ours makes. subst (λ rows. WritesOnly rider_names (rider_writes rows) a b)
    (take_all c.loop-row.row-index c.args.rows.now (let past = c.loop-row-test.false in omega (arith, past))) makes)

pub returns-in_err-copy_rider : goal.returns-in_err-copy_rider
returns-in_err-copy_rider g c = does_failed (does_both c.loop-row.invariant (λ a b ours only. makes_ours only.makes) c.in_err-copy_rider.ensures) (search rules)
