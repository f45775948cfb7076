use Rattle.std.proofs.Common.{rules, sym, subst}
use Rattle.bike_schema.specs.Tables.{IsOurs}
use Rattle.bike_migrate.specs.Raised.{IsOursBeside}
use Rattle.bike_migrate.proofs.StepLemmas.{does_then, does_failed, reads_does}
use Rattle.bike_migrate.proofs.ReadLemmas.{reads_under}
use Rattle.bike_migrate.proofs.FillLemmas.{copied_station}
use Rattle.bike_migrate.proofs.copy.copy_station.Goals as goal

pub returns-in_err-counts : goal.returns-in_err-counts
returns-in_err-counts g c = does_failed (reads_does (reads_under {Q = IsOursBeside} (λ db has. has.1) c.in_err-counts.ensures)) (search rules)

pub returns-in_err-by_type : goal.returns-in_err-by_type
returns-in_err-by_type g c = does_failed (reads_does (reads_under {Q = IsOursBeside} (λ db has. has.1) c.in_ok-counts.ensures)) (search rules)

pub returns : goal.returns
returns g c = does_failed (reads_does (reads_under {Q = IsOursBeside} (λ db has. has.1) c.in_ok-counts.ensures)) (search rules)

pub returns-then-is_station : goal.returns-then-is_station
returns-then-is_station g c =
    does_then (reads_does (reads_under {Q = IsOursBeside} (λ db has. has.1) c.in_ok-counts.ensures)) (λ a b has read. subst IsOurs (sym read.0) has.0) c.put_station.ensures
    (λ a b d x has read only. copied_station c.args.row.now _ _ _ a b d (search rules) (search rules) read only)
