use Rattle.std.proofs.Common.{rules}
use Rattle.bike_migrate.proofs.StepLemmas.{does_under, does_then, does_both, does_failed}
use Rattle.bike_migrate.proofs.DropLemmas.{old_left, riders_left, stations_left, drops_all}
use Rattle.bike_migrate.proofs.build.drop_old.Goals as goal

pub returns : goal.returns
returns g c =
    let e = c.args.earlier in
    does_then
    (does_both
    (does_both (does_under (λ db has. (has.0, has.1.3)) c.in_ok-drop_kept.ensures) (λ a b has kept. (kept.sound, (old_left e a b has.1 kept).2)) c.in_ok-drop_counts.ensures)
    (λ a b has both. (both.2.sound, (riders_left e both.0 b (old_left e a both.0 has.1 both.1) both.2).1))
    c.in_ok-drop_riders.ensures)
    (λ a b has all. (all.2.sound, stations_left e all.0 b (riders_left e all.1.0 all.0 (old_left e a all.1.0 has.1 all.1.1) all.1.2) all.2))
    c.drop_stations.ensures
    (λ a b d x has all last. drops_all e a all.1.0 all.0 b d all.1.1 all.1.2 all.2 last)

pub returns-in_err-drop_counts : goal.returns-in_err-drop_counts
returns-in_err-drop_counts g c =
    let e = c.args.earlier in
    does_failed (does_both (does_under (λ db has. (has.0, has.1.3)) c.in_ok-drop_kept.ensures) (λ a b has kept. (kept.sound, (old_left e a b has.1 kept).2))
    c.in_err-drop_counts.ensures) (search rules)

pub returns-in_err-drop_riders : goal.returns-in_err-drop_riders
returns-in_err-drop_riders g c =
    let e = c.args.earlier in
    does_failed
    (does_both
    (does_both (does_under (λ db has. (has.0, has.1.3)) c.in_ok-drop_kept.ensures) (λ a b has kept. (kept.sound, (old_left e a b has.1 kept).2)) c.in_ok-drop_counts.ensures)
    (λ a b has both. (both.2.sound, (riders_left e both.0 b (old_left e a both.0 has.1 both.1) both.2).1))
    c.in_err-drop_riders.ensures) (search rules)
