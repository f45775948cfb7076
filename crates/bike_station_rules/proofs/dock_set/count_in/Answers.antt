use Rattle.std.proofs.Common.{sym, ◌∙◌, arith}
use Rattle.bike_station_rules.specs.DockSets.{has_bit}
use Rattle.bike_station_rules.proofs.CountSteps.{counted, not_counted, none_yet}
use Rattle.bike_station_rules.proofs.dock_set.count_in.Goals as goal

pub loop-dock-init : goal.loop-dock-init
loop-dock-init c = (none_yet (λ n. has_bit c.args.set.now n), omega arith, omega arith)

pub loop-dock-preserved-then-has_dock : goal.loop-dock-preserved-then-has_dock
loop-dock-preserved-then-has_dock c =
    let i = c.loop-dock.invariant in
    let below = c.loop-dock-test.true in
    (counted (λ n. has_bit c.args.set.now n) c.loop-dock.dock c.loop-dock.many i.0 (sym c.has_dock.ensures ∙ c.if-has_dock.true), omega (arith, i.1), omega (arith, below))

pub loop-dock-preserved : goal.loop-dock-preserved
loop-dock-preserved c =
    let i = c.loop-dock.invariant in
    let below = c.loop-dock-test.true in
    (not_counted (λ n. has_bit c.args.set.now n) c.loop-dock.dock c.loop-dock.many i.0 (sym c.has_dock.ensures ∙ c.if-has_dock.false), omega (arith, i.1), omega (arith, below))
