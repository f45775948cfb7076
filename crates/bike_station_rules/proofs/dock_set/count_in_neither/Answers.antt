use Rattle.std.proofs.Common.{◌&&◌, not, sym, ◌∙◌, arith}
use Rattle.bike_station_rules.specs.DockSets.{has_bit}
use Rattle.bike_station_rules.proofs.CountSteps.{counted, not_counted, none_yet}
use Rattle.bike_station_rules.proofs.dock_set.count_in_neither.Goals as goal

pub loop-dock-init : goal.loop-dock-init
loop-dock-init c = (none_yet (λ n. not (has_bit c.args.first.now n) && not (has_bit c.args.second.now n)), omega arith, omega arith)

pub loop-dock-preserved-then-is_in_neither : goal.loop-dock-preserved-then-is_in_neither
loop-dock-preserved-then-is_in_neither c =
    let i = c.loop-dock.invariant in
    let below = c.loop-dock-test.true in (
      counted (λ n. not (has_bit c.args.first.now n) && not (has_bit c.args.second.now n)) c.loop-dock.dock c.loop-dock.many i.0 (sym c.is_in_neither.ensures ∙ c.if-is_in_neither.true),
      omega
          (arith, i.1),
      omega (arith, below),
    )

pub loop-dock-preserved : goal.loop-dock-preserved
loop-dock-preserved c =
    let i = c.loop-dock.invariant in
    let below = c.loop-dock-test.true in (
      not_counted (λ n. not (has_bit c.args.first.now n) && not (has_bit c.args.second.now n)) c.loop-dock.dock c.loop-dock.many i.0 (sym c.is_in_neither.ensures ∙ c.if-is_in_neither.false),
      omega
          (arith, i.1),
      omega (arith, below),
    )
