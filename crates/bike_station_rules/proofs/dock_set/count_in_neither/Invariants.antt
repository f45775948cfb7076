use Rattle.std.proofs.Common.{◌-◌, ◌≡◌, ◌≤◌}
use Rattle.bike_station_rules.specs.DockSets.{many_in_neither}
use Rattle.bike_station_rules.proofs.dock_set.count_in_neither.Given as goal

abbrev pub invariant-loop-dock : goal.invariant-loop-dock
invariant-loop-dock l = (l.many ≡ many_in_neither l.first l.second l.dock) × (l.many ≤ l.dock) × (l.dock ≤ l.docks)

abbrev pub decreases-loop-dock : goal.decreases-loop-dock
decreases-loop-dock l = l.docks - l.dock
