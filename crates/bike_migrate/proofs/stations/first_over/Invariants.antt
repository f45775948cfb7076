use Rattle.std.proofs.Common.{◌≡◌, ℕ, ◌<◌, Some, true, slice_get}
use Rattle.sqlite_value.specs.Order.{Row}
use Rattle.bike_migrate.specs.Stations.{has_few}
use Rattle.bike_migrate.proofs.stations.first_over.Given as goal

-- those before have no more
abbrev pub invariant-loop-row : goal.invariant-loop-row
invariant-loop-row l = (k : ℕ) (other : Row) → k < l.row-index → slice_get l.rows k ≡ Some other → has_few other ≡ true
