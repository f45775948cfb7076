use Rattle.std.proofs.Common.{◌≡◌, Some, take}
use Rattle.bike_recognition.specs.EarlierVersions.Counts.{old_types}
use Rattle.bike_migrate.proofs.counts.old_types.Given as goal

-- the rows before spell types, and these were found
abbrev pub invariant-loop-row : goal.invariant-loop-row
invariant-loop-row l = old_types (take l.row-index l.rows) ≡ Some l.types.items
