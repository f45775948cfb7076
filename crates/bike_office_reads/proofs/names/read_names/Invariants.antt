use Rattle.std.proofs.Common.{take}
use Rattle.std.specs.List.{AllZip}
use Rattle.bike_office_reads.specs.ReadRows.{IsOwnedName}
use Rattle.bike_office_reads.proofs.names.read_names.Given as goal

-- the names so far are those of the rows so far
abbrev pub invariant-loop-row : goal.invariant-loop-row
invariant-loop-row l = AllZip IsOwnedName (take l.row-index l.rows) l.names.items
