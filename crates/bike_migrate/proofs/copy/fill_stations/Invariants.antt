use Rattle.std.proofs.Common.{take, Ok}
use Rattle.bike_schema.specs.declared.fault.StatementFault.{StatementFault}
use Rattle.bike_migrate.specs.Calls.{DoesInside}
use Rattle.bike_migrate.specs.Raised.{station_names, first_writes, WritesBeside, IsOursBeside}
use Rattle.bike_migrate.proofs.copy.fill_stations.Given as goal

-- so many stations were added, after the version was set
abbrev pub invariant-loop-row : goal.invariant-loop-row
invariant-loop-row g l =
    DoesInside g.S.Store IsOursBeside l.fn.conn l.conn {X = Unit {0}} {E = StatementFault} (Ok tt)
    (λ old new _. WritesBeside station_names (λ counts. first_writes counts (take l.row-index l.rows)) old new)
