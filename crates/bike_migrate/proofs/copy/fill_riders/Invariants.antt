use Rattle.std.proofs.Common.{take, Ok}
use Rattle.bike_schema.specs.Tables.{IsOurs}
use Rattle.bike_schema.specs.declared.fault.StatementFault.{StatementFault}
use Rattle.bike_migrate.specs.Calls.{DoesInside}
use Rattle.bike_migrate.specs.Raised.{rider_names, rider_writes, WritesOnly}
use Rattle.bike_migrate.proofs.copy.fill_riders.Given as goal

-- so many riders were added
abbrev pub invariant-loop-row : goal.invariant-loop-row
invariant-loop-row g l =
    DoesInside g.S.Store IsOurs l.fn.conn l.conn {X = Unit {0}} {E = StatementFault} (Ok tt) (λ old new _. WritesOnly rider_names (rider_writes (take l.row-index l.rows)) old new)
