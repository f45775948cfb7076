use Rattle.std.proofs.Common.{◌≡◌, take, Ok}
use Rattle.bike_schema.specs.Tables.{IsOurs}
use Rattle.bike_schema.specs.declared.fault.StatementFault.{StatementFault}
use Rattle.bike_migrate.specs.Calls.{DoesInside}
use Rattle.bike_migrate.specs.Raised.{request_names, request_writes, WritesOnly}
use Rattle.bike_migrate.proofs.copy.fill_requests.Given as goal

-- so many requests were added, and the number is theirs
abbrev pub invariant-loop-row : goal.invariant-loop-row
invariant-loop-row g l = record {
  counted : l.number ≡ l.row-index;
  added : DoesInside g.S.Store IsOurs l.fn.conn l.conn {X = Unit {0}} {E = StatementFault} (Ok tt) (λ old new _. WritesOnly request_names (request_writes (take l.row-index l.rows)) old new);
}
