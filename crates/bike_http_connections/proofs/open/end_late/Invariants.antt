use Rattle.std.proofs.Common.{◌≡◌}
use Rattle.std.specs.Duration.{as_nanos}
use Rattle.bike_http_connections.specs.Kept.{blocks_in}
use Rattle.bike_http_connections.proofs.Ending.{EndsLateBelow}
use Rattle.bike_http_connections.proofs.open.end_late.Given as goal

-- those below this key ended, there is as much place as before, and the room that they held is given back
abbrev pub invariant-loop-key : goal.invariant-loop-key
invariant-loop-key g l =
    EndsLateBelow (as_nanos l.fn.now) l.fn.connections l.connections l.key
    × (l.connections.capacity ≡ l.fn.connections.capacity)
    × (l.fn.room.held ≡ blocks_in l.fn.connections → l.room.held ≡ blocks_in l.connections)
