use Rattle.bike_http_connections.specs.Turns.{nanos}
use Rattle.bike_http_connections.specs.Ending.{IsOfOne}
use Rattle.bike_http_connections.proofs.Ending.{NoneSoonerBelow}
use Rattle.bike_http_connections.proofs.open.deadlines_of.Given as goal

-- it is the soonest of those below this key
abbrev pub invariant-loop-key : goal.invariant-loop-key
invariant-loop-key g l =
    NoneSoonerBelow (nanos l.deadlines.soonest) l.fn.connections l.key × IsOfOne (nanos l.deadlines.soonest) l.fn.connections
