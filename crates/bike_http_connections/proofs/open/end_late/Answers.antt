use Rattle.std.proofs.Common.{◌∙◌}
use Rattle.std.specs.Duration.{as_nanos}
use Rattle.bike_http_connections.proofs.Ending.{ends_below_one}
use Rattle.bike_http_connections.proofs.open.end_late.Goals as goal

pub loop-key-preserved : goal.loop-key-preserved
loop-key-preserved g c = (
  ends_below_one (as_nanos c.args.now) c.args.connections.now c.loop-key.connections c.end_where_late.new.connections c.loop-key.key
      c.loop-key.invariant.0 c.end_where_late.ensures.lost c.end_where_late.ensures.late,
  c.end_where_late.ensures.places ∙ c.loop-key.invariant.1,
  λ counted. c.end_where_late.ensures.room (c.loop-key.invariant.2 counted),
)
