use Rattle.bike_http_connections.proofs.Losing.{loses_then}
use Rattle.bike_http_connections.proofs.open.Open.close.Goals as goal

pub loop-key-preserved : goal.loop-key-preserved
loop-key-preserved g c = loses_then _ _ _ c.loop-key.invariant c.close_one.ensures
