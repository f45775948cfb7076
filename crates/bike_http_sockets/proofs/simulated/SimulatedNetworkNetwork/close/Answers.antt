use Rattle.std.proofs.Common.{map, subst, sym}
use Rattle.bike_http_connections.specs.Ahead.{Loses}
use Rattle.bike_http_connections.proofs.Losing.{loses_all}
use Rattle.bike_http_sockets.specs.Simulated.{coming_of}
use Rattle.bike_http_sockets.proofs.simulated.SimulatedNetworkNetwork.close.Goals as goal

pub returns : goal.returns
returns c known =
    let before = map coming_of c.args.self.now.clients.items in
    subst (λ (left : _). Loses before (map coming_of left)) (sym c.clear.ensures.items) (loses_all before)
