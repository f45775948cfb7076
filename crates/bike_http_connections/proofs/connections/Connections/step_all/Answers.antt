use Rattle.std.proofs.Common.{subst}
use Rattle.bike_http_connections.specs.Ahead.{Loses}
use Rattle.bike_http_connections.proofs.Losing.{loses_then}
use Rattle.bike_http_connections.proofs.connections.Connections.step_all.Goals as goal

pub returns : goal.returns
returns g c known =
    loses_then c.args.self.now c.step_ready.new.self c.go_on.new.self
    (subst (λ (seen : _). Loses seen c.step_ready.new.self) c.wait.ensures (c.step_ready.ensures.kept known)) (c.go_on.ensures known)
