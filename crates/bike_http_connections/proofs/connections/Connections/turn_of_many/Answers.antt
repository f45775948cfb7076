use Rattle.std.proofs.Common.{subst}
use Rattle.bike_http_connections.specs.Ahead.{Loses}
use Rattle.bike_http_connections.proofs.Losing.{loses_then}
use Rattle.bike_http_connections.proofs.connections.Connections.turn_of_many.Goals as goal

pub returns-in_err-accept_some : goal.returns-in_err-accept_some
returns-in_err-accept_some g c known =
    loses_then c.args.self.now c.step_all.new.self c.accept_some.new.self (c.step_all.ensures known)
    (subst (λ (seen : _). Loses seen c.accept_some.new.self) c.read_clock.ensures (c.accept_some.ensures known))

pub returns : goal.returns
returns g c known =
    loses_then c.args.self.now c.step_all.new.self _ (c.step_all.ensures known)
    (loses_then c.step_all.new.self c.accept_some.new.self _
    (subst (λ (seen : _). Loses seen c.accept_some.new.self) c.read_clock.ensures (c.accept_some.ensures known))
    c.give_up.ensures)
