use Rattle.std.proofs.Common.{subst}
use Rattle.bike_http_connections.specs.Ahead.{Loses}
use Rattle.bike_http_connections.proofs.Losing.{loses_then}
use Rattle.bike_http_connections.proofs.connections.Connections.turn_of_closing.Goals as goal

pub returns-in_err-step_all : goal.returns-in_err-step_all
returns-in_err-step_all g c known =
    loses_then c.args.self.now c.give_up.new.self c.step_all.new.self
    (subst (λ (seen : _). Loses seen c.give_up.new.self) c.read_clock.ensures c.give_up.ensures) (c.step_all.ensures known)

pub returns : goal.returns
returns g c known =
    loses_then c.args.self.now c.give_up.new.self c.step_all.new.self
    (subst (λ (seen : _). Loses seen c.give_up.new.self) c.read_clock.ensures c.give_up.ensures) (c.step_all.ensures known)
