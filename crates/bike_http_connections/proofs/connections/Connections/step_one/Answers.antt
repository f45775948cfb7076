use Rattle.std.proofs.Common.{subst, sym, map, ◌++◌}
use Rattle.bike_http_connections.specs.Ahead.{Loses, StayBut, fresh}
use Rattle.bike_http_connections.proofs.Staying.{but_open}
use Rattle.bike_http_connections.proofs.Opening.{loses_open}
use Rattle.bike_http_connections.specs.Table.{clients_of}
use Rattle.bike_http_connections.proofs.connections.Connections.step_one.Goals as goal

pub returns-clause-kept : goal.returns-clause-kept
returns-clause-kept g c known =
    subst (λ (net : _). Loses c.args.self.now ((clients_of c.step.new.self) ++ map fresh net)) (sym c.next_ready.ensures)
    (loses_open c.args.self.now (clients_of c.self.inside.connections) (clients_of c.step.new.self) _ c.self.view_is (c.step.ensures.kept known))

pub returns-clause-others : goal.returns-clause-others
returns-clause-others g c =
    subst (λ (net : _). StayBut 1 c.args.self.now ((clients_of c.step.new.self) ++ map fresh net)) (sym c.next_ready.ensures)
    (but_open 1 c.args.self.now (map fresh (g.N.Network.ahead c.self.inside.network)) c.self.inside.connections.opened c.step.new.self.opened c.self.view_is
    c.step.ensures.others)
