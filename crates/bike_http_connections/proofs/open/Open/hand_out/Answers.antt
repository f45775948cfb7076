use Rattle.std.proofs.Common.{subst, sym}
use Rattle.bike_http_connections.specs.Handed.{Gives}
use Rattle.bike_http_connection.specs.Connected.{handed_as}
use Rattle.bike_http_connections.proofs.Losing.{ends_there}
use Rattle.bike_http_connections.specs.Table.{clients_of}
use Rattle.bike_http_connections.proofs.open.Open.hand_out.Goals as goal
use Rattle.bike_http_connections.proofs.open.Open.hand_out.Goals.{in-Ok, in-Err}

pub returns-clause-gives : goal.returns-clause-gives
returns-clause-gives g c = elim c.match-new.branch [
  | in-Ok w ↦ subst (λ (given : _). Gives g.S.Socket.is_known g.S.Socket.input g.S.Socket.coming g.S.Socket.taken (clients_of c.args.self.now) (clients_of c.take_request.new.self) given) (sym w.result-is)
      (c.in_ok-exchange.ensures.taken, w.in-Ok.ensures, c.in_ok-exchange.ensures.whole)
  | in-Err w ↦ subst (λ (given : _). Gives g.S.Socket.is_known g.S.Socket.input g.S.Socket.coming g.S.Socket.taken (clients_of c.args.self.now) (clients_of c.take_request.new.self) given) (sym w.result-is)
      (ends_there (clients_of c.args.self.now) (clients_of c.take_request.new.self) (handed_as g.S.Socket.input g.S.Socket.coming g.S.Socket.taken c.in_ok-exchange.exchange) c.in_ok-exchange.ensures.taken)
]
