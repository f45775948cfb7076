use Rattle.std.proofs.Common.{Bool, Some, subst}
use Rattle.bike_http_connections.specs.Handed.{Gives}
use Rattle.bike_http_connections.proofs.Losing.{loses_then}
use Rattle.bike_http_connections.proofs.Requests.{loses_requests, hands_out}
use Rattle.bike_http_connections.proofs.connections.Connections.next.Goals as goal

pub returns-in-Some-clause-hands : goal.returns-in-Some-clause-hands
returns-in-Some-clause-hands g c known =
    hands_out g.N.Socket.Socket.input g.N.Socket.Socket.coming g.N.Socket.Socket.taken c.args.self.now c.loop-turn.self c.next_in_turn.new.self c.in-Some.next
    (c.loop-turn.invariant known)
    (subst (λ (b : Bool). Gives b g.N.Socket.Socket.input g.N.Socket.Socket.coming g.N.Socket.Socket.taken c.loop-turn.self c.next_in_turn.new.self (Some c.in-Some.next)) known c.in-Some.ensures)

pub returns-in-Some-clause-clients : goal.returns-in-Some-clause-clients
returns-in-Some-clause-clients g c known = loses_then c.args.self.now c.loop-turn.self _ (c.loop-turn.invariant known) c.in-Some.ensures.0

pub returns-in-Err-clause-clients : goal.returns-in-Err-clause-clients
returns-in-Err-clause-clients g c known =
    loses_then c.args.self.now c.next_in_turn.new.self c.turn.new.self
    (loses_then c.args.self.now c.loop-turn.self c.next_in_turn.new.self (c.loop-turn.invariant known) c.in-None.ensures) (c.turn.ensures known)

pub returns-in-Err-clause-hands : goal.returns-in-Err-clause-hands
returns-in-Err-clause-hands g c known =
    loses_requests c.args.self.now c.turn.new.self
    (loses_then c.args.self.now c.next_in_turn.new.self c.turn.new.self
    (loses_then c.args.self.now c.loop-turn.self c.next_in_turn.new.self (c.loop-turn.invariant known) c.in-None.ensures) (c.turn.ensures known))

pub returns-clause-hands : goal.returns-clause-hands
returns-clause-hands g c known = loses_requests c.args.self.now c.loop-turn.self (c.loop-turn.invariant known)

pub loop-turn-preserved : goal.loop-turn-preserved
loop-turn-preserved g c known =
    loses_then c.args.self.now c.next_in_turn.new.self c.turn.new.self
    (loses_then c.args.self.now c.loop-turn.self c.next_in_turn.new.self (c.loop-turn.invariant known) c.in-None.ensures) (c.turn.ensures known)
