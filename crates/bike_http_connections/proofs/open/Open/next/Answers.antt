use Rattle.std.proofs.Common.{ap, ◌∙◌, sym, subst, List, ◌+◌, arith}
use Rattle.bike_http_connections.proofs.Losing.{loses_via}
use Rattle.bike_http_connections.proofs.Giving.{gives_after, gives_none}
use Rattle.bike_http_connections.specs.Ahead.{StayBut}
use Rattle.bike_http_connections.specs.Kept.{Kept}
use Rattle.bike_http_connections.specs.Table.{Table, clients_of, queue_of}
use Rattle.bike_http_connections.proofs.Staying.{one_turn, but_then, but_less}
use Rattle.bike_http_connections.proofs.open.Open.next.Goals as goal

pub returns-then-is_some-clause-gives : goal.returns-then-is_some-clause-gives
returns-then-is_some-clause-gives g c =
    gives_after g.S.Socket.is_known g.S.Socket.input g.S.Socket.coming g.S.Socket.taken _ _ _ _ c.hand_out-next.result (ap (λ (t : Table). clients_of t) c.self-in-loop-turn.view_is) c.loop-turn.invariant.0 c.hand_out-next.ensures.gives

pub returns-then-is_some-clause-others : goal.returns-then-is_some-clause-others
returns-then-is_some-clause-others g c =
    let turns = one_turn c.loop-turn._turn (queue_of c.args.is_feed c.args.self.now) (queue_of c.args.is_feed c.loop-turn.self)
    _ _ (queue_of c.args.is_feed c.hand_out-next.new.self) c.in-Some.key c.loop-turn.invariant.2
    (ap (λ (t : Table). queue_of c.args.is_feed t) c.self-in-loop-turn.view_is) c.in-Some.ensures.first
    (ap (λ (t : Table). queue_of c.args.is_feed t) c.hand_out-next.ensures.turns) in
    but_less (c.loop-turn._turn + 1) _ c.args.self.now.opened c.hand_out-next.new.self.opened (omega (arith, turns))
    (but_then c.loop-turn._turn 1 c.args.self.now.opened c.loop-turn.self.opened c.hand_out-next.new.self.opened c.loop-turn.invariant.1
    (subst (λ (seen : List Kept). StayBut 1 seen c.hand_out-next.new.self.opened) (ap (λ (t : Table). t.opened) c.self-in-loop-turn.view_is)
    c.hand_out-next.ensures.others))

pub loop-turn-preserved : goal.loop-turn-preserved
loop-turn-preserved g c = (
  loses_via _ _ _ _ (ap (λ (t : Table). clients_of t) c.self-in-loop-turn.view_is) c.loop-turn.invariant.0
      (gives_none g.S.Socket.is_known g.S.Socket.input g.S.Socket.coming g.S.Socket.taken _ _ c.hand_out-next.result (sym c.is_some.ensures ∙ c.if-is_some.false) c.hand_out-next.ensures.gives),
  but_then c.loop-turn._turn 1 c.args.self.now.opened c.loop-turn.self.opened c.hand_out-next.new.self.opened c.loop-turn.invariant.1
      (subst (λ (seen : List Kept). StayBut 1 seen c.hand_out-next.new.self.opened) (ap (λ (t : Table). t.opened) c.self-in-loop-turn.view_is)
      c.hand_out-next.ensures.others),
  one_turn c.loop-turn._turn (queue_of c.args.is_feed c.args.self.now) (queue_of c.args.is_feed c.loop-turn.self)
      _ _ (queue_of c.args.is_feed c.hand_out-next.new.self) c.in-Some.key c.loop-turn.invariant.2
      (ap (λ (t : Table). queue_of c.args.is_feed t) c.self-in-loop-turn.view_is) c.in-Some.ensures.first
      (ap (λ (t : Table). queue_of c.args.is_feed t) c.hand_out-next.ensures.turns),
)
