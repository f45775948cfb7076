use Rattle.std.proofs.Common.{List, ap, subst}
use Rattle.bike_http_connections.proofs.Losing.{loses_via}
use Rattle.bike_http_connections.specs.Ahead.{StayBut}
use Rattle.bike_http_connections.specs.Kept.{Kept}
use Rattle.bike_http_connections.proofs.Staying.{but_then}
use Rattle.bike_http_connections.specs.Table.{Table, clients_of}
use Rattle.bike_http_connections.proofs.open.Open.go_on.Goals as goal

pub loop-turn-preserved : goal.loop-turn-preserved
loop-turn-preserved g c = (
  λ known. loses_via _ _ _ _ (ap (λ (t : Table). clients_of t) c.self-in-loop-turn.view_is) (c.loop-turn.invariant.0 known) (c.go_on_with.ensures.kept known),
  but_then c.loop-turn._turn 1 c.args.self.now.opened c.loop-turn.self.opened c.go_on_with.new.self.opened c.loop-turn.invariant.1
      (subst (λ (seen : List Kept). StayBut 1 seen c.go_on_with.new.self.opened) (ap (λ (t : Table). t.opened) c.self-in-loop-turn.view_is)
      c.go_on_with.ensures.others),
)
