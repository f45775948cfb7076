use Rattle.std.proofs.Common.{ap, ◌∙◌}
use Rattle.std.specs.Duration.{as_nanos}
use Rattle.bike_http_connections.specs.Turns.{nanos, time_until}
use Rattle.bike_http_connections.specs.Table.{Table}
use Rattle.bike_http_connections.proofs.Ending.{comes_first, ends_first}
use Rattle.bike_http_connections.proofs.open.Open.patience.Goals as goal

pub returns : goal.returns
returns g c =
    let exact = c.patience.ensures ∙ ap (λ (t : Table). time_until t.soonest (as_nanos c.args.now)) c.self.view_is in
    let first = comes_first (nanos c.self.inside.deadlines.soonest) c.self.inside.connections c.args.self.now (ap (λ (t : Table). t.opened) c.self.view_is)
    (ap (λ (t : Table). t.soonest) c.self.view_is) c.self.invariant.soonest in
    record {
      exact = exact;
      soonest = first;
      in_time = ends_first (nanos c.patience.result) c.args.self.now.soonest (as_nanos c.args.now) c.args.self.now.opened exact first;
    }
