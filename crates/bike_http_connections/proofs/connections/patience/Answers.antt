use Rattle.std.proofs.Common.{ap, ◌∙◌}
use Rattle.std.specs.Duration.{as_nanos}
use Rattle.bike_http_connections.specs.Turns.{nanos, sooner_of}
use Rattle.bike_http_connections.proofs.Ending.{cut_short}
use Rattle.bike_http_connections.proofs.Waiting.{waits_not, waits_for}
use Rattle.bike_http_connections.proofs.connections.patience.Goals as goal

pub returns : goal.returns
returns g c =
    let wait = nanos c.time_to_wait.result in
    let until = sooner_of (nanos c.patience-patience.result) (nanos c.accepts_in-accepts_in.result) in
    record {
      at_once = λ work. waits_not wait until c.has_work.result c.time_to_wait.ensures (c.has_work.ensures.1 work);
      later = λ none.
          waits_for wait until c.has_work.result c.time_to_wait.ensures (λ some. none (c.has_work.ensures.0 some))
          ∙ ap (λ (p : _). sooner_of p (nanos c.accepts_in-accepts_in.result)) c.patience-patience.ensures.exact
          ∙ ap (sooner_of _) c.accepts_in-accepts_in.ensures;
      in_time = cut_short wait (nanos c.patience-patience.result) (nanos c.accepts_in-accepts_in.result) c.has_work.result (as_nanos c.args.now) c.args.connections.now.opened
          c.time_to_wait.ensures c.patience-patience.ensures.in_time;
    }
