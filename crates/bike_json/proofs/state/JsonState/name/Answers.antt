use Rattle.std.proofs.Common.{ap}
use Rattle.bike_json.proofs.Series.{Wrote_then, Wrote_settled}
use Rattle.bike_json.specs.State.{Place}
use Rattle.bike_json.proofs.state.JsonState.name.Goals as goal

pub returns-clause-wrote : goal.returns-clause-wrote
returns-clause-wrote g c =
    let parts = Wrote_then (Wrote_then c.separate.ensures.wrote (rw c.as_bytes.ensures.value at c.put_string.ensures.wrote)) c.emit.ensures.wrote in
    Wrote_settled parts (ap (λ (p : Place). p.failed) c.self-2.view_is) (ap (λ (p : Place). p.count) c.self-2.view_is) c.settle.ensures.failed
    (ap (λ (p : Place). p.count) c.self.view_is) c.settle.ensures.count
