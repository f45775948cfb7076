use Rattle.std.proofs.Common.{ap, ◌∙◌}
use Rattle.bike_json.proofs.Series.{Wrote_then, Wrote_settled}
use Rattle.bike_json.specs.State.{Place}
use Rattle.bike_json.proofs.state.JsonState.begin.Goals as goal

pub returns-clause-wrote : goal.returns-clause-wrote
returns-clause-wrote g c =
    Wrote_settled (Wrote_then c.separate.ensures.wrote c.emit.ensures.wrote) (c.open.ensures.failed ∙ c.end_value.ensures.failed)
    (c.open.ensures.count ∙ c.end_value.ensures.count) c.settle.ensures.failed
    (ap (λ (p : Place). p.count) c.self.view_is) c.settle.ensures.count
