use Rattle.std.proofs.Common.{◌∙◌, ap, sym}
use Rattle.bike_json.proofs.Names.{text_behind, text_first}
use Rattle.bike_json.proofs.Series.{Wrote_as}
use Rattle.bike_json.specs.State.{Place}
use Rattle.bike_json.proofs.state.JsonState.put_name.Goals as goal

pub returns-in-FilledObject-clause-wrote : goal.returns-in-FilledObject-clause-wrote
returns-in-FilledObject-clause-wrote g c =
    let name = c.args.name in
    let at = ap (λ (p : Place). p.top) (sym c.self.view_is) ∙ c.in-FilledObject.is in
    Wrote_as (text_behind name.plain.now _ _ name.needs_no_escape (c.as_bytes-text.ensures.value ∙ name.is_text) at) c.emit.ensures.wrote

pub returns-in_default-clause-wrote : goal.returns-in_default-clause-wrote
returns-in_default-clause-wrote g c =
    let name = c.args.name in
    let first = text_first name.plain.now _ _ name.needs_no_escape (c.as_bytes-text.ensures.value ∙ name.is_text) c.requires (λ at. c.in_default.not-FilledObject (ap (λ (p : Place). p.top) c.self.view_is ∙ at)) in
    Wrote_as first c.emit-in_default.ensures.wrote
