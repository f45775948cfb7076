use Rattle.bike_json.proofs.Series.{Wrote_then, Wrote_as}
use Rattle.bike_json.specs.Escapes.{string_text}
use Rattle.bike_json.proofs.state.JsonState.put_string.Goals as goal

pub returns-then-length-gt0-clause-wrote : goal.returns-then-length-gt0-clause-wrote
returns-then-length-gt0-clause-wrote g c = Wrote_as (c.quote-length.ensures.string c.if-length-gt0.true) c.emit.ensures.wrote

pub returns-clause-wrote : goal.returns-clause-wrote
unfolding string_text
returns-clause-wrote g c = Wrote_then (Wrote_then c.emit-2.ensures.wrote c.escaped_runs.ensures.wrote) c.emit-3.ensures.wrote
