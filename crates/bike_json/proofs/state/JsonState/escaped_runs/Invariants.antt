use Rattle.std.proofs.Common.{◌≡◌, ◌≤◌, take, slice_range}
use Rattle.bike_json.specs.Escapes.{json_escapes}
use Rattle.bike_json.specs.State.{Wrote, IsAt}
use Rattle.bike_json.proofs.state.JsonState.escaped_runs.Given as goal

abbrev pub invariant-loop-i : goal.invariant-loop-i
invariant-loop-i g l =
    (l.start ≤ l.i)
    × Wrote l.fn.self l.self (g.W.Output.contents l.fn.out) (g.W.Output.contents l.out) (json_escapes (take l.start l.bytes))
    × IsAt l.self l.fn.self.top l.fn.self.round
    × (json_escapes (slice_range l.bytes l.start l.i) ≡ slice_range l.bytes l.start l.i)
