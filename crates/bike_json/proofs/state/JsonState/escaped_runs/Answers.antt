use Rattle.std.proofs.Common.{◌≡◌, ◌∙◌, ◌+◌, arith, length}
use Rattle.bike_json.proofs.Series.{Wrote_then, Wrote_as}
use Rattle.bike_json.proofs.Escaping.{run_goes_on, run_ends, run_last, run_none}
use Rattle.bike_json.proofs.state.JsonState.escaped_runs.Goals as goal
use Rattle.bike_json.proofs.state.JsonState.escaped_runs.Goals.{then-n-gt0, else-n-gt0}

pub loop-i-preserved : goal.loop-i-preserved
loop-i-preserved g c =
    let (le, wrote, place, run) = c.loop-i.invariant in
    let s = c.args.bytes.now in
    let l = c.loop-i in
    elim c.if-n-gt0.branch [
      | then-n-gt0 w ↦
          let more = run_ends s l.start l.i _ le c.loop-i-test.true (c.escape-n.ensures.escape w.if-n-gt0.true) run in
          rw (w.self-is, w.out-is, w.start-is) (
            omega arith,
            Wrote_as more (Wrote_then (Wrote_then wrote w.emit.ensures.wrote) w.emit-then-n-gt0.ensures.wrote),
            (w.emit-then-n-gt0.ensures.place.0 ∙ (w.emit.ensures.place.0 ∙ place.0), w.emit-then-n-gt0.ensures.place.1 ∙ (w.emit.ensures.place.1 ∙ place.1)),
            run_none s (l.i + 1),
          )
      | else-n-gt0 w ↦
          let none : c.escape-n.result ≡ 0 = omega (arith, w.if-n-gt0.false) in
          rw (w.self-is, w.out-is, w.start-is) (omega arith, wrote, place, run_goes_on s l.start l.i le c.loop-i-test.true (c.escape-n.ensures.plain none) run)
    ]

pub returns-clause-wrote : goal.returns-clause-wrote
returns-clause-wrote g c =
    let (le, wrote, place, run) = c.loop-i.invariant in
    let at : c.loop-i.i ≡ length c.args.bytes.now = omega arith in
    let all = rw at at run in
    Wrote_as (run_last c.args.bytes.now c.loop-i.start all) (Wrote_then wrote c.emit-2.ensures.wrote)
