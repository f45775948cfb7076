use Rattle.std.proofs.Common.{◌≡◌, ◌∙◌, [], sym, true, false, arith}
use Rattle.sqlite.specs.State.{HasCleanDisk}
use Rattle.bike_operator.specs.Runs.{after}
use Rattle.bike_desk.specs.Desk.{desk_state}
use Rattle.bike_server.proofs.ServingLemmas.{served, joined}
use Rattle.bike_server.proofs.InOrder.{none_yet, enough, no_more, fails, one_more, opens, stopped_here}
use Rattle.bike_server.proofs.server.serve_count.Goals as goal

pub loop-turn-init : goal.loop-turn-init
loop-turn-init g c = record {
  clean = omega arith;
  goes_on = λ on. on;
  ran = λ clean s at. ([], tt, at);
  served = λ clean s at. none_yet g.S.Store c.args.desk.now s (g.A.Arrivals.known c.args.arrivals.now) at;
}

pub serve_arrival-requires : goal.serve_arrival-requires
serve_arrival-requires g c =
    opens g.A.Arrivals.may_fail g.A.Arrivals.connected g.A.Reader.Read.remaining g.A.Writer.Write.contents (g.A.Arrivals.known c.loop-turn.arrivals)
    (g.A.Arrivals.known c.accept.new.self) c.in-Ok-Some.arrival
    (rw c.in-Ok-Some.field-0-is at c.in-Ok-Some.ensures)

pub returns-in-Ok-None-clause-clean : goal.returns-in-Ok-None-clause-clean
returns-in-Ok-None-clause-clean g c = c.loop-turn.invariant.clean

pub returns-in-Ok-None-clause-kept : goal.returns-in-Ok-None-clause-kept
returns-in-Ok-None-clause-kept g c clean s at =
    let run = c.loop-turn.invariant.ran clean s at in
    served g.S.Store c.loop-turn.desk s run.0 run.1 run.2

pub returns-in-Ok-None-clause-goes_on : goal.returns-in-Ok-None-clause-goes_on
returns-in-Ok-None-clause-goes_on g c on stopped = absurd (let e : true ≡ false = sym stopped ∙ c.loop-turn.invariant.goes_on on in cc)

pub returns-in-Ok-None-clause-serves : goal.returns-in-Ok-None-clause-serves
returns-in-Ok-None-clause-serves g c clean s at =
    no_more g.S.Store g.A.Arrivals.may_fail g.A.Arrivals.connected g.A.Reader.Read.remaining g.A.Writer.Write.contents c.loop-turn.desk s c.args.count c.loop-turn._turn c.loop-turn-test.true
    (g.A.Arrivals.known c.loop-turn.arrivals) (g.A.Arrivals.known c.accept.new.self) (g.A.Arrivals.known c.args.arrivals.now)
    (c.loop-turn.invariant.served clean s at) (rw c.in-Ok-None.field-0-is at c.in-Ok-None.ensures)

pub returns-in-Err-clause-clean : goal.returns-in-Err-clause-clean
returns-in-Err-clause-clean g c = c.loop-turn.invariant.clean

pub returns-in-Err-clause-kept : goal.returns-in-Err-clause-kept
returns-in-Err-clause-kept g c clean s at =
    let run = c.loop-turn.invariant.ran clean s at in
    served g.S.Store c.loop-turn.desk s run.0 run.1 run.2

pub returns-in-Err-clause-goes_on : goal.returns-in-Err-clause-goes_on
returns-in-Err-clause-goes_on g c on stopped = absurd (let e : true ≡ false = sym stopped ∙ c.loop-turn.invariant.goes_on on in cc)

pub returns-in-Err-clause-serves : goal.returns-in-Err-clause-serves
returns-in-Err-clause-serves g c clean s at =
    fails g.S.Store g.A.Arrivals.may_fail g.A.Arrivals.connected g.A.Reader.Read.remaining g.A.Writer.Write.contents c.loop-turn.desk s c.args.count c.loop-turn._turn c.loop-turn-test.true
    (g.A.Arrivals.known c.loop-turn.arrivals) (g.A.Arrivals.known c.accept.new.self) c.in-Err.field-0 (g.A.Arrivals.known c.args.arrivals.now)
    (c.loop-turn.invariant.served clean s at) c.in-Err.ensures

pub returns-then-stopped-clause-clean : goal.returns-then-stopped-clause-clean
returns-then-stopped-clause-clean g c = omega (arith, c.loop-turn.invariant.clean, c.serve_arrival.ensures.clean)

pub returns-then-stopped-clause-kept : goal.returns-then-stopped-clause-kept
returns-then-stopped-clause-kept g c clean s at =
    let it = c.serve_arrival.ensures in
    let early : HasCleanDisk (desk_state g.S.Store c.loop-turn.desk) = omega (arith, clean, it.clean) in
    let run = c.loop-turn.invariant.ran early s at in
    joined g.S.Store c.serve_arrival.new.desk s run.0 run.1 (it.kept clean (after s run.0) run.2)

pub returns-then-stopped-clause-serves : goal.returns-then-stopped-clause-serves
returns-then-stopped-clause-serves g c clean s at =
    let it = c.serve_arrival.ensures in
    let early : HasCleanDisk (desk_state g.S.Store c.loop-turn.desk) = omega (arith, clean, it.clean) in
    stopped_here g.S.Store g.A.Arrivals.may_fail g.A.Arrivals.connected g.A.Reader.Read.remaining g.A.Writer.Write.contents c.loop-turn.desk c.serve_arrival.new.desk s c.loop-turn._turn
    (g.A.Arrivals.known c.loop-turn.arrivals) (g.A.Arrivals.known c.accept.new.self) (g.A.Arrivals.known c.serve_arrival.new.arrivals) c.in-Ok-Some.arrival
    (it.served clean) (rw c.in-Ok-Some.field-0-is at c.in-Ok-Some.ensures) (g.A.Arrivals.known c.args.arrivals.now) (c.loop-turn.invariant.served early s at)
    c.args.count c.loop-turn-test.true (sym c.stopped.ensures ∙ c.if-stopped.true)

pub loop-turn-preserved : goal.loop-turn-preserved
loop-turn-preserved g c =
    let it = c.serve_arrival.ensures in
    let inv = c.loop-turn.invariant in
    let goes_on : c.serve_arrival.new.desk.is_stopped ≡ false = sym c.stopped.ensures ∙ c.if-stopped.false in
    record {
      clean = omega (arith, inv.clean, it.clean);
      goes_on = λ on. goes_on;
      ran = λ clean s at.
          let early : HasCleanDisk (desk_state g.S.Store c.loop-turn.desk) = omega (arith, clean, it.clean) in
          let run = inv.ran early s at in
          let now = joined g.S.Store c.serve_arrival.new.desk s run.0 run.1 (it.kept clean (after s run.0) run.2) in
          (now.calls, now.good, now.goes_on goes_on);
      served = λ clean s at.
          let early : HasCleanDisk (desk_state g.S.Store c.loop-turn.desk) = omega (arith, clean, it.clean) in
          one_more g.S.Store g.A.Arrivals.may_fail g.A.Arrivals.connected g.A.Reader.Read.remaining g.A.Writer.Write.contents c.loop-turn.desk c.serve_arrival.new.desk s c.loop-turn._turn
          (g.A.Arrivals.known c.loop-turn.arrivals) (g.A.Arrivals.known c.accept.new.self) (g.A.Arrivals.known c.serve_arrival.new.arrivals) c.in-Ok-Some.arrival
          (it.served clean) (rw c.in-Ok-Some.field-0-is at c.in-Ok-Some.ensures) (g.A.Arrivals.known c.args.arrivals.now) (c.loop-turn.invariant.served early s at) goes_on;
    }

pub returns-clause-clean : goal.returns-clause-clean
returns-clause-clean g c = c.loop-turn.invariant.clean

pub returns-clause-kept : goal.returns-clause-kept
returns-clause-kept g c clean s at =
    let run = c.loop-turn.invariant.ran clean s at in
    served g.S.Store c.loop-turn.desk s run.0 run.1 run.2

pub returns-clause-goes_on : goal.returns-clause-goes_on
returns-clause-goes_on g c on stopped = absurd (let e : true ≡ false = sym stopped ∙ c.loop-turn.invariant.goes_on on in cc)

pub returns-clause-serves : goal.returns-clause-serves
returns-clause-serves g c clean s at =
    enough g.S.Store c.loop-turn.desk s c.args.count c.loop-turn._turn (g.A.Arrivals.known c.args.arrivals.now) (g.A.Arrivals.known c.loop-turn.arrivals)
    (c.loop-turn.invariant.served clean s at) (omega (arith, c.loop-turn.auto._turn-end, c.loop-turn-test.false))
