use Rattle.std.proofs.Common.{take, arith}
use Rattle.bike_operator.specs.Runs.{after}
use Rattle.bike_recovery.proofs.SessionsLemmas.{resumes}
use Rattle.bike_recovery.proofs.sessions.serve_session.Goals as goal

pub returns-clause-front : goal.returns-clause-front
returns-clause-front g c s at =
    resumes g.S.Store c.run_list-run.new.self s c.args.calls.now _ c.resume.result (λ run. c.run_list-run.ensures.front run s at) c.resume.ensures.clean c.resume.ensures.front

pub returns-clause-refused : goal.returns-clause-refused
returns-clause-refused g c at = c.resume.ensures.refused (λ run trees may.
    let was = at (omega (arith, run, c.run_list-run.ensures.clean)) in
    let it = c.run_list-run.ensures.front run was.0 was.1 trees may in
    (after was.0 (take it.0 c.args.calls.now), it.4))
