use Rattle.std.proofs.Common.{arith}
use Rattle.sqlite.specs.State.{HasCleanDisk}
use Rattle.bike_desk.specs.Desk.{desk_state}
use Rattle.bike_laws.specs.Sessions.{after_sessions}
use Rattle.bike_recovery.proofs.SessionsLemmas.{serves-none, serves-turn, serves-all}
use Rattle.bike_recovery.proofs.sessions.serve_sessions.Goals as goal

pub sessions-init : goal.sessions-init
sessions-init g c = record {
  len = omega (arith, c.in-Ok.ensures.len);
  room = omega (arith, c.in-Ok.ensures.capacity);
  so_far = λ clean s at. serves-none g.S.Store s (λ a. a.replies.items) c.args.desk c.in-Ok.told.items c.in-Ok.ensures.items at;
}

pub returns-in-Err-resumed-clause-refused : goal.returns-in-Err-resumed-clause-refused
returns-in-Err-resumed-clause-refused g c s at =
    rw c.in-Err-resumed.is at c.serve_session-session.ensures.refused (λ clean.
    let was = c.sessions.invariant.so_far clean s at in
    (after_sessions s was.served, was.at))

pub sessions-preserved : goal.sessions-preserved
sessions-preserved g c =
    let before = c.sessions.invariant in
    let session = c.serve_session-session in
    let again = c.in-Ok-resumed.again in
    let no_cleaner = (rw c.in-Ok-resumed.is at session.ensures.clean) in
    record {
      len = omega (arith, before.len, c.note.ensures.len);
      room = omega (arith, before.room, c.note.ensures.capacity);
      so_far = λ clean s at.
          let early : HasCleanDisk (desk_state g.S.Store c.sessions.now) = omega (arith, clean, no_cleaner) in
          let was = before.so_far early s at in
          let then = after_sessions s was.served in
          serves-turn g.S.Store s (λ calls. calls.items) (λ a. a.replies.items) c.sessions.now again c.args.sessions.now c.sessions.calls-index c.calls-item.result
          c.as_slice.result.now c.sessions.told.items c.note.new.told.items session.result.0 c.sessions-test.true c.calls-item.is c.as_slice.ensures.value c.note.ensures.items was
          ((rw c.in-Ok-resumed.is at session.ensures.replies then was.at) clean) ((rw c.in-Ok-resumed.is at session.ensures.front then was.at) clean);
    }

pub returns-clause-served : goal.returns-clause-served
returns-clause-served g c s at clean =
    serves-all g.S.Store s (λ calls. calls.items) c.sessions.now c.args.sessions.now c.sessions.calls-index _ (omega (arith, c.sessions-test.false)) (c.sessions.invariant.so_far clean s at)
