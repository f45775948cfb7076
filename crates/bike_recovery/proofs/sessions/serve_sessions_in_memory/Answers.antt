use Rattle.bike_recovery.proofs.FrontLemmas.{at_nobody}
use Rattle.bike_recovery.proofs.SessionsLemmas.{served_in_memory}
use Rattle.bike_recovery.proofs.sessions.serve_sessions_in_memory.Goals as goal

pub returns-clause-served : goal.returns-clause-served
returns-clause-served c =
    let at = at_nobody c.in-Ok.conn c.in-Ok-adopt.desk (c.in-Ok.ensures.empty).2 c.in-Ok-adopt.ensures.only in
    served_in_memory _ _ (c.in-Ok-serve_sessions.ensures.served _ at)

pub returns-clause-refused : goal.returns-clause-refused
returns-clause-refused c =
    let at = at_nobody c.in-Ok.conn c.in-Ok-adopt.desk (c.in-Ok.ensures.empty).2 c.in-Ok-adopt.ensures.only in
    c.in-Ok-serve_sessions.ensures.refused _ at
