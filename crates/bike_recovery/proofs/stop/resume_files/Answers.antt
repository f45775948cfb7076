use Rattle.std.proofs.Common.{subst, arith}
use Rattle.std.proofs.Math.Logic.{∥∥₁_map}
use Rattle.sqlite.specs.State.{HasCleanDisk}
use Rattle.sqlite.specs.Files.{file_state}
use Rattle.bike_recovery.proofs.StopLemmas.{want_somehow}
use Rattle.bike_recovery.proofs.stop.resume_files.Goals as goal

pub returns-in-Ok-adopt-clause-front : goal.returns-in-Ok-adopt-clause-front
returns-in-Ok-adopt-clause-front g c hold s calls k left clean =
    let conn = c.in-Ok.conn in
    let conn_clean : HasCleanDisk (file_state conn) = omega (arith, clean, c.in-Ok-adopt.ensures.clean) in
    let trees = (rw c.in-Ok.is at c.stop_and_open-stopped.ensures.left hold) conn_clean in
    ∥∥₁_map trees (λ may.
    let it = left (file_state conn).now.trees (subst (λ h. (file_state h).may_leave (file_state conn).now.trees) c.close.ensures.same may) in
    (it.0, it.1, it.2, it.3, c.in-Ok-adopt.ensures.found _ it.4 clean))

pub returns-in-Err-adopt-clause-refused : goal.returns-in-Err-adopt-clause-refused
returns-in-Err-adopt-clause-refused g c hold s calls k left clean =
    let conn = c.in-Ok.conn in
    let conn_clean : HasCleanDisk (file_state conn) = omega (arith, clean, c.in-Err-adopt.ensures.clean) in
    let trees = (rw c.in-Ok.is at c.stop_and_open-stopped.ensures.left hold) conn_clean in
    want_somehow c.in-Err-adopt.fault (∥∥₁_map trees (λ may.
    let it = left (file_state conn).now.trees (subst (λ h. (file_state h).may_leave (file_state conn).now.trees) c.close.ensures.same may) in
    c.in-Err-adopt.ensures.refused _ it.4 clean))
