use Rattle.std.proofs.Common.{◌≡◌, subst, arith}
use Rattle.sqlite_trees.specs.View.{doubt}
use Rattle.sqlite.specs.State.{HasCleanDisk}
use Rattle.sqlite.specs.Held.{state}
use Rattle.bike_desk.specs.Desk.{desk_state}
use Rattle.bike_recovery.proofs.StopLemmas.{shut_only}
use Rattle.bike_recovery.proofs.crash.resume.Goals as goal

pub returns-in-Ok-adopt-clause-front : goal.returns-in-Ok-adopt-clause-front
returns-in-Ok-adopt-clause-front g c clean s calls k left =
    let conn = c.in-Ok.conn in
    let conn_clean : HasCleanDisk (state g.S.Store conn) = omega (arith, clean, c.in-Ok-adopt.ensures.clean) in
    let may = subst (λ h. (state g.S.Store h).may_leave (state g.S.Store conn).now.trees) c.close.ensures.same (c.in-Ok.ensures.left conn_clean) in
    let it = left (state g.S.Store conn).now.trees may in
    (it.0, it.1, it.2, it.3, c.in-Ok-adopt.ensures.found _ it.4 clean)

pub returns-in-Err-adopt-clause-refused : goal.returns-in-Err-adopt-clause-refused
returns-in-Err-adopt-clause-refused g c left clean =
    let conn = c.in-Ok.conn in
    let conn_clean : HasCleanDisk (state g.S.Store conn) = omega (arith, clean, c.in-Err-adopt.ensures.clean) in
    let closed_clean : doubt (state g.S.Store c.close.result).is_clean ≡ 0 = omega (arith, conn_clean, c.in-Ok.ensures.clean) in
    let desk_clean : HasCleanDisk (desk_state g.S.Store c.args.desk) = subst (λ h. HasCleanDisk (state g.S.Store h)) c.close.ensures.same closed_clean in
    let may = subst (λ h. (state g.S.Store h).may_leave (state g.S.Store conn).now.trees) c.close.ensures.same (c.in-Ok.ensures.left conn_clean) in
    let it = left desk_clean (state g.S.Store conn).now.trees may in
    c.in-Err-adopt.ensures.refused it.0 it.1 clean

pub returns-in-Err-clause-refused : goal.returns-in-Err-clause-refused
returns-in-Err-clause-refused g c left = shut_only g.S.Store c.close.result c.in-Err.shut c.in-Err.ensures.refused
