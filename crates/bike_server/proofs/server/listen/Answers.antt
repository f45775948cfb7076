use Rattle.std.proofs.Common.{[], inr, arith}
use Rattle.sqlite.specs.State.{HasCleanDisk}
use Rattle.bike_desk.specs.Desk.{desk_state}
use Rattle.bike_server.proofs.AnsweringLemmas.{known_keeps}
use Rattle.bike_server.proofs.ServingLemmas.{requests_left, ends_listening}
use Rattle.bike_server.proofs.server.listen.Goals as goal

pub returns-in-Ok-clause-kept : goal.returns-in-Ok-clause-kept
returns-in-Ok-clause-kept g c clean s stands live =
    let it = c.listen_all-served.ensures in
    let now : HasCleanDisk (desk_state g.S.Store c.listen_all-served.new.desk) = rw c.close.ensures.same at clean in
    let early : HasCleanDisk (desk_state g.S.Store c.in-Ok.desk) = omega (arith, now, it.clean) in
    rw c.close.ensures.same (requests_left g.S.Store c.listen_all-served.new.desk s (it.kept now s (c.in-Ok.ensures.found s stands early)))

pub returns-in-Err-clause-kept : goal.returns-in-Err-clause-kept
returns-in-Err-clause-kept g c clean s stands live =
    rw c.taken_from-conn.ensures.conn (λ db h. ([], tt, c.in-Err.ensures.left s stands live (rw c.taken_from-conn.ensures.conn at clean) db h))

pub returns-in-Ok-clause-ends : goal.returns-in-Ok-clause-ends
returns-in-Ok-clause-ends g c =
    ends_listening g.S.Store c.args.conn c.close.result (g.W.Write.contents c.args.writer.now) (g.W.Write.contents c.listen_all-served.new.writer)
    c.listen_all-served.result c.ended.result c.ended.ensures

pub returns-in-Err-clause-ends : goal.returns-in-Err-clause-ends
returns-in-Err-clause-ends g c = inr (record {
  fault = c.in-Err.fault;
  is = c.taken_from-conn.ensures.told;
  conn = c.taken_from-conn.ensures.conn;
  why = λ clean. c.in-Err.ensures.told (rw c.taken_from-conn.ensures.conn at clean);
  want = λ s stands clean. c.in-Err.ensures.refused s stands (rw c.taken_from-conn.ensures.conn at clean);
  written = known_keeps (g.W.Write.contents c.args.writer.now);
})
