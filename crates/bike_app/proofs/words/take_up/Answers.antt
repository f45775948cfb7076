use Rattle.std.proofs.Common.{inl, inr, rules}
use Rattle.sqlite.specs.State.{HasCleanDisk}
use Rattle.bike_desk.specs.Desk.{desk_state}
use Rattle.bike_app.proofs.words.take_up.Goals as goal

pub returns-in-Ok-clause-told : goal.returns-in-Ok-clause-told
returns-in-Ok-clause-told g c clean =
    let now : HasCleanDisk (desk_state g.S.Store c.in-Ok.desk) = rw c.close.ensures.same at clean in
    let it = c.in-Ok.ensures.adopts.only now in
    inr (record { operator = it.0; was = it.1; keeps = rw c.close.ensures.same it.2.keeps }, c.write_line.ensures)

pub returns-in-Ok-clause-kept : goal.returns-in-Ok-clause-kept
returns-in-Ok-clause-kept g c clean s stands live =
    let now : HasCleanDisk (desk_state g.S.Store c.in-Ok.desk) = rw c.close.ensures.same at clean in
    rw c.close.ensures.same (c.in-Ok.ensures.adopts.found s stands now).keeps.left

pub returns-in-Err-clause-told : goal.returns-in-Err-clause-told
returns-in-Err-clause-told g c clean =
    let now = rw c.refused.ensures.conn at clean in
    inl (record {
      fault = c.in-Err.fault;
      told = c.refused.ensures.told;
      why = c.in-Err.ensures.adopts.told now;
      want = λ s stands. c.in-Err.ensures.adopts.refused s stands now;
      conn = c.refused.ensures.conn;
      written = search rules;
    })

pub returns-in-Err-clause-kept : goal.returns-in-Err-clause-kept
returns-in-Err-clause-kept g c clean s stands live =
    rw c.refused.ensures.conn (λ db h. c.in-Err.ensures.adopts.left s stands live (rw c.refused.ensures.conn at clean) db h)
