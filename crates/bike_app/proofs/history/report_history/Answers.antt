use Rattle.std.proofs.Common.{inl, inr, refl, subst}
use Rattle.std.proofs.KnownBytes.{Keeps-refl}
use Rattle.bike_app.specs.History.{RecountsAt}
use Rattle.bike_app.proofs.LookLemmas.{matched, seen_at, seen_same, seen_tables, looked_kept, looked_stays}
use Rattle.bike_app.proofs.ProgramLemmas.{ended_clean, by_look, refuses, refused_left}
use Rattle.bike_app.proofs.history.report_history.Goals as goal

pub returns-in-Ok-Sound-clause-told : goal.returns-in-Ok-Sound-clause-told
returns-in-Ok-Sound-clause-told g c clean =
    let now = ended_clean g.S.Store c.recount_at-end.new.desk c.close.ensures.same clean in
    let it = seen_tables g.S.Store (matched c.in-Ok-Sound.field-0-is c.in-Ok-Sound.ensures) c.over-desk.ensures c.recount_at-end.new.desk c.close.ensures.same clean c.recount_at-end.ensures.clean in
    inr (inl (record {
      desk = c.recount_at-end.new.desk;
      conn = c.close.ensures.same;
      operator = it.0;
      was = it.1;
      recounted =
          λ s stands. subst (λ db. RecountsAt c.args.after g.S.Store db c.recount_at-end.new.desk s (g.W.Write.contents c.args.writer.now) (g.W.Write.contents c.recount_at-end.new.writer) c.recount_at-end.result)
          (seen_same g.S.Store (matched c.in-Ok-Sound.field-0-is c.in-Ok-Sound.ensures) c.over-desk.ensures c.recount_at-end.new.desk c.close.ensures.same clean c.recount_at-end.ensures.clean)
          (c.recount_at-end.ensures.told now s
          (seen_at g.S.Store (matched c.in-Ok-Sound.field-0-is c.in-Ok-Sound.ensures) c.over-desk.ensures c.recount_at-end.new.desk c.close.ensures.same clean c.recount_at-end.ensures.clean s stands));
    }))

pub returns-in-Ok-Sound-clause-kept : goal.returns-in-Ok-Sound-clause-kept
returns-in-Ok-Sound-clause-kept g c clean s stands live =
    let now = ended_clean g.S.Store c.recount_at-end.new.desk c.close.ensures.same clean in
    looked_kept g.S.Store (matched c.in-Ok-Sound.field-0-is c.in-Ok-Sound.ensures) c.over-desk.ensures c.recount_at-end.new.desk c.close.ensures.same clean c.recount_at-end.ensures.clean
    (λ o at. c.recount_at-end.ensures.left now o at) s stands live

pub returns-in-Ok-Sound-clause-stays : goal.returns-in-Ok-Sound-clause-stays
returns-in-Ok-Sound-clause-stays g c clean =
    let now = ended_clean g.S.Store c.recount_at-end.new.desk c.close.ensures.same clean in
    looked_stays g.S.Store (matched c.in-Ok-Sound.field-0-is c.in-Ok-Sound.ensures) c.over-desk.ensures c.recount_at-end.new.desk c.close.ensures.same clean c.recount_at-end.ensures.clean
    (λ o at. c.recount_at-end.ensures.left now o at)

pub returns-in-Ok-Empty-clause-told : goal.returns-in-Ok-Empty-clause-told
returns-in-Ok-Empty-clause-told g c clean =
    let it = (matched c.in-Ok-Empty.field-0-is c.in-Ok-Empty.ensures).seen clean in
    inr (inr (record { same = it.0; none = it.1; told = (refl, Keeps-refl _) }))

pub returns-in-Ok-Empty-clause-kept : goal.returns-in-Ok-Empty-clause-kept
returns-in-Ok-Empty-clause-kept g c clean s stands live = (matched c.in-Ok-Empty.field-0-is c.in-Ok-Empty.ensures).left s stands live clean

pub returns-in-Err-clause-told : goal.returns-in-Err-clause-told
returns-in-Err-clause-told g c clean = inl (refuses g.S.Store c.in-Err.fault (by_look c.in-Err.ensures) c.refused.ensures.conn clean _ c.refused.ensures.told)

pub returns-in-Err-clause-kept : goal.returns-in-Err-clause-kept
returns-in-Err-clause-kept g c clean s stands live = refused_left g.S.Store c.in-Err.fault (by_look c.in-Err.ensures) c.refused.ensures.conn clean s stands live

pub returns-in-Err-clause-stays : goal.returns-in-Err-clause-stays
returns-in-Err-clause-stays g c clean = rw c.refused.ensures.conn (c.in-Err.ensures.stays (rw c.refused.ensures.conn at clean))

pub returns-in-Ok-Empty-clause-stays : goal.returns-in-Ok-Empty-clause-stays
returns-in-Ok-Empty-clause-stays g c clean = (matched c.in-Ok-Empty.field-0-is c.in-Ok-Empty.ensures).stays clean
