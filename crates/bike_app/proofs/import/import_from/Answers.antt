use Rattle.std.proofs.Common.{inl, inr, []}
use Rattle.std.proofs.KnownBytes.{Keeps-refl}
use Rattle.bike_app.proofs.ImportLemmas.{told_left}
use Rattle.bike_app.proofs.ProgramLemmas.{began_clean, ended_clean, by_adoption, refuses, refused_left}
use Rattle.bike_app.proofs.import.import_from.Goals as goal

pub returns-in-Ok-clause-told : goal.returns-in-Ok-clause-told
returns-in-Ok-clause-told g c clean =
    let now = ended_clean g.S.Store c.import_at-end.new.desk c.close.ensures.same clean in
    let early = began_clean g.S.Store c.import_at-end.new.desk c.close.ensures.same clean c.in-Ok.desk c.import_at-end.ensures.clean in
    let it = c.in-Ok.ensures.only early in
    inr (record {
      desk = c.import_at-end.new.desk;
      conn = c.close.ensures.same;
      operator = it.0;
      was = it.1;
      imported = λ s stands. c.import_at-end.ensures.told now s (c.in-Ok.ensures.found s stands early);
    })

pub returns-in-Ok-clause-kept : goal.returns-in-Ok-clause-kept
returns-in-Ok-clause-kept g c clean s stands live =
    let now = ended_clean g.S.Store c.import_at-end.new.desk c.close.ensures.same clean in
    let early = began_clean g.S.Store c.import_at-end.new.desk c.close.ensures.same clean c.in-Ok.desk c.import_at-end.ensures.clean in
    let told = c.import_at-end.ensures.told now s (c.in-Ok.ensures.found s stands early) in
    rw c.close.ensures.same (told_left g.S.Store c.import_at-end.new.desk s _ _ _ _ c.args.name.now c.args.moment c.import_at-end.result told)

pub returns-in-Err-clause-told : goal.returns-in-Err-clause-told
returns-in-Err-clause-told g c clean = inl (Keeps-refl _, refuses g.S.Store c.in-Err.fault (by_adoption c.in-Err.ensures) c.refused.ensures.conn clean _ c.refused.ensures.told)

pub returns-in-Err-clause-kept : goal.returns-in-Err-clause-kept
returns-in-Err-clause-kept g c clean s stands live db h = ([], tt, refused_left g.S.Store c.in-Err.fault (by_adoption c.in-Err.ensures) c.refused.ensures.conn clean s stands live db h)
