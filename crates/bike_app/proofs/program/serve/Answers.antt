use Rattle.std.proofs.Common.{inl, inr, []}
use Rattle.std.proofs.KnownBytes.{Keeps-refl}
use Rattle.bike_app.proofs.ProgramLemmas.{began_clean, by_adoption, ended_clean, refuses, refused_left, end_told, some_left}
use Rattle.bike_app.proofs.program.serve.Goals as goal

pub returns-in-Ok-clause-served : goal.returns-in-Ok-clause-served
returns-in-Ok-clause-served g c clean =
    let now = ended_clean g.S.Store c.run_lines-end.new.desk c.close.ensures.same clean in
    let early = began_clean g.S.Store c.run_lines-end.new.desk c.close.ensures.same clean c.in-Ok.desk c.run_lines-end.ensures.clean in
    let it = c.in-Ok.ensures.only early in
    inr (record {
      operator = it.0;
      was = it.1;
      served = λ s stands. record {
        desk = c.run_lines-end.new.desk;
        result = c.run_lines-end.result;
        told = end_told _ _ c.map_err.ensures.cases;
        conn = c.close.ensures.same;
        ran = c.run_lines-end.ensures.ran now s (c.in-Ok.ensures.found s stands early);
      };
    })

pub returns-in-Ok-clause-kept : goal.returns-in-Ok-clause-kept
returns-in-Ok-clause-kept g c clean s stands live =
    let now = ended_clean g.S.Store c.run_lines-end.new.desk c.close.ensures.same clean in
    let early = began_clean g.S.Store c.run_lines-end.new.desk c.close.ensures.same clean c.in-Ok.desk c.run_lines-end.ensures.clean in
    rw c.close.ensures.same (some_left g.S.Store c.run_lines-end.new.desk s _ (c.run_lines-end.ensures.kept now s (c.in-Ok.ensures.found s stands early)))

pub returns-in-Err-clause-served : goal.returns-in-Err-clause-served
returns-in-Err-clause-served g c clean = inl (Keeps-refl _, refuses g.S.Store c.in-Err.fault (by_adoption c.in-Err.ensures) c.refused.ensures.conn clean _ c.refused.ensures.told)

pub returns-in-Err-clause-kept : goal.returns-in-Err-clause-kept
returns-in-Err-clause-kept g c clean s stands live db h = ([], tt, refused_left g.S.Store c.in-Err.fault (by_adoption c.in-Err.ensures) c.refused.ensures.conn clean s stands live db h)
