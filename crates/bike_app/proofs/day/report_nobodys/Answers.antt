use Rattle.std.proofs.Common.{inl, inr}
use Rattle.std.proofs.KnownBytes.{Keeps-refl}
use Rattle.bike_operator.specs.Operator.{no_operator}
use Rattle.bike_audit.specs.Adoption.{handed}
use Rattle.bike_app.proofs.ProgramLemmas.{memory_begins, memory_is_clean, not_begun}
use Rattle.bike_app.proofs.day.report_nobodys.Goals as goal

pub returns-in-Ok : goal.returns-in-Ok
returns-in-Ok g c =
    let begun = c.in-Ok.ensures.found no_operator (memory_begins c.in_ok-conn.conn c.in_ok-conn.ensures.empty) (memory_is_clean c.in-Ok.desk.conn) in
    inr (c.report_at.ensures.told (memory_is_clean c.report_at.new.desk.conn) no_operator begun).told

pub returns-in-Err : goal.returns-in-Err
returns-in-Err g c =
    let want = c.in-Err.ensures.refused no_operator (memory_begins c.in_ok-conn.conn c.in_ok-conn.ensures.empty) (memory_is_clean (handed c.in-Err.fault)) in
    inl (rw c.refused.ensures.told (not_begun c.in-Err.fault want _ _ (Keeps-refl _)))
