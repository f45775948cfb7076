use Rattle.bike_sql.proofs.InsideLemmas.{on_err, left, rollback_ended, undo_done, undo_survives}
use Rattle.bike_sql.proofs.inside.undo.Goals as goal

pub returns-in_err-execute-clause-refused : goal.returns-in_err-execute-clause-refused
returns-in_err-execute-clause-refused g c clean = on_err c.from_residual.result (left _ _ _ _ _ (c.in_err-execute.ensures.runs clean))

pub returns-in_err-execute-clause-ended : goal.returns-in_err-execute-clause-ended
returns-in_err-execute-clause-ended g c clean = rollback_ended _ _ _ (c.in_err-execute.ensures.runs clean)

pub returns-in_err-execute-clause-survives : goal.returns-in_err-execute-clause-survives
returns-in_err-execute-clause-survives g c = undo_survives _ _ c.in_err-execute.ensures.survives

pub returns-clause-undone : goal.returns-clause-undone
returns-clause-undone g c clean = undo_done _ _ _ (c.in_ok-execute.ensures.runs clean)

pub returns-clause-ended : goal.returns-clause-ended
returns-clause-ended g c clean = (undo_done _ _ _ (c.in_ok-execute.ensures.runs clean)).autocommit

pub returns-clause-survives : goal.returns-clause-survives
returns-clause-survives g c = undo_survives _ _ c.in_ok-execute.ensures.survives
