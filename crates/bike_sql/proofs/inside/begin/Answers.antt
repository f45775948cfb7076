use Rattle.bike_sql.proofs.InsideLemmas.{on_err, left, begin_done, begin_survives}
use Rattle.bike_sql.proofs.inside.begin.Goals as goal

pub returns-in_err-execute-clause-refused : goal.returns-in_err-execute-clause-refused
returns-in_err-execute-clause-refused g c clean = on_err c.from_residual.result (left _ _ _ _ _ (c.in_err-execute.ensures.runs clean))

pub returns-in_err-execute-clause-survives : goal.returns-in_err-execute-clause-survives
returns-in_err-execute-clause-survives g c = begin_survives _ _ c.in_err-execute.ensures.survives

pub returns-clause-begun : goal.returns-clause-begun
returns-clause-begun g c clean = begin_done _ _ _ (c.in_ok-execute.ensures.runs clean)

pub returns-clause-survives : goal.returns-clause-survives
returns-clause-survives g c = begin_survives _ _ c.in_ok-execute.ensures.survives
