use Rattle.std.proofs.Common.{rules}
use Rattle.bike_migrate.proofs.InsideLemmas.{run_done, run_failed}
use Rattle.bike_migrate.proofs.inside.run.Goals as goal

pub returns-in_err-execute : goal.returns-in_err-execute
returns-in_err-execute g c = run_failed (search rules) c.in_err-execute.ensures.survives

pub returns : goal.returns
returns g c = run_done c.in_ok-execute.field-0 c.in_ok-execute.ensures.runs c.in_ok-execute.ensures.survives
