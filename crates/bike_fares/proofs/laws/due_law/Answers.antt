use Rattle.bike_fares.proofs.DueLemmas.{is_due-from, is_due-only}
use Rattle.bike_fares.proofs.laws.due_law.Goals as goal

pub returns-clause-due : goal.returns-clause-due
returns-clause-due c = is_due-from

pub returns-clause-only : goal.returns-clause-only
returns-clause-only c = is_due-only
