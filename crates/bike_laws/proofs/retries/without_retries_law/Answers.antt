use Rattle.bike_laws.proofs.RetryLemmas.{one_left_out, all_left_out}
use Rattle.bike_laws.proofs.retries.without_retries_law.Goals as goal

pub returns-clause-one : goal.returns-clause-one
returns-clause-one c = one_left_out

pub returns-clause-all : goal.returns-clause-all
returns-clause-all c = all_left_out
