use Rattle.bike_laws.proofs.RetryLemmas.{answered_again, refused_again}
use Rattle.bike_laws.proofs.retries.retry_law.Goals as goal

pub returns-clause-again : goal.returns-clause-again
returns-clause-again c = answered_again

pub returns-clause-reused : goal.returns-clause-reused
returns-clause-reused c = refused_again
