use Rattle.bike_laws.proofs.RetryLemmas.{first_kept, stays_kept}
use Rattle.bike_laws.proofs.retries.kept_law.Goals as goal

pub returns-clause-first : goal.returns-clause-first
returns-clause-first c = first_kept

pub returns-clause-on : goal.returns-clause-on
returns-clause-on c = stays_kept
