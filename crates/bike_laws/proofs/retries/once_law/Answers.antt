use Rattle.bike_laws.proofs.RetryLemmas.{at_most_once}
use Rattle.bike_laws.proofs.retries.once_law.Goals as goal

pub returns : goal.returns
returns c = at_most_once
