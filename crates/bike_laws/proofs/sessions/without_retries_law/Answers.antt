use Rattle.bike_laws.proofs.SessionLemmas.{leaves_retries_out}
use Rattle.bike_laws.proofs.sessions.without_retries_law.Goals as goal

pub returns : goal.returns
returns c = leaves_retries_out
