use Rattle.bike_laws.proofs.SessionLemmas.{accepts_once}
use Rattle.bike_laws.proofs.sessions.once_law.Goals as goal

pub returns : goal.returns
returns c = accepts_once
