use Rattle.bike_laws.proofs.SessionLemmas.{answered_among_calls}
use Rattle.bike_laws.proofs.sessions.answers_law.Goals as goal

pub returns : goal.returns
returns c = answered_among_calls
