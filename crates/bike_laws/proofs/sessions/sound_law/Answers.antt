use Rattle.bike_laws.proofs.SessionLemmas.{sessions_sound}
use Rattle.bike_laws.proofs.sessions.sound_law.Goals as goal

pub returns : goal.returns
returns c = sessions_sound
