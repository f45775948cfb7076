use Rattle.bike_laws.proofs.SessionLemmas.{answers_again, refuses_others}
use Rattle.bike_laws.proofs.sessions.retry_law.Goals as goal

pub returns-clause-again : goal.returns-clause-again
returns-clause-again c = answers_again

pub returns-clause-reused : goal.returns-clause-reused
returns-clause-reused c = refuses_others
