use Rattle.bike_laws.proofs.HistoryLemmas.{served_again, made_again, in_order, now_is_last}
use Rattle.bike_laws.proofs.sessions.history_law.Goals as goal

pub returns-clause-again : goal.returns-clause-again
returns-clause-again c = served_again

pub returns-clause-whole : goal.returns-clause-whole
returns-clause-whole c = made_again

pub returns-clause-order : goal.returns-clause-order
returns-clause-order c = in_order

pub returns-clause-last : goal.returns-clause-last
returns-clause-last c = now_is_last
