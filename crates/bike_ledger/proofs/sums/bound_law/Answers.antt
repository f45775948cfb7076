use Rattle.bike_ledger.proofs.BoundLemmas.{balance_of-bound, cash_of-bound, revenue_of-bound}
use Rattle.bike_ledger.proofs.sums.bound_law.Goals as goal

pub returns-clause-balance : goal.returns-clause-balance
returns-clause-balance c = balance_of-bound

pub returns-clause-cash : goal.returns-clause-cash
returns-clause-cash c = cash_of-bound

pub returns-clause-revenue : goal.returns-clause-revenue
returns-clause-revenue c = revenue_of-bound
