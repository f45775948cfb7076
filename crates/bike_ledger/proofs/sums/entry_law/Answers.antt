use Rattle.bike_ledger.specs.Ledger.{share, given_back_of, cash_in, revenue_in}
use Rattle.bike_ledger.proofs.SumLemmas.{total-append, balance_of-own, balance_of-other}
use Rattle.bike_ledger.proofs.sums.entry_law.Goals as goal

pub returns-clause-balance : goal.returns-clause-balance
returns-clause-balance c = λ es e rider. total-append (share rider) es e

pub returns-clause-own : goal.returns-clause-own
returns-clause-own c = balance_of-own

pub returns-clause-others : goal.returns-clause-others
returns-clause-others c = balance_of-other

pub returns-clause-cash : goal.returns-clause-cash
returns-clause-cash c = λ es e. total-append (λ x. cash_in x.kind x.amount) es e

pub returns-clause-revenue : goal.returns-clause-revenue
returns-clause-revenue c = λ es e. total-append (λ x. revenue_in x.kind x.amount) es e

pub returns-clause-refunded : goal.returns-clause-refunded
returns-clause-refunded c = λ es e rental. total-append (given_back_of rental) es e

pub returns-clause-any_sum : goal.returns-clause-any_sum
returns-clause-any_sum c = total-append
