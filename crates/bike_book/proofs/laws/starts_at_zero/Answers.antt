use Rattle.bike_book.proofs.SoundNumbers.{no_refunds, no_balance, none_docked, no_types_yet, none_broken}
use Rattle.bike_book.proofs.laws.starts_at_zero.Goals as goal

pub returns-clause-refunds : goal.returns-clause-refunds
returns-clause-refunds c = no_refunds

pub returns-clause-balance : goal.returns-clause-balance
returns-clause-balance c = no_balance

pub returns-clause-docked : goal.returns-clause-docked
returns-clause-docked c = none_docked

pub returns-clause-types : goal.returns-clause-types
returns-clause-types c = no_types_yet

pub returns-clause-broken : goal.returns-clause-broken
returns-clause-broken c = none_broken
