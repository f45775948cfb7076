use Rattle.bike_book.proofs.TypeLaws.{types_counted, types_same, type_changed, no_types, types_idents}
use Rattle.bike_book.proofs.TypeReading.{types_back}
use Rattle.bike_book.proofs.laws.counts_by_type.Goals as goal

pub returns-clause-counts : goal.returns-clause-counts
returns-clause-counts c = types_counted

pub returns-clause-same : goal.returns-clause-same
returns-clause-same c = types_same

pub returns-clause-changed : goal.returns-clause-changed
returns-clause-changed c = type_changed

pub returns-clause-none : goal.returns-clause-none
returns-clause-none c = no_types

pub returns-clause-idents : goal.returns-clause-idents
returns-clause-idents c = types_idents

pub returns-clause-reads : goal.returns-clause-reads
returns-clause-reads c = types_back
