use Rattle.bike_book.proofs.FoundKeys.{found_by_key, found_listed}
use Rattle.bike_book.proofs.FoundColumns.{found_by_columns}
use Rattle.bike_book.proofs.FoundNumbers.{found_numbers}
use Rattle.bike_book.proofs.laws.finds_rows.Goals as goal

pub returns-clause-by_key : goal.returns-clause-by_key
returns-clause-by_key c = found_by_key

pub returns-clause-listed : goal.returns-clause-listed
returns-clause-listed c = found_listed

pub returns-clause-by_columns : goal.returns-clause-by_columns
returns-clause-by_columns c = found_by_columns

pub returns-clause-numbers : goal.returns-clause-numbers
returns-clause-numbers c = found_numbers
