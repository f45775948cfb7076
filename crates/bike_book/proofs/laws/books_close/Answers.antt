use Rattle.bike_book.proofs.CloseBooks.{close_quiet, close_entry, close_refund}
use Rattle.bike_book.proofs.laws.books_close.Goals as goal

pub returns-clause-quiet : goal.returns-clause-quiet
returns-clause-quiet c = close_quiet

pub returns-clause-entry : goal.returns-clause-entry
returns-clause-entry c = close_entry

pub returns-clause-refund : goal.returns-clause-refund
returns-clause-refund c = close_refund
