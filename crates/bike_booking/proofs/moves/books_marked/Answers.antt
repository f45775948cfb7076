use Rattle.bike_booking.proofs.MarkedBooks.{marked_empty, marked_held}
use Rattle.bike_booking.proofs.moves.books_marked.Goals as goal

pub returns-clause-empty : goal.returns-clause-empty
returns-clause-empty c = marked_empty

pub returns-clause-held : goal.returns-clause-held
returns-clause-held c = marked_held
