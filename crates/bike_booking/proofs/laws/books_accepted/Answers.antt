use Rattle.bike_booking.proofs.Accepted.{books_accepted, figures_follow}
use Rattle.bike_booking.proofs.laws.books_accepted.Goals as goal

pub returns-clause-books : goal.returns-clause-books
returns-clause-books c = books_accepted

pub returns-clause-figures : goal.returns-clause-figures
returns-clause-figures c = figures_follow
