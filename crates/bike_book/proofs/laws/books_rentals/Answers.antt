use Rattle.bike_book.proofs.RentalBooks.{add_rental, close_rental, add_order, set_order}
use Rattle.bike_book.proofs.laws.books_rentals.Goals as goal

pub returns-clause-add_rental : goal.returns-clause-add_rental
returns-clause-add_rental c = add_rental

pub returns-clause-close_rental : goal.returns-clause-close_rental
returns-clause-close_rental c = close_rental

pub returns-clause-add_order : goal.returns-clause-add_order
returns-clause-add_order c = add_order

pub returns-clause-set_order : goal.returns-clause-set_order
returns-clause-set_order c = set_order
