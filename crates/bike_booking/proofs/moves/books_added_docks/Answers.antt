use Rattle.bike_booking.proofs.AddedDocks.{add_docks}
use Rattle.bike_booking.proofs.moves.books_added_docks.Goals as goal

pub returns : goal.returns
returns c = add_docks
