use Rattle.bike_booking.proofs.Ends.{stored_docks, sound_ends}
use Rattle.bike_booking.proofs.moves.books_request.Goals as goal

pub returns-clause-stored : goal.returns-clause-stored
returns-clause-stored c = stored_docks

pub returns-clause-ends : goal.returns-clause-ends
returns-clause-ends c = sound_ends
