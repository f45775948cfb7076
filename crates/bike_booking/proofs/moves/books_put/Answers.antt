use Rattle.bike_booking.proofs.PutBooks.{put_away, put_at_dock}
use Rattle.bike_booking.proofs.moves.books_put.Goals as goal

pub returns-clause-away : goal.returns-clause-away
returns-clause-away c = put_away

pub returns-clause-at_dock : goal.returns-clause-at_dock
returns-clause-at_dock c = put_at_dock
