use Rattle.bike_laws.proofs.RoomLemmas.{open_within_bikes, open_within_limit, room_left}
use Rattle.bike_laws.proofs.views.ledger_room_law.Goals as goal

pub returns-clause-bikes : goal.returns-clause-bikes
returns-clause-bikes c = open_within_bikes

pub returns-clause-few : goal.returns-clause-few
returns-clause-few c = open_within_limit

pub returns-clause-room : goal.returns-clause-room
returns-clause-room c = room_left
