use Rattle.bike_requests.proofs.writing.put_command.Goals as goal

pub returns-in-SetStation : goal.returns-in-SetStation
returns-in-SetStation c = rw c.in-SetStation.is c.put-in-SetStation.ensures
