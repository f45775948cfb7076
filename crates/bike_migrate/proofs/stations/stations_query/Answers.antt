use Rattle.bike_migrate.proofs.TextLemmas.{first_asks, second_asks, third_asks}
use Rattle.bike_migrate.proofs.stations.stations_query.Goals as goal

pub returns-in-First : goal.returns-in-First
returns-in-First c = rw c.in-First.is first_asks

pub returns-in-Second : goal.returns-in-Second
returns-in-Second c = rw c.in-Second.is second_asks

pub returns-in-Third : goal.returns-in-Third
returns-in-Third c = rw c.in-Third.is third_asks
