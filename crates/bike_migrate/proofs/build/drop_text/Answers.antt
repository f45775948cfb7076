use Rattle.bike_migrate.proofs.TextLemmas.{first_drops, second_drops, third_drops}
use Rattle.bike_migrate.proofs.build.drop_text.Goals as goal

pub returns-in-First : goal.returns-in-First
returns-in-First c = rw c.in-First.is first_drops

pub returns-in-Second : goal.returns-in-Second
returns-in-Second c = rw c.in-Second.is second_drops

pub returns-in-Third : goal.returns-in-Third
returns-in-Third c = rw c.in-Third.is third_drops
