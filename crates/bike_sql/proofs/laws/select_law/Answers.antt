-- The law is the lemma.
use Rattle.bike_sql.proofs.ReadLaws.{select_is}
use Rattle.bike_sql.proofs.laws.select_law.Goals as goal

pub returns : goal.returns
returns c = select_is
