-- The law is the lemma.
use Rattle.bike_sql.proofs.InsertLaws.{insert_is}
use Rattle.bike_sql.proofs.laws.insert_law.Goals as goal

pub returns : goal.returns
returns c = insert_is
