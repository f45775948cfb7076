-- The law is the lemma.
use Rattle.bike_sql.proofs.ReadLaws.{union_is}
use Rattle.bike_sql.proofs.laws.union_law.Goals as goal

pub returns : goal.returns
returns c = union_is
