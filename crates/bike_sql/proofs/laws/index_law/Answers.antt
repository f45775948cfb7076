-- The law is the lemma.
use Rattle.bike_sql.proofs.MakeLaws.{index_is}
use Rattle.bike_sql.proofs.laws.index_law.Goals as goal

pub returns : goal.returns
returns c = index_is
