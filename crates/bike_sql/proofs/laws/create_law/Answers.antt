-- The law is the lemma.
use Rattle.bike_sql.proofs.MakeLaws.{create_is}
use Rattle.bike_sql.proofs.laws.create_law.Goals as goal

pub returns : goal.returns
returns c = create_is
