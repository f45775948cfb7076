-- The law is the lemma.
use Rattle.bike_sql.proofs.ChangeLaws.{change_is}
use Rattle.bike_sql.proofs.laws.change_law.Goals as goal

pub returns : goal.returns
returns c = change_is
