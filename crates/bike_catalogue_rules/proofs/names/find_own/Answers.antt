use Rattle.std.proofs.Common.{refl}
use Rattle.bike_sql.proofs.ChainLaws.{reads_as}
use Rattle.bike_catalogue_rules.proofs.NamesJudged.{own_is}
use Rattle.bike_catalogue_rules.proofs.names.find_own.Goals as goal

pub returns : goal.returns
returns g c = reads_as c.in_ok-first.ensures (λ db is. own_is db _ c.in_ok-first.first refl is)
