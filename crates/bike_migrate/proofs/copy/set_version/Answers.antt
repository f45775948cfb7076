use Rattle.bike_sql.proofs.ParamLemmas.{bindings}
use Rattle.bike_migrate.proofs.StepLemmas.{runs_does}
use Rattle.bike_migrate.proofs.TextLemmas.{version_writes, version_set}
use Rattle.bike_migrate.proofs.copy.set_version.Goals as goal

pub returns : goal.returns
returns g c = runs_does c.run.ensures (search bindings) version_writes (λ a b ours count ran x. version_set a b ours count ran)
