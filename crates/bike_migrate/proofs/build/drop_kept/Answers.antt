use Rattle.bike_sql.proofs.ParamLemmas.{bindings}
use Rattle.bike_migrate.proofs.StepLemmas.{runs_does}
use Rattle.bike_migrate.proofs.TextLemmas.{drop_kept_writes, drops_kept}
use Rattle.bike_migrate.proofs.build.drop_kept.Goals as goal

pub returns : goal.returns
returns g c = runs_does c.run.ensures (search bindings) (λ db has. drop_kept_writes db has.1) (λ a b has count ran x. drops_kept a b has.0 has.1 count ran.0)
