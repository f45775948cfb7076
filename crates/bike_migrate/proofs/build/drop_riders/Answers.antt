use Rattle.bike_sql.proofs.ParamLemmas.{bindings}
use Rattle.bike_recognition.specs.EarlierVersions.Riders.{riders_layout}
use Rattle.bike_migrate.proofs.StepLemmas.{runs_does}
use Rattle.bike_migrate.proofs.TextLemmas.{lies, drop_writes, drops, drop_riders_text, riders_drops}
use Rattle.bike_migrate.proofs.build.drop_riders.Goals as goal

pub returns : goal.returns
returns g c = runs_does c.run.ensures (search bindings) (λ db has. drop_writes drop_riders_text riders_layout riders_drops db (lies has.1))
    (λ a b has count ran x. drops drop_riders_text riders_layout riders_drops a b has.0 (lies has.1) count ran.0)
