use Rattle.bike_sql.proofs.ParamLemmas.{bindings}
use Rattle.bike_recognition.specs.EarlierVersions.Earlier.{stations_layout}
use Rattle.bike_migrate.proofs.StepLemmas.{runs_does}
use Rattle.bike_migrate.proofs.TextLemmas.{lies, drop_writes, drops}
use Rattle.bike_migrate.proofs.build.drop_stations.Goals as goal

pub returns : goal.returns
returns g c =
    let layout = stations_layout c.args.earlier in
    runs_does c.run.ensures (search bindings) (λ db has. drop_writes _ layout c.drop_text.ensures db (lies has.1))
    (λ a b has count ran x. drops _ layout c.drop_text.ensures a b has.0 (lies has.1) count ran.0)
