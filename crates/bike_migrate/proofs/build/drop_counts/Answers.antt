use Rattle.bike_sql.proofs.ParamLemmas.{bindings}
use Rattle.bike_recognition.specs.EarlierVersions.Counts.{counts_layout}
use Rattle.bike_migrate.proofs.StepLemmas.{runs_does}
use Rattle.bike_migrate.proofs.TextLemmas.{lies, drop_writes, drops, drop_counts_text, counts_drops}
use Rattle.bike_migrate.proofs.build.drop_counts.Goals as goal

pub returns : goal.returns
returns g c = runs_does c.run.ensures (search bindings) (λ db has. drop_writes drop_counts_text counts_layout counts_drops db (lies has.1))
    (λ a b has count ran x. drops drop_counts_text counts_layout counts_drops a b has.0 (lies has.1) count ran.0)
