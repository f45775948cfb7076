use Rattle.bike_sql.proofs.ParamLemmas.{bindings}
use Rattle.bike_migrate.proofs.StepLemmas.{runs_does}
use Rattle.bike_migrate.proofs.TextLemmas.{thing_text, thing_only, index_writes, makes_thing}
use Rattle.bike_migrate.proofs.build.index_by_thing.Goals as goal

pub returns : goal.returns
returns g c = runs_does c.run.ensures (search bindings) (λ db any. index_writes thing_text thing_only db.schema) (λ a b has count ran x. makes_thing a b has count ran.0)
