use Rattle.bike_sql.proofs.ParamLemmas.{bindings}
use Rattle.bike_migrate.proofs.StepLemmas.{runs_does}
use Rattle.bike_migrate.proofs.TextLemmas.{by_key_text, by_key_only, index_writes, makes_by_key}
use Rattle.bike_migrate.proofs.build.index_by_key.Goals as goal

pub returns : goal.returns
returns g c = runs_does c.run.ensures (search bindings) (λ db any. index_writes by_key_text by_key_only db.schema) (λ a b has count ran x. makes_by_key a b has count ran.0)
