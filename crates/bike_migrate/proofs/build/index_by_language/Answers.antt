use Rattle.bike_sql.proofs.ParamLemmas.{bindings}
use Rattle.bike_migrate.proofs.StepLemmas.{runs_does}
use Rattle.bike_migrate.proofs.TextLemmas.{language_text, language_only, index_writes, makes_language}
use Rattle.bike_migrate.proofs.build.index_by_language.Goals as goal

pub returns : goal.returns
returns g c = runs_does c.run.ensures (search bindings) (λ db any. index_writes language_text language_only db.schema) (λ a b has count ran x. makes_language a b has count ran.0)
