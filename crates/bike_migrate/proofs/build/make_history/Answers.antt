use Rattle.bike_migrate.proofs.StepLemmas.{does_then}
use Rattle.bike_migrate.proofs.BuildLemmas.{history_stands, makes_history}
use Rattle.bike_migrate.proofs.build.make_history.Goals as goal

pub returns : goal.returns
returns g c = does_then c.in_ok-create_history.ensures (λ a b unnamed made. history_stands a b made) c.index_by_key.ensures (λ a b d x unnamed made index. makes_history a b d made index)
