use Rattle.bike_migrate.proofs.StepLemmas.{does_then}
use Rattle.bike_migrate.proofs.BuildLemmas.{makes_names}
use Rattle.bike_migrate.proofs.build.make_names.Goals as goal

pub returns : goal.returns
returns g c = does_then c.in_ok-create_names.ensures (λ a b unnamed made. made.stands) c.create_indexes.ensures (λ a b d x unnamed made index. makes_names a b d made index)
