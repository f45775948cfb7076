use Rattle.bike_migrate.proofs.StepLemmas.{does_then}
use Rattle.bike_migrate.proofs.BuildLemmas.{names_stand, indexed_both}
use Rattle.bike_migrate.proofs.build.create_indexes.Goals as goal

pub returns : goal.returns
returns g c = does_then c.in_ok-index_by_language.ensures (λ a b has made. names_stand a b made.indexes has) c.index_by_thing.ensures (λ a b d x has one other. indexed_both a b d one other)
