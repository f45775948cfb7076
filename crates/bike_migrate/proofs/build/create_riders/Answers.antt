use Rattle.bike_sql.proofs.ParamLemmas.{bindings}
use Rattle.bike_book.specs.Tables.{Riders}
use Rattle.bike_migrate.proofs.StepLemmas.{runs_does}
use Rattle.bike_migrate.proofs.TextLemmas.{create_writes, creates}
use Rattle.bike_migrate.proofs.build.create_riders.Goals as goal

pub returns : goal.returns
returns g c = runs_does c.run.ensures (search bindings) (λ db unnamed. create_writes Riders db.schema) (λ a b unnamed count ran x. creates Riders a b unnamed.0 count ran.0)
