use Rattle.std.proofs.Common.{[], ◌∷◌}
use Rattle.bike_book.specs.Tables.{Stations, Riders, Books}
use Rattle.bike_schema.specs.Layouts.{name_of}
use Rattle.bike_migrate.proofs.StepLemmas.{does_under, does_both}
use Rattle.bike_migrate.proofs.BuildLemmas.{still_unnamed_all}
use Rattle.bike_migrate.proofs.build.make_later.Goals as goal

pub returns : goal.returns
returns g c = does_both (does_under (λ db unnamed. (unnamed.0, tt)) c.in_ok-make_history.ensures)
    (λ a b unnamed made. still_unnamed_all (name_of Stations ∷ name_of Riders ∷ name_of Books ∷ []) a b made.unnamed unnamed.1) c.make_stations.ensures
