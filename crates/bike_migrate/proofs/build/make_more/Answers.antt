use Rattle.bike_recognition.specs.EarlierVersions.Earlier.{newest_names}
use Rattle.bike_migrate.proofs.StepLemmas.{does_under, does_both}
use Rattle.bike_migrate.proofs.BuildLemmas.{still_unnamed_all}
use Rattle.bike_migrate.proofs.build.make_more.Goals as goal

pub returns : goal.returns
returns g c = does_both (does_under (λ db unnamed. (unnamed.1.0, tt)) c.in_ok-make_names.ensures) (λ a b unnamed made. still_unnamed_all newest_names a b made.unnamed unnamed.1.1)
    c.make_later.ensures
