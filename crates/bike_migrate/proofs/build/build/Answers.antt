use Rattle.bike_migrate.proofs.StepLemmas.{does_under, does_then}
use Rattle.bike_migrate.proofs.FillLemmas.{made_beside, fills}
use Rattle.bike_migrate.proofs.build.build.Goals as goal

pub returns : goal.returns
returns g c = does_then (does_under (λ db at. at.0) c.in_ok-make_tables.ensures) (λ a b at made. made_beside c.args.earlier a b at.0 made) c.fill.ensures
    (λ a b d x at made writes. fills c.args.earlier a b d c.args.stations.now c.args.riders.now c.args.kept.now at.0 at.1 made writes)
