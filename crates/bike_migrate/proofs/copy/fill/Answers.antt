use Rattle.bike_schema.proofs.MakesLemmas.{makes_ours}
use Rattle.bike_migrate.proofs.StepLemmas.{does_then}
use Rattle.bike_migrate.proofs.FillLemmas.{both_filled}
use Rattle.bike_migrate.proofs.copy.fill.Goals as goal

pub returns : goal.returns
returns g c = does_then c.in_ok-fill_stations.ensures (λ a b has only. makes_ours only.makes) c.fill_later.ensures
    (λ a b d x has first second. both_filled c.args.stations.now c.args.riders.now c.args.kept.now a b d first second)
