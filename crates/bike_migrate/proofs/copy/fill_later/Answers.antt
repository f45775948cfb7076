use Rattle.bike_schema.proofs.MakesLemmas.{makes_ours}
use Rattle.bike_migrate.proofs.StepLemmas.{does_then}
use Rattle.bike_migrate.proofs.FillLemmas.{later_filled}
use Rattle.bike_migrate.proofs.copy.fill_later.Goals as goal

pub returns : goal.returns
returns g c = does_then c.in_ok-fill_riders.ensures (λ a b ours only. makes_ours only.makes) c.fill_requests.ensures
    (λ a b d x ours first second. later_filled c.args.riders.now c.args.kept.now a b d first second)
