use Rattle.std.proofs.Common.{◌==◌, not, sym, ap, ◌∙◌}
use Rattle.bike_fleet_reads.specs.Fleet.{has_broken}
use Rattle.bike_fleet_reads.proofs.BrokenLemmas.{none_broken}
use Rattle.bike_fleet_reads.proofs.stations.has_broken.Goals as goal

pub returns-in-Some-clause-works : goal.returns-in-Some-clause-works
returns-in-Some-clause-works c none = none_broken c.args.numbers.now (ap has_broken c.in-Some.is ∙ ap (λ n. not (n == 0)) (sym c.get.ensures.value) ∙ none)
