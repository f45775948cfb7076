use Rattle.bike_fares.proofs.BoundLemmas.{fare_of-low, fare_of-high}
use Rattle.bike_fares.proofs.laws.greatest_fare_law.Goals as goal

pub returns-clause-low : goal.returns-clause-low
returns-clause-low c = fare_of-low

pub returns-clause-high : goal.returns-clause-high
returns-clause-high c = fare_of-high
