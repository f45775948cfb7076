use Rattle.bike_readings.proofs.SoundBounds.{has_bounds}
use Rattle.bike_readings.proofs.laws.keeps_bounds.Goals as goal

pub returns : goal.returns
returns c = has_bounds
