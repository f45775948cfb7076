use Rattle.std.proofs.Common.{rules}
use Rattle.bike_readings.proofs.network.read_station.Goals as goal

pub returns : goal.returns
returns c = search rules
