use Rattle.bike_json.proofs.Reading.{string_back}
use Rattle.bike_json.proofs.laws.string_laws.Goals as goal

pub returns : goal.returns
returns c = string_back
