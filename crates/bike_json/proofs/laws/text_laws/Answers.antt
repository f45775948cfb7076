use Rattle.bike_json.proofs.OneText.{calls_begin, calls_end}
use Rattle.bike_json.proofs.laws.text_laws.Goals as goal

pub returns : goal.returns
returns c = record { begins = calls_begin; whole = calls_end }
