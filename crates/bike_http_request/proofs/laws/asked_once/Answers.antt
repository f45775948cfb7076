use Rattle.bike_http_request.proofs.Once.{asks_once}
use Rattle.bike_http_request.proofs.laws.asked_once.Goals as goal

pub returns : goal.returns
returns c = asks_once
