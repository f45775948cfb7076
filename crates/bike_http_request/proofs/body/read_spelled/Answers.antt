use Rattle.bike_http_request.proofs.Spelled.{spelled}
use Rattle.bike_http_request.proofs.body.read_spelled.Goals as goal

pub returns : goal.returns
returns c = spelled c.args.text.now c.read_command.result c.read_command.ensures.found c.read_command.ensures.only
