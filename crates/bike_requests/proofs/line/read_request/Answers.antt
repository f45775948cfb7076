use Rattle.bike_requests.proofs.CommandLaws.{parts_sound}
use Rattle.bike_requests.proofs.RequestLaws.{kept_good}
use Rattle.bike_requests.proofs.line.read_request.Goals as goal

pub keep_request-requires-clause-caller : goal.keep_request-requires-clause-caller
keep_request-requires-clause-caller c = kept_good _ _ c.in-Some.caller c.keep.result c.in-Some.ensures.read c.keep.ensures.value

pub keep_request-requires-clause-command : goal.keep_request-requires-clause-command
keep_request-requires-clause-command c = (parts_sound _ c.in_ok-command.command c.in_ok-command.ensures).read.good
