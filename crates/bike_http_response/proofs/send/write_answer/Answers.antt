use Rattle.bike_http_response.proofs.Sending.{nothing_of}
use Rattle.bike_http_response.proofs.send.write_answer.Goals as goal

pub returns-in-None : goal.returns-in-None
returns-in-None g c = nothing_of _ c.args.answer.now
