use Rattle.std.proofs.Common.{◌++◌, ap, sym}
use Rattle.bike_json.specs.Tree.{comma, text_of}
use Rattle.bike_json.specs.State.{has_more}
use Rattle.bike_json.proofs.Series.{Wrote_as}
use Rattle.bike_http_response.specs.Bodies.{body_of}
use Rattle.bike_http_response.specs.declared.answer.Answer.{Answer}
use Rattle.bike_http_response.proofs.body.write_body.Goals as goal

pub returns-in-Unavailable-clause-wrote : goal.returns-in-Unavailable-clause-wrote
returns-in-Unavailable-clause-wrote g c =
    Wrote_as (ap (λ (a : Answer). comma (has_more c.args.json.now.top) ++ text_of (body_of a)) (sym c.in-Unavailable.is)) c.write_error.ensures.wrote
