use Rattle.std.proofs.Common.{◌++◌, ap, sym}
use Rattle.bike_json.specs.Tree.{comma, text_of}
use Rattle.bike_json.specs.State.{has_more}
use Rattle.bike_json.proofs.Series.{Wrote_as}
use Rattle.bike_http_head.specs.declared.rejection.Rejection.{Rejection}
use Rattle.bike_http_response.specs.Bodies.{rejected_tree}
use Rattle.bike_http_response.proofs.body.write_rejected.Goals as goal

pub returns-in-BadRequest-clause-wrote : goal.returns-in-BadRequest-clause-wrote
returns-in-BadRequest-clause-wrote g c =
    Wrote_as (ap (λ (r : Rejection). comma (has_more c.args.json.now.top) ++ text_of (rejected_tree r)) (sym c.in-BadRequest.is)) c.write_error.ensures.wrote

pub returns-in-NotFound-clause-wrote : goal.returns-in-NotFound-clause-wrote
returns-in-NotFound-clause-wrote g c =
    Wrote_as (ap (λ (r : Rejection). comma (has_more c.args.json.now.top) ++ text_of (rejected_tree r)) (sym c.in-NotFound.is)) c.write_error-in-NotFound.ensures.wrote

pub returns-in-MethodNotAllowed-clause-wrote : goal.returns-in-MethodNotAllowed-clause-wrote
returns-in-MethodNotAllowed-clause-wrote g c =
    Wrote_as (ap (λ (r : Rejection). comma (has_more c.args.json.now.top) ++ text_of (rejected_tree r)) (sym c.in-MethodNotAllowed.is)) c.write_error-in-MethodNotAllowed.ensures.wrote

pub returns-in-TooLarge-clause-wrote : goal.returns-in-TooLarge-clause-wrote
returns-in-TooLarge-clause-wrote g c =
    Wrote_as (ap (λ (r : Rejection). comma (has_more c.args.json.now.top) ++ text_of (rejected_tree r)) (sym c.in-TooLarge.is)) c.write_error-in-TooLarge.ensures.wrote
