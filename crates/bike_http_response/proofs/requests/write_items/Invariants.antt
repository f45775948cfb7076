use Rattle.std.proofs.Common.{drop}
use Rattle.bike_json.proofs.Rows.{SoFar}
use Rattle.bike_http_response.specs.Bodies.{request_tree}
use Rattle.bike_http_response.proofs.requests.write_items.Given as goal

abbrev pub invariant-loop-request : goal.invariant-loop-request
invariant-loop-request g l =
    SoFar request_tree l.fn.json l.json (g.W.Output.contents l.fn.out) (g.W.Output.contents l.out) l.requests (drop l.request-index l.requests)
